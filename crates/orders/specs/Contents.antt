-- What an order says, as plain lists.
--   Contents     a read set, a write set and the instructions
--   contents_of  of an order of the code
--   nothing      of an order that does nothing
--   valid        whether an order with these contents exists
-- Assumes nothing.
use Rattle.std.specs.Prelude.{ℕ, Bool, ◌&&◌, List, [], length, nat_le}
use Rattle.bounded.specs.Items.{items_of}
use Rattle.orders.specs.Valid.{rising, all_fit}
use Rattle.orders.specs.declared.instruction.Instruction.{Instruction}
use Rattle.orders.specs.declared.order.KeySet.{KeySet}
use Rattle.orders.specs.declared.order.Order.{Order}

pub record Contents : Type 0 where
  pub reads : List ℕ
  pub writes : List ℕ
  pub code : List Instruction

abbrev pub keys_of : KeySet → List ℕ
keys_of s = items_of s.keys

abbrev pub contents_of : Order → Contents
contents_of o = record { reads = keys_of o.reads; writes = keys_of o.writes; code = items_of o.code }

abbrev pub nothing : Contents
nothing = record { reads = []; writes = []; code = [] }

-- at most sixteen keys, rising
abbrev pub key_set : List ℕ → Bool
key_set ks = nat_le (length ks) 16 && rising 0 ks

-- at most sixty-four instructions that fit a write set of w keys
abbrev pub program : ℕ → List Instruction → Bool
program w is = nat_le (length is) 64 && all_fit w is

abbrev pub valid : Contents → Bool
valid c = key_set c.reads && key_set c.writes && program (length c.writes) c.code
