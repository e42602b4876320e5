use Rattle.std.proofs.Common.{◌≡◌, ◌-◌, take}
use Rattle.orders.specs.Codec.{many, prepend}
use Rattle.orders.proofs.order.decode.read_items.Given as goal

-- the items read so far, with those still to be read, are what the whole is
abbrev pub invariant-loop-i : goal.invariant-loop-i
invariant-loop-i g l = prepend (take l.i l.list.items) (many (g.R.Reader.reads l.reader) (l.len - l.i) l.rest) ≡ many (g.R.Reader.reads l.reader) l.len l.bytes
