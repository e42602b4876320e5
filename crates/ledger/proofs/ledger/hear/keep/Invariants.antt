use Rattle.std.proofs.Common.{◌≡◌, [], length, get_or, drop, set}
use Rattle.orders.specs.Contents.{keys_of}
use Rattle.rows.specs.Lists.{rows_of}
use Rattle.ledger.proofs.Telling.{paired, put_all}
use Rattle.ledger.proofs.ledger.hear.keep.Given as goal

-- what is still to be put, over what stands now, is the whole over what stood first
abbrev pub invariant-loop-i : goal.invariant-loop-i
invariant-loop-i l =
    set (rows_of l.slots) l.index (put_all (drop (length l.yielded) (paired l.fn.teller.number (keys_of l.keys) l.values)) (get_or (rows_of l.slots) l.index []))
    ≡ set (rows_of l.initial.slots) l.index (put_all (paired l.fn.teller.number (keys_of l.keys) l.values) (get_or (rows_of l.initial.slots) l.index []))
