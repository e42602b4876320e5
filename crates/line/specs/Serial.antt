-- What a log of bytes says, and what doing it serially leaves.
--   limit              places are below it
--   entries_from p bs  the orders that stand whole in the bytes, the first at place p, up to the limit
--   entries bs         the orders of the log: those from place 0 on
--   log_of bs          the same as transactions; an order that is malformed does nothing
--   values_in          the values that a store holds, by key
--   malformed p os     the places of the malformed ones among orders that stand from place p on
--   formed os          how many are well-formed
--   State              what some orders came to: the values by key, how many orders were done, the places of the malformed
--   state_of           the state that the orders so far have left
--   start              the state before the first order
--   next_place s       the place of the next order
--   doing os s         what a state comes to once the orders os are done too
--   Executes bs e      an execution of the log, with the bytes behind its last order kept
--   Wanting e n        more memory is needed to take in n bytes than is at hand
-- Assumes nothing.
use Rattle.std.specs.Prelude.{◌≡◌, ℕ, suc, ◌+◌, ◌-◌, ◌/◌, ◌<◌, cond, ◌⊎◌, List, [], ◌∷◌, ◌++◌, map, length, take, drop, is_some, vec_items, vec_len, vec_capacity, slice_index}
use Rattle.orders.specs.Codec.{decoded}
use Rattle.orders.specs.Meaning.{transaction}
use Rattle.orders.specs.Transaction.{Transaction, serial}
use Rattle.line.specs.Frames.{frames, extent}
use Rattle.line.specs.declared.serial.Execution.{Execution}
use Rattle.line.specs.declared.serial.Progress.{Progress}
use Rattle.line.specs.declared.store.Store.{Store}

abbrev pub limit : ℕ
limit = 4294967295

unfoldable pub entries_from : ℕ → List ℕ → List (List ℕ)
entries_from p bs = take (limit - p) (frames bs)

abbrev pub entries : List ℕ → List (List ℕ)
entries bs = entries_from 0 bs

abbrev pub log_of : List ℕ → List Transaction
log_of bs = map transaction (entries bs)

abbrev pub values_in : Store → ℕ → ℕ
values_in s k = slice_index (vec_items s.values) k

unfoldable pub malformed : ℕ → List (List ℕ) → List ℕ
malformed p [] = []
malformed p (o ∷ os) = cond (is_some (decoded o)) (malformed (suc p) os) (p ∷ malformed (suc p) os)

unfoldable pub formed : List (List ℕ) → ℕ
formed [] = 0
formed (o ∷ os) = cond (is_some (decoded o)) (suc (formed os)) (formed os)

abbrev pub State : Type 0
State = (ℕ → ℕ) × ℕ × List ℕ

abbrev pub state_of : Progress → State
state_of p = (values_in p.store, p.done, vec_items p.malformed)

abbrev pub start : State
start = (λ k. 0, 0, [])

abbrev pub next_place : State → ℕ
next_place s = s.1 + length s.2

abbrev pub doing : List (List ℕ) → State → State
doing os s = (serial (map transaction os) s.0, s.1 + formed os, s.2 ++ malformed (next_place s) os)

pub record Executes (bs : List ℕ) (e : Execution) : Type 0 where
  pub values : values_in e.progress.store ≡ serial (log_of bs) (λ k. 0)
  pub done : e.progress.done ≡ formed (entries bs)
  pub malformed_are : vec_items e.progress.malformed ≡ malformed 0 (entries bs)
  pub rest : vec_items e.rest ≡ drop (extent (entries bs)) bs

abbrev pub Wanting : Execution → ℕ → Type 0
Wanting e n =
    (vec_capacity e.progress.malformed < vec_len e.progress.malformed + (vec_len e.rest / 2 + n / 2 + 1)) ⊎ (vec_capacity e.rest < vec_len e.rest + n)
