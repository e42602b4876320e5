-- One house as the machine sees it, and the plan that the houses follow.
--   House        have: how many orders of the log it has; value: of each key; noted: its journal, the values that it noted for an order, in the
--                order of the keys that it reads there; synced: whether an entry of it is on disk; wrote: whether it has written its part of
--                an order since it last came up; heard: what it was told stood in a key for an order; place, saved: its checkpoint, the values as the
--                orders before the place leave them; copied: the last place that a house has said it copied
--   fresh        a house at the start
--   done         an order is done in the house: it lies before the checkpoint; or the house has written its part; or, where it writes none of its
--                keys, has noted what it reads; or has none of its keys
--   Ready        every earlier order that conflicts is done in the house: it may look, and, once it knows what it needs, write
--   knows        what the house knows to have stood in a key for an order: by its own note, or since it was told
--   Plan         own: who has a key at a place. need i h k: house h has to know what stood in key k before it writes for the order at i.
--                passable h s i: house h, in state s, may put the order at i behind its checkpoint
--   Sound        what a plan has to meet
--   base         key k belongs to house k mod 16, a writer has to know all that is read, and what is done may be put behind a checkpoint
-- Assumes nothing.
use Rattle.std.specs.Prelude.{◌≡◌, ℕ, suc, ◌%◌, ◌<◌, Bool, true, false, cond, ◌||◌, ◌⊎◌, List, is_some, Some, None, Option, ◌==◌, nat_lt}
use Rattle.orders.specs.Transaction.{Transaction, lookup, is_in}
use Rattle.protocol.specs.Log.{houses, at, writes_in, own_reads, reads, writes, conflict, effect}

pub record House : Type 0 where
  pub have : ℕ
  pub value : ℕ → ℕ
  pub noted : ℕ → Option (List ℕ)
  pub synced : ℕ → Bool
  pub wrote : ℕ → Bool
  pub heard : ℕ → ℕ → Option ℕ
  pub place : ℕ
  pub saved : ℕ → ℕ
  pub copied : ℕ → ℕ

abbrev pub fresh : (ℕ → ℕ) → House
fresh first = record { have = 0; value = first; noted = λ i. None; synced = λ i. false; wrote = λ i. false; heard = λ i k. None; place = 0; saved = first; copied = λ g. 0 }

module _ (os : List Transaction) (own : ℕ → ℕ → ℕ) (h : ℕ) where
  abbrev pub done : House → ℕ → Bool
  done s i = nat_lt i s.place || cond (writes os own h i) (s.wrote i) (cond (reads os own h i) (is_some (s.noted i)) true)

  abbrev pub Ready : House → ℕ → Type 0
  Ready s i = (j k : ℕ) → j < i → conflict os own h i j k ≡ true → done s j ≡ true

  abbrev pub from_note : ℕ → Option (List ℕ) → ℕ → Option ℕ
  from_note i None k = None
  from_note i (Some vs) k = Some (lookup (own_reads os own h i) vs k 0)

  abbrev pub knows : House → ℕ → ℕ → Option ℕ
  knows s i k = cond (own i k == h) (from_note i (s.noted i) k) (s.heard i k)

pub record Plan : Type 0 where
  pub own : ℕ → ℕ → ℕ
  pub need : ℕ → ℕ → ℕ → Bool
  pub passable : ℕ → House → ℕ → Bool

pub record Sound (os : List Transaction) (p : Plan) : Type 0 where
  pub housed : (i k : ℕ) → p.own i k < houses
  -- a key changes hands only by an order that reads and writes it
  pub moves : (i k : ℕ) → (p.own (suc i) k ≡ p.own i k) ⊎ ((is_in k (at os i).reads ≡ true) × (is_in k (at os i).writes ≡ true))
  -- what a house has to know is enough for what it writes
  pub enough : (i h k v : ℕ) (f g : ℕ → ℕ) → writes_in os p.own h i k ≡ true → ((j : ℕ) → is_in j (at os i).reads ≡ true → p.need i h j ≡ true → f j ≡ g j) →
      effect (at os i) f k v ≡ effect (at os i) g k v
  -- what is put behind a checkpoint is done
  pub passes : (h i : ℕ) (s : House) → p.passable h s i ≡ true → done os p.own h s i ≡ true

abbrev pub base : List Transaction → Plan
base os = record { own = λ i k. k % houses; need = λ i h k. true; passable = λ h s i. done os (λ j k. k % houses) h s i }
