-- The log as the houses see it: who has which key, and what an order does where.
--   at os i          the order at a place of the log; one that does nothing beyond its end
--   stood os f i     the values of all keys before the order at i, serially, from the values f
--   own              own i k: the house that has key k when the orders before place i are done; an order at i reads k at own i k, and writes
--                    it at own (i + 1) k
--   reads_in         the order at i reads key k in house h; writes_in: it writes it there
--   own_reads        the keys that the order at i reads in house h, in their order: what the house notes and tells; own_writes likewise
--   reads, writes    whether there is such a key; touches: whether there is one of either
--   conflict         the orders at i and j meet at key k of house h: one writes it there, and the other writes or reads it there
--   effect           what an order leaves in a key, from the values read, f, and, where it does not read that key, from what stands there, v
-- Assumes nothing.
use Rattle.std.specs.Prelude.{ℕ, zero, suc, Bool, true, false, cond, ◌&&◌, ◌||◌, List, [], ◌∷◌, map, filter, ◌==◌, nat_eq, slice_index_or}
use Rattle.orders.specs.Transaction.{Transaction, is_in, after, leaves, idle}

abbrev pub houses : ℕ
houses = 16

abbrev pub at : List Transaction → ℕ → Transaction
at os i = slice_index_or os i idle

unfoldable pub stood : List Transaction → (ℕ → ℕ) → ℕ → ℕ → ℕ
stood os first zero = first
stood os first (suc i) = after (at os i) (stood os first i)

abbrev pub some : List ℕ → Bool
some [] = false
some (k ∷ ks) = true

module _ (os : List Transaction) (own : ℕ → ℕ → ℕ) (h : ℕ) where
  abbrev pub reads_in : ℕ → ℕ → Bool
  reads_in i k = is_in k (at os i).reads && own i k == h

  abbrev pub writes_in : ℕ → ℕ → Bool
  writes_in i k = is_in k (at os i).writes && own (suc i) k == h

  abbrev pub own_reads : ℕ → List ℕ
  own_reads i = filter (λ k. nat_eq (own i k) h) (at os i).reads

  abbrev pub own_writes : ℕ → List ℕ
  own_writes i = filter (λ k. nat_eq (own (suc i) k) h) (at os i).writes

  abbrev pub reads : ℕ → Bool
  reads i = some (own_reads i)

  abbrev pub writes : ℕ → Bool
  writes i = some (own_writes i)

  abbrev pub touches : ℕ → Bool
  touches i = reads i || writes i

  abbrev pub conflict : ℕ → ℕ → ℕ → Bool
  conflict i j k = (writes_in i k && (writes_in j k || reads_in j k)) || (reads_in i k && writes_in j k)

abbrev pub effect : Transaction → (ℕ → ℕ) → ℕ → ℕ → ℕ
effect t f k v = leaves t (map f t.reads) k (cond (is_in k t.reads) (f k) v)
