-- The queues of a house, and what looking through one finds.
--   entered q i ms     the entries of the order at place i, with the marks ms, in the queue of the key with number q
--   queue q n          the queue of the key with number q: the entries of the undone ones of the first n orders, in their order
--   alike              two queues have the same entries
--   without i es       a queue without the entries of place i, looked for no further than that place
--   without_from i k es   the same behind its first k entries, which stay
--   clear_in p b w es  no entry before place p, but those of place b, keeps one waiting that writes (w) or only reads
--   next_in i w es     the places that may go on once the order at i, which writes (w) or only reads, is done: those of the first entry
--                      that is not its own and, where it writes, of the reads behind that, up to the first that writes
--   nexts n i j ms     the place j is among these, for the order at i, in the queue of one of its marks ms
--   enter_all, leave_all    all queues, once an order with these marks has come behind the others; once it is done
-- Assumes nothing.
use Rattle.std.specs.Prelude.{ℕ, zero, suc, Bool, true, false, cond, not, ◌&&◌, ◌||◌, List, [], ◌∷◌, ◌++◌, ◌==◌, nat_lt, slice_index_or, slice_set}
use Rattle.orders.specs.Transaction.{is_in}
use Rattle.turns.specs.Marks.{slot}
use Rattle.turns.specs.declared.entry.Mark.{Mark}
use Rattle.turns.specs.declared.entry.Entry.{Entry}

abbrev pub entry : ℕ → Bool → Entry
entry i w = record { place = i; writes = w }

abbrev pub entered : ℕ → ℕ → List Mark → List Entry
entered q i [] = []
entered q i (m ∷ ms) = cond (slot m.key == q) (entry i m.writes ∷ entered q i ms) (entered q i ms)

module _ (marks : ℕ → List Mark) (done : ℕ → Bool) where
  unfoldable pub queue : ℕ → ℕ → List Entry
  queue q zero = []
  queue q (suc j) = queue q j ++ cond (done j) [] (entered q j (marks j))

abbrev pub both : Bool → Bool → Bool
both true b = b
both false b = not b

abbrev pub alike : List Entry → List Entry → Bool
alike [] [] = true
alike [] (e ∷ es) = false
alike (d ∷ ds) [] = false
alike (d ∷ ds) (e ∷ es) = d.place == e.place && (both d.writes e.writes && alike ds es)

unfoldable pub without : ℕ → List Entry → List Entry
without i [] = []
without i (e ∷ es) = cond (nat_lt i e.place) (e ∷ es) (cond (e.place == i) (without i es) (e ∷ without i es))

unfoldable pub without_from : (i k : ℕ) → List Entry → List Entry
without_from i zero es = without i es
without_from i (suc k) [] = []
without_from i (suc k) (e ∷ es) = e ∷ without_from i k es

unfoldable pub clear_in : (p b : ℕ) → Bool → List Entry → Bool
clear_in p b w [] = true
clear_in p b w (e ∷ es) = cond (nat_lt e.place p) ((e.place == b || not (w || e.writes)) && clear_in p b w es) true

unfoldable pub next_in : ℕ → Bool → List Entry → List ℕ
next_in i w [] = []
next_in i w (e ∷ es) = cond (e.place == i) (next_in i w es) (e.place ∷ cond (w && not e.writes) (next_in i w es) [])

-- whether the order at j may go on, for some of the marks of the one at i, by the queues of the first n orders
unfoldable pub nexts : (ℕ → List Mark) → (ℕ → Bool) → (n i j : ℕ) → List Mark → Bool
nexts marks done n i j [] = false
nexts marks done n i j (m ∷ ms) = is_in j (next_in i m.writes (queue marks done (slot m.key) n)) || nexts marks done n i j ms

unfoldable pub enter_all : ℕ → List Mark → List (List Entry) → List (List Entry)
enter_all i [] qs = qs
enter_all i (m ∷ ms) qs = enter_all i ms (slice_set qs (slot m.key) (slice_index_or qs (slot m.key) [] ++ entry i m.writes ∷ []))

unfoldable pub leave_all : ℕ → List Mark → List (List Entry) → List (List Entry)
leave_all i [] qs = qs
leave_all i (m ∷ ms) qs = leave_all i ms (slice_set qs (slot m.key) (without i (slice_index_or qs (slot m.key) [])))
