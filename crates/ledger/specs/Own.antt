-- The keys of an order that are a house's own, and the values that it has of those that the order reads.
--   owns h k           key k belongs to house h
--   own_marks w h ks   a mark for each of the keys that belong to the house
--   marks_for h t      the marks of an order: what it writes there, then what it reads
--   own_count h ks     how many of the keys belong to the house
--   marked w ms        whether there is a mark that writes (w) or reads
--   alike_marks        two lists have the same marks
--   slot_count h t     how many slots the house keeps for an order: one for each key that it reads, if it touches the house
--   slot_in vs k       what a house's values vs have for a key of it
--   note_of h ks vs    of the slots vs for the keys ks, the values of those that belong to the house
--   slot_of ks vs k    the slot of a key, if it has a value
--   known vs           every slot has a value
--   own_known h ks vs  every slot of a key that belongs to the house has a value
--   given vs           the values, 0 for a slot without
--   noting h f ks vs   the slots, once the house has noted its values f of its own keys
--   telling h ks ns vs the slots, once house h has told the values ns
--   told h ks vs       the house has told before: its first key has a value
-- Assumes nothing.
use Rattle.std.specs.Prelude.{ℕ, zero, suc, ◌/◌, ◌%◌, Bool, true, false, cond, ◌&&◌, ◌||◌, List, [], ◌∷◌, ◌++◌, map, length, is_some, Some, None, Option, ◌==◌, slice_index}
use Rattle.std.specs.Option.{unwrap_or}
use Rattle.orders.specs.Transaction.{Transaction}
use Rattle.turns.specs.declared.entry.Mark.{Mark}
use Rattle.turns.specs.Queues.{both}

abbrev pub owns : ℕ → ℕ → Bool
owns h k = k % 16 == h

abbrev pub own_marks : Bool → ℕ → List ℕ → List Mark
own_marks w h [] = []
own_marks w h (k ∷ ks) = cond (owns h k) (record { key = k; writes = w } ∷ own_marks w h ks) (own_marks w h ks)

abbrev pub marks_for : ℕ → Transaction → List Mark
marks_for h t = own_marks true h t.writes ++ own_marks false h t.reads

abbrev pub own_count : ℕ → List ℕ → ℕ
own_count h [] = zero
own_count h (k ∷ ks) = cond (owns h k) (suc (own_count h ks)) (own_count h ks)

abbrev pub marked : Bool → List Mark → Bool
marked w [] = false
marked w (m ∷ ms) = both w m.writes || marked w ms

abbrev pub alike_marks : List Mark → List Mark → Bool
alike_marks [] [] = true
alike_marks [] (n ∷ ns) = false
alike_marks (m ∷ ms) [] = false
alike_marks (m ∷ ms) (n ∷ ns) = m.key == n.key && (both m.writes n.writes && alike_marks ms ns)

abbrev pub slot_count : ℕ → Transaction → ℕ
slot_count h t = cond (length (marks_for h t) == 0) 0 (length t.reads)

abbrev pub slot_in : List ℕ → ℕ → ℕ
slot_in vs k = slice_index vs (k / 16)

abbrev pub note_of : ℕ → List ℕ → List (Option ℕ) → List ℕ
note_of h [] vs = []
note_of h (k ∷ ks) [] = []
note_of h (k ∷ ks) (v ∷ vs) = cond (owns h k) (unwrap_or v 0 ∷ note_of h ks vs) (note_of h ks vs)

abbrev pub slot_of : List ℕ → List (Option ℕ) → ℕ → Option ℕ
slot_of [] vs k = None
slot_of (x ∷ ks) [] k = None
slot_of (x ∷ ks) (v ∷ vs) k = cond (k == x) v (slot_of ks vs k)

abbrev pub known : List (Option ℕ) → Bool
known [] = true
known (v ∷ vs) = is_some v && known vs

abbrev pub own_known : ℕ → List ℕ → List (Option ℕ) → Bool
own_known h [] vs = true
own_known h (k ∷ ks) [] = true
own_known h (k ∷ ks) (v ∷ vs) = cond (owns h k) (is_some v) true && own_known h ks vs

abbrev pub given : List (Option ℕ) → List ℕ
given vs = map (λ v. unwrap_or v 0) vs

abbrev pub noting : ℕ → (ℕ → ℕ) → List ℕ → List (Option ℕ) → List (Option ℕ)
noting h f [] vs = vs
noting h f (k ∷ ks) [] = []
noting h f (k ∷ ks) (v ∷ vs) = cond (owns h k) (Some (f k)) v ∷ noting h f ks vs

abbrev pub telling : ℕ → List ℕ → List ℕ → List (Option ℕ) → List (Option ℕ)
telling h [] ns vs = vs
telling h (k ∷ ks) ns [] = []
telling h (k ∷ ks) [] (v ∷ vs) = v ∷ vs
telling h (k ∷ ks) (n ∷ ns) (v ∷ vs) = cond (owns h k) (Some n ∷ telling h ks ns vs) (v ∷ telling h ks (n ∷ ns) vs)

abbrev pub told : ℕ → List ℕ → List (Option ℕ) → Bool
told h [] vs = false
told h (k ∷ ks) [] = false
told h (k ∷ ks) (v ∷ vs) = cond (owns h k) (is_some v) (told h ks vs)
