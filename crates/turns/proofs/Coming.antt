-- The queues while an order comes into them, and the room that they have.
use Rattle.std.proofs.Common.{◌≡◌, ℕ, zero, suc, ◌+◌, ◌<◌, ◌≤◌, Bool, true, false, cond, List, [], ◌∷◌, ◌++◌, map, length, get_or, take, drop, set, sym, refl, ap, ◌∙◌, inl, inr, add-one, arith}
use Rattle.std.proofs.lemmas.List.{get_or_append_left, get_or_push, get_or-set_same, get_or-set_other, length-map, map-set, set-get_or, at_drop_more}
use Rattle.std.proofs.ByRecursion.{All-weaker, All-more, All-get_or, has_get_or}
use Rattle.std.proofs.lemmas.Bool.{cases_eq, cases_Bool, cond-false, cond-true}
use Rattle.turns.specs.Marks.{slot}
use Rattle.turns.specs.Entries.{entries_in}
use Rattle.turns.specs.Queues.{entry, entered, queue, alike, enter_all}
use Rattle.turns.specs.Rooms.{room_in, room_at, Roomy, Cramped, Empty}
use Rattle.turns.specs.declared.entry.Mark.{Mark}
use Rattle.turns.specs.declared.entry.Entry.{Entry}
use Rattle.turns.specs.declared.queue.Queue.{Queue}
use Rattle.turns.proofs.Alike.{same_from_alike, alike_from_same}
use Rattle.turns.proofs.Leaving.{queue_agrees, enter_all_queue}
use Rattle.turns.proofs.Going.{get_or_map_read}

-- no orders, no entries
empty_at : (qs : List Queue) (q : ℕ) → Empty qs → get_or (map entries_in qs) q [] ≡ []
empty_at [] q e = refl
empty_at (x ∷ qs) zero e = e.0
empty_at (x ∷ qs) (suc q) e = empty_at qs q e.1

pub queued_at_first : (marks : ℕ → List Mark) (done : ℕ → Bool) (qs : List Queue) (q n : ℕ) → n ≡ 0 → Empty qs → alike (get_or (map entries_in qs) q []) (queue marks done q n) ≡ true
unfolding queue
queued_at_first marks done qs q n none e = alike_from_same (get_or (map entries_in qs) q []) (queue marks done q n) (empty_at qs q e ∙ sym (ap (queue marks done q) none))

-- one queue, x at s, becomes y
module _ (qs : List Queue) (s : ℕ) (x y : Queue) (within : s < length qs) (is : x ≡ get_or qs s x) where
  pub room_read : room_at qs s ≡ room_in x
  room_read = get_or_map_read room_in qs s x 0 within is

  pub room_here : room_at (set qs s y) s ≡ room_in y
  room_here = ap (λ ns. get_or ns s 0) (map-set room_in qs s y) ∙ get_or-set_same (map room_in qs) s (room_in y) 0 (omega (arith, length-map qs room_in))

  room_elsewhere : (t : ℕ) → (t ≡ s → ⊥) → room_at (set qs s y) t ≡ room_at qs t
  room_elsewhere t ne = ap (λ ns. get_or ns t 0) (map-set room_in qs s y) ∙ get_or-set_other (map room_in qs) s t (room_in y) 0 ne

  -- what is left of the room for n
  room_left : (m n t : ℕ) → m ≤ n → (n ≤ room_in x → m ≤ room_in y) → n ≤ room_at qs t → m ≤ room_at (set qs s y) t
  room_left m n t fewer one l =
      elim (cases_eq t s) [
        | inl e ↦
            let a : room_at qs t ≡ room_in x = ap (room_at qs) e ∙ room_read in
            let b : room_at (set qs s y) t ≡ room_in y = ap (room_at (set qs s y)) e ∙ room_here in
            let o : m ≤ room_in y = one (omega arith) in
            omega arith
        | inr ne ↦ let a : room_at (set qs s y) t ≡ room_at qs t = room_elsewhere t ne in omega arith
      ]

  pub roomy_left : (m n : ℕ) (ms : List Mark) → m ≤ n → (n ≤ room_in x → m ≤ room_in y) → Roomy qs n ms → Roomy (set qs s y) m ms
  roomy_left m n ms fewer one =
      All-weaker (λ (a : Mark). n ≤ room_at qs (slot a.key)) (λ (a : Mark). m ≤ room_at (set qs s y) (slot a.key)) (λ a l. room_left m n (slot a.key) fewer one l) ms

  pub room_grows : (t : ℕ) → room_in x ≤ room_in y → room_at qs t ≤ room_at (set qs s y) t
  room_grows t more = room_left (room_at qs t) (room_at qs t) t (omega arith) (λ l. omega arith) (omega arith)

  -- the same entries, in another place
  pub entries_kept : entries_in y ≡ entries_in x → map entries_in (set qs s y) ≡ map entries_in qs
  entries_kept same =
      map-set entries_in qs s y ∙ ap (set (map entries_in qs) s) (same ∙ sym (get_or_map_read entries_in qs s x [] within is)) ∙ set-get_or (map entries_in qs) s []

-- the mark at an index, whose queue is x, at s
module _ (at s : ℕ) (ms : List Mark) (d : Mark) (l : at < length ms) (key : s ≡ slot (get_or ms at d).key) (qs : List Queue) (x y : Queue) (within : s < length qs) (is : x ≡ get_or qs s x) where
  pub room_of_mark : (n : ℕ) → Roomy qs n ms → n ≤ room_in x
  room_of_mark n r =
      let a : n ≤ room_at qs (slot (get_or ms at d).key) = All-get_or (λ (m : Mark). n ≤ room_at qs (slot m.key)) ms at d l r in
      let b : room_at qs (slot (get_or ms at d).key) ≡ room_in x = ap (room_at qs) (sym key) ∙ room_read qs s x y within is in
      omega arith

  -- one queue more that has room
  pub roomy_more : room_in x ≤ room_in y → length ms ≤ room_in y → Roomy qs (length ms) (take at ms) → Roomy (set qs s y) (length ms) (take (at + 1) ms)
  roomy_more more room r =
      All-more (λ (m : Mark). length ms ≤ room_at (set qs s y) (slot m.key)) ms at d l
      (roomy_left qs s x y within is (length ms) (length ms) (take at ms) (omega arith) (λ e. omega arith) r)
      (let a : room_at (set qs s y) (slot (get_or ms at d).key) ≡ room_in y = ap (room_at (set qs s y)) (sym key) ∙ room_here qs s x y within is in omega arith)

  -- a queue that has not room now had not before
  pub cramped_before : (before : List Queue) → ((t : ℕ) → room_at before t ≤ room_at qs t) → room_in x < length ms → Cramped before ms
  cramped_before before grew few = (
    get_or ms at d,
    has_get_or ms at d l,
    let a : room_at qs (slot (get_or ms at d).key) ≡ room_in x = ap (room_at qs) (sym key) ∙ room_read qs s x y within is in omega (arith, grew (slot (get_or ms at d).key)),
  )

  pub enters_next : (i : ℕ) → entries_in y ≡ entries_in x ++ entry i (get_or ms at d).writes ∷ [] → enter_all i (drop (at + 1) ms) (map entries_in (set qs s y)) ≡ enter_all i (drop at ms) (map entries_in qs)
  unfolding enter_all
  enters_next i pushed =
      let es = map entries_in qs in
      let e = entry i (get_or ms at d).writes in
      let changed : map entries_in (set qs s y) ≡ set es s (get_or es s [] ++ e ∷ []) =
      map-set entries_in qs s y ∙ ap (set es s) (pushed ∙ ap (λ fs. fs ++ e ∷ []) (sym (get_or_map_read entries_in qs s x [] within is))) in
      let step : enter_all i (drop at ms) es ≡ enter_all i (drop (at + 1) ms) (set es (slot (get_or ms at d).key) (get_or es (slot (get_or ms at d).key) [] ++ e ∷ [])) = at_drop_more (λ ns. enter_all i ns es) ms at d l in
      ap (enter_all i (drop (at + 1) ms)) changed ∙ ap (λ h. enter_all i (drop (at + 1) ms) (set es h (get_or es h [] ++ e ∷ []))) key ∙ sym step

-- an order more, with the marks ms; b: whether it is done at once
module _ (rows rows' : List (List Mark)) (bs bs' cs : List Bool) (ms : List Mark) (b : Bool) (n : ℕ) (long : length rows ≡ n) (flags : length bs ≡ n) (row : rows' ≡ rows ++ ms ∷ []) (kept : cs ≡ bs) (more : bs' ≡ cs ++ b ∷ []) (nothing : b ≡ true → ms ≡ []) where
  flag : bs' ≡ bs ++ b ∷ []
  flag = more ∙ ap (λ fs. fs ++ b ∷ []) kept

  abbrev marks : ℕ → List Mark
  marks j = get_or rows j []

  abbrev done : ℕ → Bool
  done j = get_or bs j false

  abbrev marks' : ℕ → List Mark
  marks' j = get_or rows' j []

  abbrev done' : ℕ → Bool
  done' j = get_or bs' j false

  earlier : (q : ℕ) → queue marks' done' q n ≡ queue marks done q n
  earlier q =
      queue_agrees marks' marks done' done q n (λ j l. ap (λ rs. get_or rs j []) row ∙ get_or_append_left rows (ms ∷ []) [] j (omega arith))
      (λ j l. ap (λ fs. get_or fs j false) flag ∙ get_or_append_left bs (b ∷ []) false j (omega arith))

  own : (q : ℕ) → cond (done' n) [] (entered q n (marks' n)) ≡ entered q n ms
  own q =
      ap (λ rs. cond (done' n) [] (entered q n (get_or rs n []))) row
      ∙ ap (λ rs. cond (done' n) [] (entered q n rs)) (get_or_push rows ms [] n long)
      ∙ ap (λ fs. cond (get_or fs n false) [] (entered q n ms)) flag
      ∙ ap (λ f. cond f [] (entered q n ms)) (get_or_push bs b false n flags)
      ∙ elim (cases_Bool b) [
        | inl t ↦ cond-true b [] (entered q n ms) t ∙ sym (ap (entered q n) (nothing t))
        | inr f ↦ cond-false b [] (entered q n ms) f
      ]

  queue_more : (q : ℕ) → queue marks' done' q (n + 1) ≡ queue marks done q n ++ entered q n ms
  unfolding queue
  queue_more q =
      let step : queue marks' done' q (suc n) ≡ queue marks' done' q n ++ cond (done' n) [] (entered q n (marks' n)) = refl in
      ap (queue marks' done' q) (add-one n) ∙ step ∙ ap (λ es. es ++ cond (done' n) [] (entered q n (marks' n))) (earlier q) ∙ ap (λ es. queue marks done q n ++ es) (own q)

  -- what the queues say once it has come into them is what the log says of it
  pub queued_once_come : (n' i : ℕ) (qs rs qs' : List (List Entry)) → n' ≡ n + 1 → i ≡ n → length qs ≡ 4096 → rs ≡ qs → qs' ≡ enter_all i ms rs →
      ((q : ℕ) → q < 4096 → alike (get_or qs q []) (queue (λ j. get_or rows j []) (λ j. get_or bs j false) q n) ≡ true) →
      (q : ℕ) → q < 4096 → alike (get_or qs' q []) (queue (λ j. get_or rows' j []) (λ j. get_or bs' j false) q n') ≡ true
  queued_once_come n' i qs rs qs' longer place size same come was q within =
      let all : qs' ≡ enter_all n ms qs = come ∙ ap (enter_all i ms) same ∙ ap (λ p. enter_all p ms qs) place in
      alike_from_same (get_or qs' q []) (queue marks' done' q n')
      (ap (λ es. get_or es q []) all ∙ enter_all_queue n ms qs q (omega arith) ∙ ap (λ es. es ++ entered q n ms) (same_from_alike (get_or qs q []) (queue marks done q n) (was q within)) ∙ sym (queue_more q) ∙ ap (queue marks' done' q) (sym longer))
