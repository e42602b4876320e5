use Rattle.std.proofs.Common.{◌≡◌, ℕ, zero, suc, [], ◌∷◌, ◌++◌, List, take, vec_items, sym, subst, ap, ◌∙◌, rules}
use Rattle.std.specs.List.{FoldsTo}
use Rattle.turns.specs.Entries.{entries_in}
use Rattle.turns.specs.Rooms.{Empty}
use Rattle.turns.specs.declared.queue.Queue.{Queue}
use Rattle.turns.proofs.queues.Queues.new.Goals as goal

-- what calls give that each give a queue without an entry
all_empty : {F : Type 0} (R : F → Queue → F → Type 0) → ((p : F) (x : Queue) (q : F) → R p x q → entries_in x ≡ []) → (p : F) (xs : List Queue) (q : F) → FoldsTo R p xs q → Empty xs
all_empty R none p [] q h = tt
all_empty R none p (x ∷ xs) q h = (none p x h.0 h.1, all_empty R none h.0 xs q h.2)

-- n: how many are wanted
made_empty : (size n : ℕ) (old new ys : List Queue) → size ≡ n → old ≡ [] → new ≡ take n old ++ ys → Empty ys → Empty new
made_empty size zero old new ys wanted none is e = subst Empty (sym is) e
made_empty size (suc n) old new ys wanted none is e = subst Empty (sym (is ∙ ap (λ qs. take (suc n) qs ++ ys) none)) e

pub returns : goal.returns
returns c =
    let r = c.in_ok-resize_with.ensures.items in
    made_empty _ _ (vec_items c.new-by_key.result) _ r.0 c.in_ok-resize_with.ensures.len c.new-by_key.ensures.items r.2 (all_empty _ (λ p x q h. search rules) _ r.0 _ r.3)
