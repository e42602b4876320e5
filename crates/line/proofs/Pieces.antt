-- From the state that a piece of the log leaves to the execution of the log with that piece.
use Rattle.std.proofs.Common.{◌≡◌, ℕ, ◌-◌, ◌≤◌, List, [], ◌++◌, length, take, drop, vec_items, sym, ap, ◌∙◌, zero-add, arith}
use lib.Seq.{paste}
use Rattle.std.proofs.lemmas.List.Edits.{take-paste}
use Rattle.std.proofs.lemmas.List.{length-drop, take_all}
use Rattle.line.specs.Frames.{extent}
use Rattle.line.specs.Serial.{entries_from, entries, formed, start, state_of, next_place, doing, Executes}
use Rattle.line.specs.declared.serial.Execution.{Execution}
use Rattle.line.specs.declared.serial.Progress.{Progress}
use Rattle.line.proofs.Framing.{drop_more, frames_short}
use Rattle.line.proofs.Totals.{entries_none, entries_fit, entries_more, place_after, doing_none, doing_append}

executes : (bs : List ℕ) (e : Execution) → state_of e.progress ≡ doing (entries bs) start → vec_items e.rest ≡ drop (extent (entries bs)) bs → Executes bs e
executes bs e is rest =
    record { values = ap (λ s. s.0) is; done = ap (λ s. s.1) is ∙ zero-add (formed (entries bs)); malformed_are = ap (λ s. s.2) is; rest = rest }

executed : (bs : List ℕ) (e : Execution) → Executes bs e → state_of e.progress ≡ doing (entries bs) start
executed bs e x = λ i. (x.values i, (x.done ∙ sym (zero-add (formed (entries bs)))) i, x.malformed_are i)

pub executes_none : (e : Execution) → state_of e.progress ≡ start → vec_items e.rest ≡ [] → Executes [] e
executes_none e is rest =
    let none : entries [] ≡ [] = entries_none 0 [] (frames_short [] (omega arith)) in
    executes [] e (is ∙ doing_none start ∙ ap (λ os. doing os start) (sym none)) (rest ∙ ap (λ os. drop (extent os) []) (sym none))

-- a piece more, behind the bytes that were kept: from the progress p, which has the room that was reserved, n of the bytes were done
module _ (bs piece bytes : List ℕ) (e e' : Execution) (p : Progress) (n : ℕ) (was : Executes bs e) (same : state_of p ≡ state_of e.progress) (is : bytes ≡ vec_items e.rest ++ piece)
    (does : state_of e'.progress ≡ doing (entries_from (next_place (state_of p)) bytes) (state_of p)) (takes : n ≡ extent (entries_from (next_place (state_of p)) bytes)) (left : vec_items e'.rest ≡ drop n bytes) where
  joint : List ℕ
  joint = drop (extent (entries bs)) bs ++ piece

  new : List (List ℕ)
  new = entries_from (length (entries bs)) joint

  before : state_of p ≡ doing (entries bs) start
  before = same ∙ executed bs e was

  new_is : entries_from (next_place (state_of p)) bytes ≡ new
  unfolding new joint
  new_is =
      let at : next_place (state_of p) ≡ length (entries bs) = ap next_place before ∙ place_after (entries bs) start ∙ zero-add (length (entries bs)) in
      ap (λ k. entries_from k bytes) at ∙ ap (entries_from (length (entries bs))) (is ∙ ap (λ r. r ++ piece) was.rest)

  all : entries (bs ++ piece) ≡ entries bs ++ new
  unfolding new joint
  all = entries_more bs piece

  pub executes_more : Executes (bs ++ piece) e'
  unfolding joint
  executes_more =
      executes (bs ++ piece) e'
      (does ∙ ap (λ os. doing os (state_of p)) new_is ∙ ap (doing new) before ∙ sym (doing_append (entries bs) new start) ∙ ap (λ os. doing os start) (sym all))
      (left ∙ ap (λ k. drop k bytes) (takes ∙ ap extent new_is) ∙ ap (drop (extent new)) (is ∙ ap (λ r. r ++ piece) was.rest)
      ∙ sym (drop_more (entries bs) new bs piece (entries_fit 0 bs)) ∙ ap (λ os. drop (extent os) (bs ++ piece)) (sym all))

-- what is left once the end was copied to the front
pub moved_down : (xs : List ℕ) (n m k : ℕ) → n ≤ length xs → m ≡ length xs - n → k ≡ length xs - n → take m (paste xs 0 (drop n xs) k) ≡ drop n xs
moved_down xs n m k fits e f =
    let all : length (drop n xs) ≤ k = simp length-drop (omega arith) in
    ap (λ i. take i (paste xs 0 (drop n xs) k)) (omega arith) ∙ take-paste xs 0 (drop n xs) k (omega arith) (omega (arith, length-drop n xs)) ∙ take_all k (drop n xs) all
