-- The first task is taken off the list, again and again.
use Rattle.std.proofs.Common.{◌≡◌, ℕ, zero, suc, ◌+◌, ◌<◌, ◌≤◌, Bool, true, false, cond, not, ◌&&◌, ◌||◌, List, [], ◌∷◌, ◌++◌, length, get_or, take, drop, set, Some, None, deque_items, filter, Option, sym, refl, ap, ◌∙◌, subst, inl, inr, arith, Bor}
use Rattle.std.specs.Option.{option_map}
use Rattle.std.specs.Slice.{IsGetResult}
use Rattle.std.proofs.lemmas.List.{append-nil, append_assoc, length_push, drop_all, drop_more, take_all, take_at, take-take}
use Rattle.std.proofs.lemmas.Bool.{and_parts, both_ways, cases_Bool, not-true, not-false, or_left, or_right}
use Rattle.ledger.specs.declared.ledger.Ledger.{Ledger}
use Rattle.ledger.specs.declared.refusal.Refusal.{Refusal}
use Rattle.ledger.specs.declared.refusal.Refusal.TheVariants.{Mismatch, Beyond, Known, NotYet, Full, Memory}
use Rattle.shard.specs.State.{ready_of, Does, Extends, Next, Part, Ran, more, none, RefusesStep, Took, Unmoved}
use Rattle.shard.specs.Tasks.{same_task, has, distinct, live, may_do}
use Rattle.shard.specs.declared.house.House.{House}
use Rattle.shard.specs.declared.task.Task.{Task}
use Rattle.shard.specs.declared.task.Task.TheVariants.{Look, Write}
use Rattle.shard.proofs.Listing.{same_refl, same_true}
use Rattle.shard.proofs.Kept.{kept_by_not_first, kept_more, kept_no_more, kept_all}

pub has_first : (t : Task) (ts : List Task) → has t (t ∷ ts) ≡ true
has_first t ts = or_left (same_task t t) (has t ts) (same_refl t)

-- the task in front, as it was read
pub front_is : (ts : List Task) (o : Option (Bor Task)) (t : Task) → IsGetResult ts 0 0 o → option_map (λ x. x.now) o ≡ Some t → ts ≡ t ∷ drop 1 ts
front_is [] None t i e = let z : ◌≡◌ {A = ℕ} 0 1 = cc in absurd (omega arith)
front_is [] (Some x) t i e = absurd (omega (arith, i.3.0))
front_is (u ∷ ts) None t i e = let z : ◌≡◌ {A = ℕ} 0 1 = cc in absurd (omega arith)
front_is (u ∷ ts) (Some x) t i e = let f : x.now ≡ u = i.3.1 u in let g : x.now ≡ t = cc in ap (λ v. v ∷ ts) (sym f ∙ g)

-- a listed task that was not done may be done
pub first_may : (s : Ledger) (t : Task) (raw ts : List Task) → raw ≡ t ∷ ts → ((u : Task) → (has u raw && live s u) ≡ may_do s u) → live s t ≡ true → may_do s t ≡ true
first_may s t raw ts is listed e = sym (listed t) ∙ ap (λ us. has t us && live s t) is ∙ ap (λ b. b && live s t) (has_first t ts) ∙ e

-- once it is done it is not live
pub ended : (t : Task) (s : Ledger) (ts : List Task) (s' : Ledger) (ts' : List Task) → Does t s ts s' ts' → may_do s t ≡ true → live s' t ≡ false
ended t s ts s' ts' does may = does.ends t may ∙ ap not (same_refl t)

-- a task in front that is not live
module _ (s : Ledger) (t : Task) (raw ts : List Task) (is : raw ≡ t ∷ ts) (gone : live s t ≡ false) where
  pub distinct_without : distinct raw ≡ true → distinct ts ≡ true
  distinct_without e = (and_parts (not (has t ts)) (distinct ts) (ap distinct (sym is) ∙ e)).1

  pub listed_without : ((u : Task) → (has u raw && live s u) ≡ may_do s u) → (u : Task) → (has u ts && live s u) ≡ may_do s u
  listed_without listed u = sym (passed (same_task u t) (has u ts) (live s u) (λ e. ap (live s) (same_true u t e) ∙ gone)) ∙ ap (λ us. has u us && live s u) (sym is) ∙ listed u
    where
      passed : (b h l : Bool) → (b ≡ true → l ≡ false) → ((b || h) && l) ≡ (h && l)
      passed false h l e = refl
      passed true false l e = e refl
      passed true true l e = refl

  pub ready_without : filter (live s) raw ≡ filter (live s) ts
  ready_without = ap (filter (live s)) is ∙ kept_by_not_first (live s) t ts gone

-- a refusal of what may be done is for want of memory
pub refused_by_memory : (e : Refusal) (may : Bool) (h : House) (i : ℕ) → RefusesStep e may h i → may ≡ true → e ≡ Memory
refused_by_memory Mismatch may h i r m = absurd r
refused_by_memory Beyond may h i r m = absurd r
refused_by_memory Known may h i r m = absurd r
refused_by_memory NotYet may h i r m = let z : ◌≡◌ {A = ℕ} 0 1 = cc in absurd (omega arith)
refused_by_memory Full may h i r m = absurd r
refused_by_memory Memory may h i r m = refl

-- what is true of a place stays so when it is set true
set_stays_true : (bs : List Bool) (i j : ℕ) → get_or bs j false ≡ true → get_or (set bs i true) j false ≡ true
set_stays_true [] i j e = e
set_stays_true (b ∷ bs) zero zero e = refl
set_stays_true (b ∷ bs) zero (suc j) e = e
set_stays_true (b ∷ bs) (suc i) zero e = e
set_stays_true (b ∷ bs) (suc i) (suc j) e = set_stays_true bs i j e

cond_stays_true : (b : Bool) (bs : List Bool) (i j : ℕ) → get_or bs j false ≡ true → get_or (cond b bs (set bs i true)) j false ≡ true
cond_stays_true true bs i j e = e
cond_stays_true false bs i j e = set_stays_true bs i j e

-- what was done stays done
pub not_live_again : (t : Task) (s s' : Ledger) → Part t s s' → (u : Task) → live s u ≡ false → live s' u ≡ false
not_live_again (Look i) s s' (vs, l) (Look j) e = ap not (ap (λ bs. get_or bs j false) l.looked_is ∙ set_stays_true _ i j (not-false _ e))
not_live_again (Look i) s s' (vs, l) (Write j) e = ap not (ap (λ bs. get_or bs j false) l.done_is ∙ cond_stays_true _ _ i j (not-false _ e))
not_live_again (Write i) s s' (o, l) (Look j) e = ap not (ap (λ bs. get_or bs j false) l.looked_is ∙ not-false _ e)
not_live_again (Write i) s s' (o, l) (Write j) e = ap not (ap (λ bs. get_or bs j false) l.done_is ∙ set_stays_true _ i j (not-false _ e))

-- a task was done (h₁), or was done before (h₁ is h), and is then taken off the list
module _ (h h₁ h₂ h' : House) (ds ds' : List Task) (t : Task) (joined : h₁ ≡ h₂) (is : deque_items h.tasks ≡ t ∷ drop 1 (deque_items h.tasks)) where
  abbrev raw : List Task
  raw = deque_items h.tasks

  behind : (us : List Task) → deque_items h₁.tasks ≡ raw ++ us → deque_items h₁.tasks ≡ t ∷ (drop 1 raw ++ us)
  behind us e = e ∙ ap (λ ts. ts ++ us) is

  extends : Extends h h₂ → Extends h h₁
  extends e = subst (λ x. Extends h x) (sym joined) e

  does_too : Does t h.ledger (ready_of h) h₂.ledger (ready_of h₂) → Does t h.ledger (ready_of h) h₁.ledger (ready_of h₁)
  does_too d = subst (λ x. Does t h.ledger (ready_of h) x.ledger (ready_of x)) (sym joined) d

  may : live h.ledger t ≡ true → may_do h.ledger t ≡ true
  may e = first_may h.ledger t raw (drop 1 raw) is h.listed e

  pub gone_once_done : live h.ledger t ≡ true → Does t h.ledger (ready_of h) h₂.ledger (ready_of h₂) → live h₁.ledger t ≡ false
  gone_once_done e d = ended t h.ledger (ready_of h) h₁.ledger (ready_of h₁) (does_too d) (may e)

  pub still_first : Extends h h₂ → deque_items h₁.tasks ≡ t ∷ drop 1 (deque_items h₁.tasks)
  still_first e = let x = extends e in let b = behind x.0 x.1 in b ∙ ap (λ ts. t ∷ ts) (sym (ap (drop 1) b))

  module _ (same : h'.ledger ≡ h₁.ledger) (popped : deque_items h'.tasks ≡ drop 1 (deque_items h₁.tasks)) where
    pub took_live : live h.ledger t ≡ true → Does t h.ledger (ready_of h) h₂.ledger (ready_of h₂) → Extends h h₂ → ds' ≡ ds ++ t ∷ [] → Took h h' ds ds' t (drop 1 raw)
    took_live e d ext pushed =
        let x = extends ext in
        let one : filter (live h₁.ledger) (deque_items h₁.tasks) ≡ filter (live h₁.ledger) (deque_items h'.tasks) =
        ready_without h₁.ledger t (deque_items h₁.tasks) (drop 1 (deque_items h₁.tasks)) (still_first ext) (gone_once_done e d) ∙ ap (filter (live h₁.ledger)) (sym popped) in
        let did : Does t h.ledger (ready_of h) h₁.ledger (filter (live h₁.ledger) (deque_items h'.tasks)) = subst (λ ts. Does t h.ledger (ready_of h) h₁.ledger ts) one (does_too d) in
        record {
          first = is;
          rest = (x.0, popped ∙ ap (drop 1) (behind x.0 x.1));
          stale = λ f. absurd (both_ways (live h.ledger t) f e);
          fresh = λ _. (subst (λ s. Does t h.ledger (ready_of h) s (filter (live s) (deque_items h'.tasks))) (sym same) did, pushed);
        }

    pub took_stale : live h.ledger t ≡ false → h₁ ≡ h → ds' ≡ ds → Took h h' ds ds' t (drop 1 raw)
    took_stale e unmoved None-more =
        let rest_is : deque_items h'.tasks ≡ drop 1 raw = popped ∙ ap (λ x. drop 1 (deque_items x.tasks)) unmoved in
        record {
          first = is;
          rest = ([], rest_is ∙ sym (append-nil (drop 1 raw)));
          stale = λ _. (same ∙ ap (λ x. x.ledger) unmoved, rest_is, None-more);
          fresh = λ f. absurd (both_ways (live h.ledger t) e f);
        }

ran_same : (ds ds' : List Task) (s : Ledger) (ts : List Task) (s₁ : Ledger) (ts₁ : List Task) (s₂ : Ledger) (ts₂ : List Task) → Ran ds s ts s₁ ts₁ → ds' ≡ ds → s₂ ≡ s₁ → ts₂ ≡ ts₁ → Ran ds' s ts s₂ ts₂
ran_same ds ds' s ts s₁ ts₁ s₂ ts₂ r e₀ e₁ e₂ = subst (λ x. Ran x s ts s₂ ts₂) (sym e₀) (subst (λ x. Ran ds s ts x ts₂) (sym e₁) (subst (λ x. Ran ds s ts s₁ x) (sym e₂) r))

has_front : (t : Task) (ts us : List Task) → has t ts ≡ true → has t (ts ++ us) ≡ true
has_front t [] us e = absurd (both_ways false refl e)
has_front t (u ∷ ts) us e = further (same_task t u) (has t ts) (has t (ts ++ us)) (has_front t ts us) e
  where
    further : (b x y : Bool) → (x ≡ true → y ≡ true) → (b || x) ≡ true → (b || y) ≡ true
    further true x y f e = refl
    further false x y f e = f e

kept_same : (p p' : Task → Bool) (ts : List Task) → ((u : Task) → has u ts ≡ true → p' u ≡ p u) → filter p' ts ≡ filter p ts
kept_same p p' [] f = refl
kept_same p p' (u ∷ us) f = ap (λ b. cond b (u ∷ filter p' us) (filter p' us)) (f u (has_first u us)) ∙ ap (λ vs. cond (p u) (u ∷ vs) vs) (kept_same p p' us (λ v e. f v (or_right (same_task v u) (has v us) e)))

-- the first task of a list is not among the others
not_again : (t u : Task) (ts : List Task) → distinct (t ∷ ts) ≡ true → has u ts ≡ true → same_task u t ≡ false
not_again t u ts e in' =
    elim (cases_Bool (same_task u t)) [
      | inl y ↦ absurd (both_ways (has t ts) (not-true (has t ts) (and_parts (not (has t ts)) (distinct ts) e).0) (ap (λ v. has v ts) (sym (same_true u t y)) ∙ in'))
      | inr n ↦ n
    ]

-- of the other tasks that are listed those are live that were so before
others_as_before : (h : House) (s' : Ledger) (t : Task) (ts : List Task) (ts₁ ts₂ : List Task) → deque_items h.tasks ≡ t ∷ ts → Does t h.ledger ts₁ s' ts₂ → (u : Task) → has u ts ≡ true → live s' u ≡ live h.ledger u
others_as_before h s' t ts ts₁ ts₂ is does u in' =
    let s = h.ledger in
    elim (cases_Bool (live s u)) [
      | inl l ↦
          let may : may_do s u ≡ true = sym (h.listed u) ∙ ap (λ us. has u us && live s u) is ∙ ap (λ b. b && live s u) (or_right (same_task u t) (has u ts) in') ∙ l in
          does.ends u may ∙ ap not (not_again t u ts (ap distinct (sym is) ∙ h.once) in') ∙ sym l
      | inr n ↦ not_live_again t s s' does.part u n ∙ sym n
    ]

-- k tasks were taken off the list of h, and ds of them done
pub record Going (h h' : House) (ds : List Task) (k : ℕ) : Type 0 where
  pub ran : Ran ds h.ledger (ready_of h) h'.ledger (ready_of h')
  pub rest : (us : List Task) × (deque_items h'.tasks ≡ drop k (deque_items h.tasks) ++ us)
  -- those done and those of the others that are live were ready
  pub split : ds ++ filter (live h'.ledger) (drop k (deque_items h.tasks)) ≡ ready_of h

pub going_none : (h : House) (ds : List Task) → ds ≡ [] → Going h h ds 0
going_none h ds e =
    record {
      ran = ran_same [] ds h.ledger (ready_of h) h.ledger (ready_of h) h.ledger (ready_of h) (none h.ledger (ready_of h)) e refl refl;
      rest = ([], sym (append-nil (deque_items h.tasks)));
      split = ap (λ us. us ++ ready_of h) e;
    }

-- rs: the rest of the list of h; us: what was listed since
module _ (h h₁ h₂ : House) (ds ds' : List Task) (k : ℕ) (going : Going h h₁ ds k) (t : Task) (ts rs us : List Task) (took : Took h₁ h₂ ds ds' t ts) (here : drop k (deque_items h.tasks) ≡ t ∷ rs) (after : drop (k + 1) (deque_items h.tasks) ≡ rs) (behind_are : ts ≡ rs ++ us) where
  going_past : live h₁.ledger t ≡ false → Going h h₂ ds' (k + 1)
  going_past e =
      let st = took.stale e in
      let ready_is : ready_of h₂ ≡ ready_of h₁ =
      ap (λ s. filter (live s) (deque_items h₂.tasks)) st.0 ∙ ap (filter (live h₁.ledger)) st.1 ∙ sym (ready_without h₁.ledger t (deque_items h₁.tasks) ts took.first e) in
      record {
        ran = ran_same ds ds' h.ledger (ready_of h) h₁.ledger (ready_of h₁) h₂.ledger (ready_of h₂) going.ran st.2 st.0 ready_is;
        rest = (us, st.1 ∙ behind_are ∙ ap (λ xs. xs ++ us) (sym after));
        split =
            ap (λ xs. xs ++ filter (live h₂.ledger) (drop (k + 1) (deque_items h.tasks))) st.2 ∙ ap (λ s. ds ++ filter (live s) (drop (k + 1) (deque_items h.tasks))) st.0
            ∙ ap (λ xs. ds ++ filter (live h₁.ledger) xs) after ∙ kept_no_more (live h₁.ledger) t rs ds (drop k (deque_items h.tasks)) (ready_of h) going.split here e;
      }

  going_on : live h₁.ledger t ≡ true → Going h h₂ ds' (k + 1)
  going_on e =
      let f = took.fresh e in
      let r = took.rest in
      let same : filter (live h₂.ledger) rs ≡ filter (live h₁.ledger) rs =
      kept_same (live h₁.ledger) (live h₂.ledger) rs (λ u in'. others_as_before h₁ h₂.ledger t ts (ready_of h₁) (ready_of h₂) took.first f.0 u (ap (has u) behind_are ∙ has_front u rs us in')) in
      record {
        ran = ran_same (ds ++ t ∷ []) ds' h.ledger (ready_of h) h₂.ledger (ready_of h₂) h₂.ledger (ready_of h₂) (more ds t h.ledger (ready_of h) h₁.ledger (ready_of h₁) h₂.ledger (ready_of h₂) going.ran f.0) f.1 refl refl;
        rest = (us ++ r.0, r.1 ∙ ap (λ xs. xs ++ r.0) behind_are ∙ append_assoc rs us r.0 ∙ ap (λ xs. xs ++ (us ++ r.0)) (sym after));
        split =
            ap (λ xs. ds' ++ filter (live h₂.ledger) xs) after ∙ ap (λ xs. ds' ++ xs) same
            ∙ kept_more (live h₁.ledger) t rs ds ds' (drop k (deque_items h.tasks)) (ready_of h) going.split here e f.1;
      }

  going_either : Going h h₂ ds' (k + 1)
  going_either = elim (cases_Bool (live h₁.ledger t)) [ inl e ↦ going_on e | inr e ↦ going_past e ]

pub going_more : (h h₁ h₂ : House) (ds ds' : List Task) (k : ℕ) → k < length (deque_items h.tasks) → Going h h₁ ds k → Next h₁ h₂ ds ds' → Going h h₂ ds' (k + 1)
going_more h h₁ h₂ ds ds' k l g (inl (e, _, _)) =
    let d = drop_more (deque_items h.tasks) k (Look 0) l in
    let us = g.rest.0 in
    let i : deque_items h₁.tasks ≡ get_or (deque_items h.tasks) k (Look 0) ∷ (drop (k + 1) (deque_items h.tasks) ++ us) = g.rest.1 ∙ ap (λ xs. xs ++ us) d in
    let z : ◌≡◌ {A = ℕ} 0 1 = cc in absurd (omega arith)
going_more h h₁ h₂ ds ds' k l g (inr (t, ts, took)) =
    let d = drop_more (deque_items h.tasks) k (Look 0) l in
    let us = g.rest.0 in
    let rs = drop (k + 1) (deque_items h.tasks) in
    let i : deque_items h₁.tasks ≡ get_or (deque_items h.tasks) k (Look 0) ∷ (rs ++ us) = g.rest.1 ∙ ap (λ xs. xs ++ us) d in
    let f : deque_items h₁.tasks ≡ t ∷ ts = took.first in
    let at : get_or (deque_items h.tasks) k (Look 0) ≡ t = cc in
    let behind_are : ts ≡ rs ++ us = cc in
    going_either h h₁ h₂ ds ds' k g t ts rs us took (d ∙ ap (λ x. x ∷ rs) at) refl behind_are

pub next_adds_one : (h h' : House) (ds ds' : List Task) → Next h h' ds ds' → length ds' ≤ length ds + 1
next_adds_one h h' ds ds' (inl (_, _, e)) = omega (arith, ap length e)
next_adds_one h h' ds ds' (inr (t, ts, took)) =
    elim (cases_Bool (live h.ledger t)) [
      | inl e ↦ omega (arith, ap length (took.fresh e).1, length_push ds t)
      | inr e ↦ omega (arith, ap length (took.stale e).2)
    ]

-- the tasks done are the first of those that were ready
pub first_done : (ds rs all : List Task) (n : ℕ) → ds ++ rs ≡ all → length ds ≤ n → ds ≡ take (length ds) (take n all)
first_done ds rs all n e l = sym (take_at ds rs (length ds) refl) ∙ ap (take (length ds)) e ∙ sym (take-take (length ds) n all l)

pub first_done_as_before : (ds ds' rs all : List Task) (n : ℕ) → ds ++ rs ≡ all → length ds ≤ n → ds' ≡ ds → ds' ≡ take (length ds') (take n all)
first_done_as_before ds ds' rs all n e l same = same ∙ first_done ds rs all n e l ∙ ap (λ us. take (length us) (take n all)) (sym same)

pub as_many_done : (ds rs all : List Task) (n : ℕ) → ds ++ rs ≡ all → length ds ≡ n → ds ≡ take n all
as_many_done ds rs all n e l = sym (take_at ds rs n l) ∙ ap (take n) e

-- nothing is left
pub all_done : (h h' : House) (ds : List Task) (k n : ℕ) → Going h h' ds k → length (deque_items h.tasks) ≤ k → length ds ≤ n → ds ≡ take n (ready_of h)
all_done h h' ds k n g past l =
    let e : ds ≡ ready_of h = kept_all (live h'.ledger) ds (drop k (deque_items h.tasks)) (ready_of h) g.split (ap length (drop_all k (deque_items h.tasks) past)) in
    sym (take_all n ds l) ∙ ap (take n) e

pub ran_unmoved : (h h₁ h₂ : House) (ds ds' : List Task) → Ran ds h.ledger (ready_of h) h₁.ledger (ready_of h₁) → Unmoved h₁ h₂ → ds' ≡ ds → Ran ds' h.ledger (ready_of h) h₂.ledger (ready_of h₂)
ran_unmoved h h₁ h₂ ds ds' r u e =
    ran_same ds ds' h.ledger (ready_of h) h₁.ledger (ready_of h₁) h₂.ledger (ready_of h₂) r e u.same_ledger
    (ap (λ s. filter (live s) (deque_items h₂.tasks)) u.same_ledger ∙ ap (filter (live h₁.ledger)) u.same_list)

pub none_some : (o : Option Refusal) (e : Refusal) → o ≡ None → o ≡ Some e → ⊥
none_some o e n s = let z : ◌≡◌ {A = ℕ} 0 1 = cc in omega arith

pub some_is : (e r : Refusal) → Some e ≡ Some r → r ≡ e
some_is e r is = cc
