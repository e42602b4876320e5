-- The list of tasks after a step: none is lost, none is listed twice.
use Rattle.std.proofs.Common.{◌≡◌, ℕ, suc, ◌≤◌, Bool, true, false, cond, not, ◌&&◌, ◌||◌, leb, List, [], ◌∷◌, ◌++◌, filter, sym, refl, ap, ◌∙◌, inl, inr, arith}
use Rattle.std.proofs.lemmas.List.Elements.{filter-append}
use Rattle.std.proofs.lemmas.Bool.{both_ways, not-true, not_from_false, and_parts, and_from, and_left, and_right, or_cases, or_parts, or_left, or_right, or_from, cases_Bool, cond-true, eqb-true, eq-eqb, leb-true}
use Rattle.orders.specs.Valid.{rising}
use Rattle.shard.specs.Tasks.{place_of, same_task, has, distinct, places}
use Rattle.shard.specs.declared.task.Task.{Task}
use Rattle.shard.specs.declared.task.Task.TheVariants.{Look, Write}

pub same_refl : (t : Task) → same_task t t ≡ true
same_refl (Look i) = eq-eqb i i refl
same_refl (Write i) = eq-eqb i i refl

pub same_true : (t u : Task) → same_task t u ≡ true → t ≡ u
same_true (Look i) (Look j) e = ap Look (eqb-true i j e)
same_true (Look i) (Write j) e = absurd (both_ways false refl e)
same_true (Write i) (Look j) e = absurd (both_ways false refl e)
same_true (Write i) (Write j) e = ap Write (eqb-true i j e)

has_append : (t : Task) (ts us : List Task) → has t (ts ++ us) ≡ (has t ts || has t us)
has_append t [] us = refl
has_append t (x ∷ ts) us = ap (λ b. same_task t x || b) (has_append t ts us) ∙ assoc (same_task t x) (has t ts) (has t us)
  where
    assoc : (a b c : Bool) → (a || (b || c)) ≡ ((a || b) || c)
    assoc true b c = refl
    assoc false b c = refl

distinct_append : (ts us : List Task) → distinct ts ≡ true → distinct us ≡ true → ((t : Task) → has t us ≡ true → has t ts ≡ false) → distinct (ts ++ us) ≡ true
distinct_append [] us d e apart = e
distinct_append (t ∷ ts) us d e apart =
    let p = and_parts (not (has t ts)) (distinct ts) d in
    and_from (not (has t (ts ++ us))) (distinct (ts ++ us))
    (not_from_false (has t (ts ++ us)) (has_append t ts us ∙ or_from (has t ts) (has t us) (not-true (has t ts) p.0) (elim (cases_Bool (has t us)) [
      | inl h ↦ absurd (both_ways (same_task t t) (or_parts (same_task t t) (has t ts) (apart t h)).0 (same_refl t))
      | inr h ↦ h
    ])))
    (distinct_append ts us p.1 e (λ u h. (or_parts (same_task u t) (has u ts) (apart u h)).1))

-- places that rise are distinct
above : (low : ℕ) (ts : List Task) (t : Task) → rising low (places ts) ≡ true → has t ts ≡ true → low ≤ place_of t
above low [] t r h = absurd (both_ways false refl h)
above low (u ∷ ts) t r h =
    let p = and_parts (leb low (place_of u)) (rising (suc (place_of u)) (places ts)) r in
    let q : low ≤ place_of u = leb-true low (place_of u) p.0 in
    elim (or_cases (same_task t u) (has t ts) h) [
      | inl e ↦ let s : place_of t ≡ place_of u = ap place_of (same_true t u e) in omega arith
      | inr e ↦ let s : suc (place_of u) ≤ place_of t = above (suc (place_of u)) ts t p.1 e in omega arith
    ]

pub rising_distinct : (low : ℕ) (ts : List Task) → rising low (places ts) ≡ true → distinct ts ≡ true
rising_distinct low [] r = refl
rising_distinct low (t ∷ ts) r =
    let p = and_parts (leb low (place_of t)) (rising (suc (place_of t)) (places ts)) r in
    and_from (not (has t ts)) (distinct ts)
    (not_from_false (has t ts) (elim (cases_Bool (has t ts)) [ inl h ↦ absurd (let s : suc (place_of t) ≤ place_of t = above (suc (place_of t)) ts t p.1 h in omega arith) | inr h ↦ h ]))
    (rising_distinct (suc (place_of t)) ts p.1)

-- what a filter keeps
kept_all : (f : Task → Bool) (ts : List Task) → ((t : Task) → has t ts ≡ true → f t ≡ true) → filter f ts ≡ ts
kept_all f [] each = refl
kept_all f (t ∷ ts) each =
    cond-true (f t) (t ∷ filter f ts) (filter f ts) (each t (or_left (same_task t t) (has t ts) (same_refl t)))
    ∙ ap (λ l. t ∷ l) (kept_all f ts (λ u h. each u (or_right (same_task u t) (has u ts) h)))

kept_both : (f g h : Task → Bool) (ts : List Task) → ((t : Task) → has t ts ≡ true → f t ≡ (g t && h t)) → filter f ts ≡ filter h (filter g ts)
kept_both f g h [] each = refl
kept_both f g h (t ∷ ts) each =
    let e : f t ≡ (g t && h t) = each t (or_left (same_task t t) (has t ts) (same_refl t)) in
    ap (λ b. cond b (t ∷ filter f ts) (filter f ts)) e ∙ ap (λ l. cond (g t && h t) (t ∷ l) l) (kept_both f g h ts (λ u x. each u (or_right (same_task u t) (has u ts) x))) ∙ two (g t)
  where
    two : (b : Bool) → cond (b && h t) (t ∷ filter h (filter g ts)) (filter h (filter g ts)) ≡ filter h (cond b (t ∷ filter g ts) (filter g ts))
    two true = refl
    two false = refl

-- what may be done, and what is not done, before a step and after it; fresh: what newly may
module _ (may may' live live' : Task → Bool) (raw fresh : List Task)
    (lives : (t : Task) → may' t ≡ true → live' t ≡ true) (older : (t : Task) → live' t ≡ true → live t ≡ true) (stays : (t : Task) → may t ≡ true → live' t ≡ true → may' t ≡ true)
    (new : (t : Task) → has t fresh ≡ (may' t && not (may t))) (listed : (t : Task) → (has t raw && live t) ≡ may t) where
  fresh_may : (t : Task) → has t fresh ≡ true → (may' t ≡ true) × (may t ≡ false)
  fresh_may t h = let p = and_parts (may' t) (not (may t)) (sym (new t) ∙ h) in (p.0, not-true (may t) p.1)

  raw_may : (t : Task) → has t raw ≡ true → live t ≡ true → may t ≡ true
  raw_may t h l = sym (listed t) ∙ and_from (has t raw) (live t) h l

  pub listed_still : (t : Task) → (has t (raw ++ fresh) && live' t) ≡ may' t
  listed_still t =
      elim (cases_Bool (may' t)) [
        | inl m ↦
            and_from (has t (raw ++ fresh)) (live' t) (has_append t raw fresh ∙ elim (cases_Bool (may t)) [
              | inl o ↦ or_left (has t raw) (has t fresh) (and_parts (has t raw) (live t) (listed t ∙ o)).0
              | inr o ↦ or_right (has t raw) (has t fresh) (new t ∙ and_from (may' t) (not (may t)) m (not_from_false (may t) o))
            ]) (lives t m) ∙ sym m
        | inr m ↦
            elim (cases_Bool (live' t)) [
              | inl l ↦
                  and_left (has t (raw ++ fresh)) (live' t) (has_append t raw fresh ∙ or_from (has t raw) (has t fresh)
                  (elim (cases_Bool (has t raw)) [ inl h ↦ absurd (both_ways (may' t) m (stays t (raw_may t h (older t l)) l)) | inr h ↦ h ])
                  (new t ∙ and_left (may' t) (not (may t)) m)) ∙ sym m
              | inr l ↦ and_right (has t (raw ++ fresh)) (live' t) l ∙ sym m
            ]
      ]

  pub once_still : distinct raw ≡ true → rising 0 (places fresh) ≡ true → distinct (raw ++ fresh) ≡ true
  once_still d r =
      distinct_append raw fresh d (rising_distinct 0 fresh r) (λ t h.
      let p = fresh_may t h in
      elim (cases_Bool (has t raw)) [ inl x ↦ absurd (both_ways (may t) p.1 (raw_may t x (older t (lives t p.0)))) | inr x ↦ x ])

  pub list_becomes : filter live' (raw ++ fresh) ≡ filter may' (filter live raw) ++ fresh
  list_becomes =
      filter-append live' raw fresh ∙ ap (λ l. l ++ filter live' fresh) (kept_both live' live may' raw same) ∙ ap (λ l. filter may' (filter live raw) ++ l) (kept_all live' fresh (λ t h. lives t (fresh_may t h).0))
    where
      same : (t : Task) → has t raw ≡ true → live' t ≡ (live t && may' t)
      same t h =
          elim (cases_Bool (live' t)) [
            | inl l ↦ l ∙ sym (and_from (live t) (may' t) (older t l) (stays t (raw_may t h (older t l)) l))
            | inr l ↦ l ∙ sym (and_right (live t) (may' t) (elim (cases_Bool (may' t)) [ inl m ↦ absurd (both_ways (live' t) l (lives t m)) | inr m ↦ m ]))
          ]
