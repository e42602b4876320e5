-- Calm deeds do every order everywhere, and while one is undone, a look or a write is at most plain deeds away.
use Rattle.std.proofs.Common.{◌≡◌, ℕ, zero, suc, ◌<◌, ◌≤◌, Bool, true, false, cond, eqb, ltb, ◌⊎◌, List, [], ◌∷◌, ◌++◌, map, length, is_some, Some, None, filter, Option, sym, refl, ap, ◌∙◌, subst, inl, inr, ⊎_elim, arith}
use Rattle.std.specs.List.{AllByRecursion}
use Rattle.std.proofs.lemmas.Bool.{true≢false, false≢true, both_ways, ltb-false, eqb-true, eq-eqb, or_cases, or_parts, or_left, or_right, cases_lt, cases_eq, cases_Bool, cond_both}
use Rattle.orders.specs.Transaction.{Transaction, is_in}
use Rattle.protocol.specs.Log.{houses, at, some, writes_in, own_reads, reads, writes, effect}
use Rattle.protocol.specs.House.{House, done, from_note, knows, Plan, Sound}
use Rattle.protocol.specs.Machine.{Deed, look, write, calm, plain, put, looks, writes_its, Net, Step, acts, Run, stay, then}
use Rattle.protocol.specs.Promise.{quiet, Works, by_look, by_write, NeverStuck, Nearby}
use Rattle.protocol.proofs.Invariant.{Inv}
use Rattle.protocol.proofs.Deliveries.{put_same, stays_put, stays_true, stays_same, Onward, Later, Leads, here, and_then, leads_calmly, later_put, each_house, grown, Heard, delivered}

kept_in : (test : ℕ → Bool) (k : ℕ) (ks : List ℕ) → is_in k ks ≡ true → test k ≡ true → is_in k (filter test ks) ≡ true
kept_in test k [] e t = e
kept_in test k (x ∷ xs) e t =
    cond_both (test x) (x ∷ filter test xs) (filter test xs) (λ ys. is_in k ys ≡ true)
    (λ u. ⊎_elim (or_left (eqb k x) _) (λ c. or_right (eqb k x) _ (kept_in test k xs c t)) (or_cases (eqb k x) (is_in k xs) e))
    (λ u. ⊎_elim (λ c. absurd (both_ways (test x) u (subst (λ y. test y ≡ true) (eqb-true k x c) t))) (λ c. kept_in test k xs c t) (or_cases (eqb k x) (is_in k xs) e))

some_from : (k : ℕ) (ks : List ℕ) → is_in k ks ≡ true → some ks ≡ true
some_from k [] e = e
some_from k (x ∷ xs) e = refl

some_or_none : {A : Type 0} (o : Option A) → (is_some o ≡ true) ⊎ (o ≡ None)
some_or_none None = inr refl
some_or_none (Some x) = inl refl

abbrev or_zero : Option ℕ → ℕ
or_zero None = 0
or_zero (Some v) = v

is_its_value : (o : Option ℕ) → is_some o ≡ true → o ≡ Some (or_zero o)
is_its_value None e = absurd (false≢true e)
is_its_value (Some v) e = refl

-- all numbers below c are of one kind, or one is of the other
all_or_one : (A B : ℕ → Type 0) → ((g : ℕ) → A g ⊎ B g) → (c : ℕ) → ((g : ℕ) → g < c → A g) ⊎ ((g : ℕ) × (g < c) × B g)
all_or_one A B f zero = inl (λ g l. absurd (omega arith))
all_or_one A B f (suc c) =
    ⊎_elim
    (λ all. ⊎_elim
    (λ a. inl (λ g l. ⊎_elim (λ e. subst A (sym e) a) (λ e. all g (omega arith)) (cases_eq g c)))
    (λ b. inr (c, omega arith, b))
    (f c))
    (λ one. inr (one.0, omega (arith, one.1), one.2))
    (all_or_one A B f c)

undone_parts : (w r b c : Bool) → cond w b (cond r c true) ≡ false → ((w ≡ true) × (b ≡ false)) ⊎ ((r ≡ true) × (c ≡ false))
undone_parts true r b c e = inl (refl, e)
undone_parts false true b c e = inr (refl, e)
undone_parts false false b c e = absurd (true≢false e)

parts_stay : (w r b b' c c' : Bool) → (b ≡ true → b' ≡ true) → (c ≡ true → c' ≡ true) → cond w b (cond r c true) ≡ true → cond w b' (cond r c' true) ≡ true
parts_stay true r b b' c c' f g e = f e
parts_stay false true b b' c c' f g e = g e
parts_stay false false b b' c c' f g e = refl

module _ (os : List Transaction) (own : ℕ → ℕ → ℕ) (h : ℕ) where
  undone : (s : House) (i : ℕ) → done os own h s i ≡ false →
      (s.place ≤ i) × (((writes os own h i ≡ true) × (s.wrote i ≡ false)) ⊎ ((reads os own h i ≡ true) × (is_some (s.noted i) ≡ false)))
  undone s i e =
      let e' = or_parts (ltb i s.place) _ e in
      (ltb-false i s.place e'.0, undone_parts (writes os own h i) (reads os own h i) (s.wrote i) (is_some (s.noted i)) e'.1)

  done_stays : (test : Deed → Bool) (s s' : House) (i : ℕ) → Onward test s s' → done os own h s i ≡ true → done os own h s' i ≡ true
  done_stays test s s' i on e =
      ⊎_elim
      (λ l. or_left (ltb i s'.place) _ (ap (ltb i) on.place ∙ l))
      (λ d. or_right (ltb i s'.place) _ (parts_stay (writes os own h i) (reads os own h i) (s.wrote i) (s'.wrote i) (is_some (s.noted i)) (is_some (s'.noted i))
      (stays_true (λ b. b) (test (write i)) (s.wrote i) (s'.wrote i) (on.wrote i)) (stays_true is_some (test (look i)) (s.noted i) (s'.noted i) (on.noted i)) d))
      (or_cases (ltb i s.place) _ e)

  done_wrote : (s : House) (i : ℕ) → writes os own h i ≡ true → s.wrote i ≡ true → done os own h s i ≡ true
  done_wrote s i w e = or_right (ltb i s.place) _ (cond_both (writes os own h i) (s.wrote i) _ (λ b. b ≡ true) (λ _. e) (λ f. absurd (both_ways _ f w)))

module _ (os : List Transaction) (p : Plan) where
  abbrev Done : ℕ → ℕ → Net → Type 0
  Done i h n = done os p.own h (n.house h) i ≡ true

  -- the orders before i are done everywhere
  abbrev Before : Net → ℕ → Type 0
  Before n i = (h j : ℕ) → h < houses → j < i → Done j h n

  before_later : (test : Deed → Bool) (n m : Net) (i : ℕ) → Later test n m → Before n i → Before m i
  before_later test n m i on all h j in' l = done_stays os p.own h test (n.house h) (m.house h) j (on h) (all h j in' l)

  before_more : (n : Net) (i : ℕ) → Before n i → ((h : ℕ) → h < houses → Done i h n) → Before n (suc i)
  before_more n i all now' h j in' l = ⊎_elim (λ e. subst (λ x. Done x h n) (sym e) (now' h in')) (λ e. all h j in' (omega arith)) (cases_eq j i)

  -- plain deeds, and then one deed of house h
  abbrev Next : ℕ → Deed → Net → (Net → Type 0) → Type 0
  Next h d n P = Leads os p plain n (λ m. (l : Net) × Step os p h d m l × Later calm m l × P l)

  next_leads : (h : ℕ) (d : Deed) (n : Net) (P : Net → Type 0) → calm d ≡ true → Next h d n P → Leads os p calm n P
  next_leads h d n P e a =
      and_then os p calm n (λ m. (l : Net) × Step os p h d m l × Later calm m l × P l) P (leads_calmly os p n _ a) (λ m on x.
      record { net = x.0; deeds = (h, d) ∷ []; pass = (e, tt); run = then stay x.1; on = x.2; holds = x.3 })

  abbrev Near : Net → Type 0
  Near n = (ds : List (ℕ × Deed)) × (m l : Net) × (g : ℕ) × (d : Deed) × AllByRecursion (λ e. plain e.1 ≡ true) ds × Run os p ds n m × Step os p g d m l × Works d

  near_from_next : (h : ℕ) (d : Deed) (n : Net) (P : Net → Type 0) → Works d → Next h d n P → Near n
  near_from_next h d n P w a = (a.deeds, a.net, a.holds.0, h, d, a.pass, a.run, a.holds.1, w)

  -- a house that has not copied beyond an order that it reads in has noted it
  abbrev Noted : ℕ → ℕ → Net → Type 0
  Noted i g n = (n.house g).place ≤ i → reads os p.own g i ≡ true → is_some ((n.house g).noted i) ≡ true

  -- every house that reads in an order has noted it
  abbrev AllNoted : Net → ℕ → Type 0
  AllNoted n i = (g : ℕ) → g < houses → reads os p.own g i ≡ true → is_some ((n.house g).noted i) ≡ true

  noted_later : (test : Deed → Bool) (n m : Net) (g i : ℕ) → Later test n m → is_some ((n.house g).noted i) ≡ true → is_some ((m.house g).noted i) ≡ true
  noted_later test n m g i on = stays_true is_some (test (look i)) ((n.house g).noted i) ((m.house g).noted i) ((on g).noted i)

  noted_on : (test : Deed → Bool) (n m : Net) (g i : ℕ) → Later test n m → Noted i g n → Noted i g m
  noted_on test n m g i on note low r = noted_later test n m g i on (note (omega (arith, (on g).place)) r)

  noted_or_not : (n : Net) (i g : ℕ) → Noted i g n ⊎ (((n.house g).place ≤ i) × (reads os p.own g i ≡ true) × ((n.house g).noted i ≡ None))
  noted_or_not n i g =
      ⊎_elim
      (λ l. inl (λ l' _. absurd (omega arith)))
      (λ l. ⊎_elim
      (λ r. ⊎_elim (λ e. inl (λ _ _. e)) (λ e. inr (l, r, e)) (some_or_none ((n.house g).noted i)))
      (λ r. inl (λ _ r'. absurd (both_ways (reads os p.own g i) r r')))
      (cases_Bool (reads os p.own g i)))
      (cases_lt i (n.house g).place)

  -- house h knows all that an order reads, once every house that reads in it has told it
  module _ (h i : ℕ) (in' : h < houses) where
    hears_all : (n : Net) → AllNoted n i → i < (n.house h).have → Leads os p plain n (λ m. (g : ℕ) → g < houses → Heard os p h g i m)
    hears_all n notes has =
        each_house os p plain n (λ g. Heard os p h g i) (λ g m l on word k e. stays_true is_some true ((m.house h).heard i k) ((l.house h).heard i k) ((on h).heard i k) (word k e))
        (λ g in_g m on. ⊎_elim
        (λ r. delivered os p h g i in' in_g m (omega (arith, (on h).have)) (noted_later plain n m g i on (notes g in_g r)))
        (λ r. here os p plain m _ (λ k e. absurd (both_ways (reads os p.own g i) r (some_from k (own_reads os p.own g i) e))))
        (cases_Bool (reads os p.own g i)))
        houses (omega arith)

    knows_all : Sound os p → (n : Net) → AllNoted n i → ((g : ℕ) → g < houses → Heard os p h g i n) → (k : ℕ) → is_in k (at os i).reads ≡ true → is_some (knows os p.own h (n.house h) i k) ≡ true
    knows_all sound n notes word k e =
        cond_both (eqb (p.own i k) h) (from_note os p.own h i ((n.house h).noted i) k) ((n.house h).heard i k) (λ o. is_some o ≡ true)
        (λ own. in_note ((n.house h).noted i) (notes h in' (some_from k (own_reads os p.own h i) (kept_in (λ x. eqb (p.own i x) h) k (at os i).reads e own))))
        (λ _. word (p.own i k) (sound.housed i k) k (kept_in (λ x. eqb (p.own i x) (p.own i k)) k (at os i).reads e (eq-eqb (p.own i k) (p.own i k) refl)))
      where
        in_note : (o : Option (List ℕ)) → is_some o ≡ true → is_some (from_note os p.own h i o k) ≡ true
        in_note None t = t
        in_note (Some vs) t = refl

  module _ (i : ℕ) (log : i < length os) (n : Net) (all : Before n i) where
    may_look : (g : ℕ) → g < houses → (n.house g).place ≤ i → reads os p.own g i ≡ true → (n.house g).noted i ≡ None → Next g (look i) n (Noted i g)
    may_look g in' low r none =
        and_then os p plain n (λ m. i < (m.house g).have) _ (grown os p g i in' log n) (λ m on has.
        let s = m.house g in
        let seen = Some (map s.value (own_reads os p.own g i)) in
        let s' : House = record { have = s.have; value = s.value; noted = put i seen s.noted; synced = s.synced; wrote = s.wrote; heard = s.heard; place = s.place; saved = s.saved; copied = s.copied } in
        here os p plain m _ (
          record { house = put g s' m.house; soup = m.soup ++ [] },
          acts in' (looks s i has (omega (arith, (on g).place)) r (stays_same is_some false ((n.house g).noted i) (s.noted i) ((on g).noted i) refl ∙ none)
              (λ j k l _. before_later plain n m i on all g j in' l)),
          later_put calm g s' m.house
              (record { place = refl; have = omega arith; noted = λ j. stays_put is_some true i seen s.noted j refl refl; wrote = λ j. inl refl; heard = λ j k. inl refl }),
          λ _ _. ap (λ x. is_some (x.noted i)) (put_same g s' m.house) ∙ ap is_some (put_same i seen s.noted),
        ))

    may_write : Sound os p → (h : ℕ) → h < houses → (n.house h).place ≤ i → writes os p.own h i ≡ true → (n.house h).wrote i ≡ false → AllNoted n i → Next h (write i) n (Done i h)
    may_write sound h in' low w un notes =
        and_then os p plain n (λ m. i < (m.house h).have) _ (grown os p h i in' log n) (λ m on has.
        and_then os p plain m (λ l. (g : ℕ) → g < houses → Heard os p h g i l) _ (hears_all h i in' m (λ g in_g r. noted_later plain n m g i on (notes g in_g r)) has) (λ l on' word.
        let s = l.house h in
        let notes' : AllNoted l i = λ g in_g r. noted_later plain m l g i on' (noted_later plain n m g i on (notes g in_g r)) in
        let f : ℕ → ℕ = λ k. or_zero (knows os p.own h s i k) in
        let new : ℕ → ℕ = λ k. cond (writes_in os p.own h i k) (effect (at os i) f k (s.value k)) (s.value k) in
        let s' : House = record { have = s.have; value = new; noted = s.noted; synced = s.synced; wrote = put i true s.wrote; heard = s.heard; place = s.place; saved = s.saved; copied = s.copied } in
        let un' : s.wrote i ≡ false =
        stays_same (λ b. b) false ((m.house h).wrote i) (s.wrote i) ((on' h).wrote i) refl
        ∙ stays_same (λ b. b) false ((n.house h).wrote i) ((m.house h).wrote i) ((on h).wrote i) refl ∙ un in
        here os p plain l _ (
          record { house = put h s' l.house; soup = l.soup ++ [] },
          acts in' (writes_its s i f new (omega (arith, (on' h).have)) (omega (arith, (on h).place, (on' h).place)) w un' (notes' h in')
              (λ j k b _. before_later plain m l i on' (before_later plain n m i on all) h j in' b)
              (λ k e _. is_its_value (knows os p.own h s i k) (knows_all h i in' sound l notes' word k e)) (λ k. refl)),
          later_put calm h s' l.house
              (record { place = refl; have = omega arith; noted = λ j. inl refl; wrote = λ j. stays_put (λ b. b) true i true s.wrote j refl refl; heard = λ j k. inl refl }),
          done_wrote os p.own h (put h s' l.house h) i w (ap (λ x. x.wrote i) (put_same h s' l.house) ∙ put_same i true s.wrote),
        )))

  -- of an order that a house reads in and has copied beyond, the note is there, unless every house has copied beyond it
  abbrev Keeps : Net → Type 0
  Keeps n = (h i : ℕ) → h < houses → i < (n.house h).place → reads os p.own h i ≡ true → (is_some ((n.house h).noted i) ≡ true) ⊎ ((x : ℕ) → x < houses → i < (n.house x).place)

  keeps_later : (test : Deed → Bool) (n m : Net) → Later test n m → Keeps n → Keeps m
  keeps_later test n m on keeps h i in' l r =
      ⊎_elim
      (λ e. inl (noted_later test n m h i on e))
      (λ b. inr (λ x in-x. omega (arith, b x in-x, (on x).place)))
      (keeps h i in' (omega (arith, (on h).place)) r)

  all_noted : (n : Net) (i : ℕ) → Keeps n → ((g : ℕ) → g < houses → Noted i g n) → (h : ℕ) → h < houses → (n.house h).place ≤ i → AllNoted n i
  all_noted n i keeps notes h in' low g in_g r =
      ⊎_elim
      (λ l. ⊎_elim (λ e. e) (λ b. absurd (omega (arith, b h in'))) (keeps g i in_g l r))
      (λ l. notes g in_g l r)
      (cases_lt i (n.house g).place)

  -- the order at i, where all before it is done
  module _ (i : ℕ) (log : i < length os) (sound : Sound os p) where
    writes_next : (n : Net) → Keeps n → Before n i → ((g : ℕ) → g < houses → Noted i g n) → (h : ℕ) → h < houses → done os p.own h (n.house h) i ≡ false → Next h (write i) n (Done i h)
    writes_next n keeps all notes h in' e =
        let u = undone os p.own h (n.house h) i e in
        ⊎_elim
        (λ x. may_write i log n all sound h in' u.0 x.0 x.1 (all_noted n i keeps notes h in' u.0))
        (λ x. absurd (both_ways (is_some ((n.house h).noted i)) x.1 (notes h in' u.0 x.0)))
        u.1

    notes_all : (n : Net) → Before n i → Leads os p calm n (λ m. (g : ℕ) → g < houses → Noted i g m)
    notes_all n all =
        each_house os p calm n (Noted i) (λ g m l on. noted_on calm m l g i on)
        (λ g in_g m on. ⊎_elim
        (λ note. here os p calm m _ note)
        (λ x. next_leads g (look i) m (Noted i g) refl (may_look i log m (before_later calm n m i on all) g in_g x.0 x.1 x.2))
        (noted_or_not m i g))
        houses (omega arith)

    writes_all : (n : Net) → Keeps n → Before n i → ((g : ℕ) → g < houses → Noted i g n) → Leads os p calm n (λ m. (h : ℕ) → h < houses → Done i h m)
    writes_all n keeps all notes =
        each_house os p calm n (Done i) (λ h m l on. done_stays os p.own h calm (m.house h) (l.house h) i (on h))
        (λ h in' m on. ⊎_elim
        (λ e. here os p calm m _ e)
        (λ e. next_leads h (write i) m (Done i h) refl
        (writes_next m (keeps_later calm n m on keeps) (before_later calm n m i on all) (λ g in_g. noted_on calm n m g i on (notes g in_g)) h in' e))
        (cases_Bool (done os p.own h (m.house h) i)))
        houses (omega arith)

    does_one : (n : Net) → Keeps n → Before n i → Leads os p calm n (λ m. Before m (suc i))
    does_one n keeps all =
        and_then os p calm n (λ m. (g : ℕ) → g < houses → Noted i g m) _ (notes_all n all) (λ m on notes.
        let all' = before_later calm n m i on all in
        and_then os p calm m (λ l. (h : ℕ) → h < houses → Done i h l) _ (writes_all m (keeps_later calm n m on keeps) all' notes) (λ l on' now'.
        here os p calm l _ (before_more l i (before_later calm m l i on' all') now')))

    next_is_near : (n : Net) → Keeps n → Before n i → (h : ℕ) → h < houses → done os p.own h (n.house h) i ≡ false → Near n
    next_is_near n keeps all h in' e =
        ⊎_elim
        (λ notes. near_from_next h (write i) n (Done i h) (by_write i) (writes_next n keeps all notes h in' e))
        (λ x. near_from_next x.0 (look i) n (Noted i x.0) (by_look i) (may_look i log n all x.0 x.1 x.2.0 x.2.1 x.2.2))
        (all_or_one (λ g. Noted i g n) (λ g. ((n.house g).place ≤ i) × (reads os p.own g i ≡ true) × ((n.house g).noted i ≡ None)) (noted_or_not n i) houses)

  does_all : Sound os p → (i : ℕ) → i ≤ length os → (n : Net) → Keeps n → Leads os p calm n (λ m. Before m i)
  does_all sound zero log n keeps = here os p calm n _ (λ h j in' l. absurd (omega arith))
  does_all sound (suc i) log n keeps =
      and_then os p calm n (λ m. Before m i) (λ m. Before m (suc i)) (does_all sound i (omega arith) n keeps) (λ m on all. does_one i log sound m (keeps_later calm n m on keeps) all)

  first_undone : (n : Net) (i : ℕ) → Before n i ⊎ ((j : ℕ) × (j < i) × Before n j × (h : ℕ) × (h < houses) × (done os p.own h (n.house h) j ≡ false))
  first_undone n zero = inl (λ h j in' l. absurd (omega arith))
  first_undone n (suc i) =
      ⊎_elim
      (λ all. ⊎_elim
      (λ now'. inl (before_more n i all now'))
      (λ x. inr (i, omega arith, all, x.0, x.1, x.2))
      (all_or_one (λ h. Done i h n) (λ h. done os p.own h (n.house h) i ≡ false) (λ h. cases_Bool (done os p.own h (n.house h) i)) houses))
      (λ x. inr (x.0, omega (arith, x.1), x.2, x.3, x.4, x.5))
      (first_undone n i)

module _ (os : List Transaction) (p : Plan) (first : ℕ → ℕ) (sound : Sound os p) where
  keeps_quiet : (n : Net) → Inv os p.own first n → Keeps os p (quiet n)
  keeps_quiet n inv h i in' l r = ⊎_elim (λ e. inl e.0) (λ b. inr b) (inv.kept h i in' l r)

  pub never_stuck : (n : Net) → Inv os p.own first n → NeverStuck os p first n
  never_stuck n inv =
      let a = does_all os p sound (length os) (omega arith) (quiet n) (keeps_quiet n inv) in
      (a.deeds, a.net, a.pass, a.run, a.holds)

  pub nearby : (n : Net) → Inv os p.own first n → Nearby os p first n
  nearby n inv h i in' log e =
      ⊎_elim
      (λ all. absurd (both_ways (done os p.own h (n.house h) i) e (all h i in' log)))
      (λ x. next_is_near os p x.0 x.1 sound (quiet n) (keeps_quiet n inv) x.2 x.3 x.4 x.5)
      (first_undone os p (quiet n) (length os))
