-- The invariant holds at the start, and every deed keeps it.
use Rattle.std.proofs.Common.{◌≡◌, ℕ, suc, ◌-◌, ◌<◌, ◌≤◌, max, Bool, true, false, cond, ◌||◌, eqb, ltb, ◌⊎◌, List, [], ◌∷◌, ◌++◌, map, length, is_some, Some, None, Option, sym, refl, ap, ◌∙◌, subst, inl, inr, arith}
use Rattle.std.specs.List.{ContainsAt as Has, AllByRecursion}
use Rattle.std.proofs.ByRecursion.{all-has}
use Rattle.std.proofs.lemmas.List.{get_or_append_left, get_or-append_right, length-append}
use Rattle.std.proofs.lemmas.Bool.{both_ways, eqb-true, eqb-false, cond-true, cond-false, cond_both, cases_eq, cases_lt, cases_Bool, or_right, and_parts}
use Rattle.orders.specs.Transaction.{Transaction, lookup, is_in, leaves, after}
use Rattle.protocol.specs.Log.{houses, at, stood, reads_in, writes_in, own_reads, reads, writes, touches, effect}
use Rattle.protocol.specs.House.{House, fresh, done, Ready, knows, Plan, Sound}
use Rattle.protocol.specs.Machine.{Message, told, asks, copied, Deed, put, hears, Act, Net, start, Step, acts, Run, stay, then}
use Rattle.protocol.specs.Machine.{grows, looks, writes_its, syncs, tells, asks_for, hears_told, hears_copied, checks, says, drops, crashes}
use Rattle.protocol.specs.Promise.{quiet}
use Rattle.protocol.proofs.Invariant.{shadow, Settled, Good, Beyond, Inv}
use Rattle.orders.proofs.Transactions.{map_agreed}
use Rattle.protocol.proofs.Standing.{lookup_map, reads_in_from_own_reads, reads_from_reads_in, writes_from_writes_in, shadow_start, shadow_written, shadow_own, stood_suc}
use Rattle.protocol.proofs.Slots.{value_from_some, done_before, done_writer, done_by_write, cases_done, undone, cases_done_reader}
use Rattle.protocol.proofs.Slots.{conflict_read_write, conflict_write_write, conflict_write_read, value_at, knows_right}

-- a function changed at one number, at any
pub put_cases : {A : Type 0} (i : ℕ) (x : A) (f : ℕ → A) (j : ℕ) (P : A → Type 0) → (j ≡ i → P x) → ((j ≡ i → ⊥) → P (f j)) → P (put i x f j)
put_cases i x f j P here there = cond_both (eqb j i) x (f j) P (λ e. here (eqb-true j i e)) (λ e. there (eqb-false j i e))

has_append_cases : {X : Type 0} (xs ys : List X) (x : X) → Has (xs ++ ys) x → Has xs x ⊎ Has ys x
has_append_cases xs ys x (k, l, e) =
    elim (cases_lt k (length xs)) [
      | inl b ↦ inl (k, b, λ d. sym (get_or_append_left xs ys d k b) ∙ e d)
      | inr b ↦ inr (k - length xs, omega (arith, length-append xs ys), λ d. sym (get_or-append_right xs ys (length xs) k d refl b) ∙ e d)
    ]

some_not_none : {A : Type 0} (o : Option A) → o ≡ None → is_some o ≡ true → ⊥
some_not_none o e t = both_ways (is_some o) (ap is_some e) t

-- a message that a house may send: what it has noted and synced, and that its checkpoint is so far
abbrev Fair : ℕ → House → Message → Type 0
Fair h s (told g i vs) = (g ≡ h) × (s.noted i ≡ Some vs) × (s.synced i ≡ true)
Fair h s (asks g i x) = Unit {0}
Fair h s (copied g c) = (g ≡ h) × (c ≤ s.place)

module _ (os : List Transaction) (p : Plan) (first : ℕ → ℕ) where
  -- what a deed of house h, which takes s to s' and sends some messages, has to meet
  record Onward (n : Net) (h : ℕ) (s s' : House) (sent : List Message) : Type 0 where
    good : Good os p.own first h s'
    up : s.place ≤ s'.place
    fair : AllByRecursion (Fair h s') sent
    keeps : (i : ℕ) (vs : List ℕ) → s.noted i ≡ Some vs → s.synced i ≡ true → ((s'.noted i ≡ Some vs) × (s'.synced i ≡ true)) ⊎ Beyond os p.own first n i
    kept : (i : ℕ) → i < s'.place → reads os p.own h i ≡ true → (i < s.place) ⊎ ((is_some (s'.noted i) ≡ true) × (s'.synced i ≡ true))
    known : (g : ℕ) → g < houses → s'.copied g ≤ (n.house g).place

  module _ (n : Net) (h : ℕ) (s s' : House) (sent : List Message) (within : h < houses) (is : n.house h ≡ s) (inv : Inv os p.own first n) (on : Onward n h s s' sent) where
    abbrev next : Net
    next = record { house = put h s' n.house; soup = n.soup ++ sent }

    place_was : (x : ℕ) → x ≡ h → (n.house x).place ≡ s.place
    place_was x e = ap (λ t. t.place) (ap n.house e ∙ is)

    place_up : (x : ℕ) → (n.house x).place ≤ (next.house x).place
    place_up x = put_cases h s' n.house x (λ t. (n.house x).place ≤ t.place) (λ e. omega (arith, place_was x e, on.up)) (λ _. omega arith)

    beyond_up : (i : ℕ) → Beyond os p.own first n i → Beyond os p.own first next i
    beyond_up i b x l = omega (arith, b x l, place_up x)

    next_good : (g : ℕ) → g < houses → Good os p.own first g (next.house g)
    next_good g l = put_cases h s' n.house g (Good os p.own first g) (λ e. subst (λ y. Good os p.own first y s') (sym e) on.good) (λ _. inv.good g l)

    next_sent_right : (g i : ℕ) (vs : List ℕ) → Has next.soup (told g i vs) → vs ≡ map (stood os first i) (own_reads os p.own g i)
    next_sent_right g i vs has =
        elim (has_append_cases n.soup sent (told g i vs) has) [
          | inl old ↦ inv.sent_right g i vs old
          | inr new ↦ let f = all-has (Fair h s') sent (told g i vs) on.fair new in
              on.good.noted_right i vs f.1 ∙ ap (λ y. map (stood os first i) (own_reads os p.own y i)) (sym f.0)
        ]

    -- an entry of the journal that was on disk still is
    entry_stays : (g i : ℕ) (vs : List ℕ) → ((n.house g).noted i ≡ Some vs) × ((n.house g).synced i ≡ true) →
        (((next.house g).noted i ≡ Some vs) × ((next.house g).synced i ≡ true)) ⊎ Beyond os p.own first next i
    entry_stays g i vs (a, b) =
        put_cases h s' n.house g (λ t. ((t.noted i ≡ Some vs) × (t.synced i ≡ true)) ⊎ Beyond os p.own first next i)
        (λ e.
        let back : s ≡ n.house g = sym (ap n.house e ∙ is) in
        elim (on.keeps i vs (ap (λ t. t.noted i) back ∙ a) (ap (λ t. t.synced i) back ∙ b)) [ inl q ↦ inl q | inr q ↦ inr (beyond_up i q) ])
        (λ _. inl (a, b))

    next_stays : (g i : ℕ) (vs : List ℕ) → Has next.soup (told g i vs) → (((next.house g).noted i ≡ Some vs) × ((next.house g).synced i ≡ true)) ⊎ Beyond os p.own first next i
    next_stays g i vs has =
        elim (has_append_cases n.soup sent (told g i vs) has) [
          | inl old ↦ elim (inv.stays g i vs old) [ inl q ↦ entry_stays g i vs q | inr q ↦ inr (beyond_up i q) ]
          | inr new ↦ let f = all-has (Fair h s') sent (told g i vs) on.fair new in
              inl (put_cases h s' n.house g (λ t. (t.noted i ≡ Some vs) × (t.synced i ≡ true)) (λ _. (f.1, f.2)) (λ apart. absurd (apart f.0)))
        ]

    next_kept : (g i : ℕ) → g < houses → i < (next.house g).place → reads os p.own g i ≡ true →
        ((is_some ((next.house g).noted i) ≡ true) × ((next.house g).synced i ≡ true)) ⊎ Beyond os p.own first next i
    next_kept g i l below r =
        elim was [
          | inl q ↦ elim (inv.kept g i l q r) [
            | inl y ↦ let v = value_from_some ((n.house g).noted i) y.0 in
                elim (entry_stays g i v.0 (v.1, y.1)) [ inl z ↦ inl (ap is_some z.0, z.1) | inr z ↦ inr z ]
            | inr y ↦ inr (beyond_up i y)
          ]
          | inr q ↦ inl q
        ]
      where
        was : (i < (n.house g).place) ⊎ ((is_some ((next.house g).noted i) ≡ true) × ((next.house g).synced i ≡ true))
        was =
            put_cases h s' n.house g (λ t. i < t.place → (i < (n.house g).place) ⊎ ((is_some (t.noted i) ≡ true) × (t.synced i ≡ true)))
            (λ e b. elim (on.kept i b (subst (λ y. reads os p.own y i ≡ true) e r)) [ inl q ↦ inl (omega (arith, place_was g e)) | inr q ↦ inr q ]) (λ _ b. inl b) below

    next_said : (g c : ℕ) → Has next.soup (copied g c) → c ≤ (next.house g).place
    next_said g c has =
        elim (has_append_cases n.soup sent (copied g c) has) [
          | inl old ↦ omega (arith, inv.said g c old, place_up g)
          | inr new ↦ let f = all-has (Fair h s') sent (copied g c) on.fair new in
              put_cases h s' n.house g (λ t. c ≤ t.place) (λ _. f.1) (λ apart. absurd (apart f.0))
        ]

    next_known : (x g : ℕ) → x < houses → g < houses → (next.house x).copied g ≤ (next.house g).place
    next_known x g l m =
        put_cases h s' n.house x (λ t. t.copied g ≤ (next.house g).place)
        (λ _. omega (arith, on.known g m, place_up g)) (λ _. omega (arith, inv.known x g l m, place_up g))

    inv_next : Inv os p.own first next
    inv_next = record { good = next_good; sent_right = next_sent_right; stays = next_stays; kept = next_kept; said = next_said; known = next_known }

module _ (os : List Transaction) (p : Plan) (first : ℕ → ℕ) (sound : Sound os p) (n : Net) (h : ℕ) (s : House) (good : Good os p.own first h s)
    (known : (g : ℕ) → g < houses → s.copied g ≤ (n.house g).place) where
  -- where the writers of a key that are done, and its value, are the same, it stays settled
  settled_same : (s' : House) (k : ℕ) → ((j : ℕ) → writes_in os p.own h j k ≡ true → done os p.own h s' j ≡ done os p.own h s j) → s'.value k ≡ s.value k →
      (c : ℕ) × Settled os p.own first h s' k c
  settled_same s' k same v =
      let t = (good.settled k).1 in
      ((good.settled k).0, record { earlier = λ j l w. same j w ∙ t.earlier j l w; later = λ j l w. same j w ∙ t.later j l w; is = v ∙ t.is })

  same_writer : (s' : House) (j k : ℕ) → (ltb j s'.place || s'.wrote j) ≡ (ltb j s.place || s.wrote j) → writes_in os p.own h j k ≡ true → done os p.own h s' j ≡ done os p.own h s j
  same_writer s' j k e w = let w' = writes_from_writes_in os p.own h j k w in done_writer os p.own h s' j w' ∙ e ∙ sym (done_writer os p.own h s j w')

  -- the log grows, syncing, telling, asking, hearing, saying: what the house does not hold in its slots or its checkpoint
  abbrev like : ℕ → (ℕ → Bool) → (ℕ → ℕ → Option ℕ) → (ℕ → ℕ) → House
  like have' synced' heard' copied' = record {
    have = have';
    value = s.value;
    noted = s.noted;
    synced = synced';
    wrote = s.wrote;
    heard = heard';
    place = s.place;
    saved = s.saved;
    copied = copied';
  }

  on_like : (have' : ℕ) (synced' : ℕ → Bool) (heard' : ℕ → ℕ → Option ℕ) (copied' : ℕ → ℕ) (sent : List Message) →
      ((i k v : ℕ) → heard' i k ≡ Some v → v ≡ stood os first i k) → ((i : ℕ) → synced' i ≡ true → is_some (s.noted i) ≡ true) →
      ((i : ℕ) → is_some (s.noted i) ≡ true → s.synced i ≡ true → synced' i ≡ true) →
      ((g : ℕ) → g < houses → copied' g ≤ (n.house g).place) → AllByRecursion (Fair h (like have' synced' heard' copied')) sent →
      Onward os p first n h s (like have' synced' heard' copied') sent
  on_like have' synced' heard' copied' sent heard_right noted synced known' fair = record {
    good = record {
      settled = λ k. settled_same (like have' synced' heard' copied') k (λ j w. refl) refl;
      noted_right = good.noted_right;
      heard_right = heard_right;
      read_first = good.read_first;
      looked = good.looked;
      saved_right = good.saved_right;
      synced_noted = noted;
    };
    up = omega arith;
    fair = fair;
    keeps = λ i vs e t. inl (e, synced i (ap is_some e) t);
    kept = λ i l r. inl l;
    known = known';
  }

  on_unchanged : (sent : List Message) → AllByRecursion (Fair h s) sent → Onward os p first n h s s sent
  on_unchanged sent fair = on_like s.have s.synced s.heard s.copied sent good.heard_right good.synced_noted (λ i _ t. t) known fair

  on_grow : Onward os p first n h s (like (suc s.have) s.synced s.heard s.copied) []
  on_grow = on_like (suc s.have) s.synced s.heard s.copied [] good.heard_right good.synced_noted (λ i _ t. t) known tt

  on_sync : (synced' : ℕ → Bool) → ((i : ℕ) → synced' i ≡ is_some (s.noted i)) → Onward os p first n h s (like s.have synced' s.heard s.copied) []
  on_sync synced' e = on_like s.have synced' s.heard s.copied [] good.heard_right (λ i t. sym (e i) ∙ t) (λ i t _. e i ∙ t) known tt

  on_hear_told : (g i : ℕ) (vs : List ℕ) (heard' : ℕ → ℕ → Option ℕ) → vs ≡ map (stood os first i) (own_reads os p.own g i) →
      ((j k : ℕ) → heard' j k ≡ cond (eqb j i) (hears (own_reads os p.own g i) vs (s.heard i) k) (s.heard j k)) →
      Onward os p first n h s (like s.have s.synced heard' s.copied) []
  on_hear_told g i vs heard' right is = on_like s.have s.synced heard' s.copied [] heard_right good.synced_noted (λ j _ t. t) known tt
    where
      heard_now : (k v : ℕ) → hears (own_reads os p.own g i) vs (s.heard i) k ≡ Some v → v ≡ stood os first i k
      heard_now k v =
          cond_both (is_in k (own_reads os p.own g i)) (Some (lookup (own_reads os p.own g i) vs k 0)) (s.heard i k) (λ o. o ≡ Some v → v ≡ stood os first i k)
          (λ l e.
          let a : v ≡ lookup (own_reads os p.own g i) vs k 0 = cc in
          a ∙ ap (λ x. lookup (own_reads os p.own g i) x k 0) right ∙ lookup_map (stood os first i) (own_reads os p.own g i) k 0 l)
          (λ _ e. good.heard_right i k v e)

      heard_right : (j k v : ℕ) → heard' j k ≡ Some v → v ≡ stood os first j k
      heard_right j k v e =
          cond_both (eqb j i) (hears (own_reads os p.own g i) vs (s.heard i) k) (s.heard j k) (λ o. o ≡ Some v → v ≡ stood os first j k)
          (λ q y. heard_now k v y ∙ ap (λ x. stood os first x k) (sym (eqb-true j i q))) (λ _ y. good.heard_right j k v y) (sym (is j k) ∙ e)

  on_hear_copied : (g c : ℕ) → c ≤ (n.house g).place → Onward os p first n h s (like s.have s.synced s.heard (put g (max c (s.copied g)) s.copied)) []
  on_hear_copied g c l =
      on_like s.have s.synced s.heard (put g (max c (s.copied g)) s.copied) [] good.heard_right good.synced_noted (λ i _ t. t)
      (λ x b. put_cases g (max c (s.copied g)) s.copied x (λ m. m ≤ (n.house x).place)
      (λ e. let m : s.copied g ≤ (n.house g).place = known g (subst (λ y. y < houses) e b) in
      let q : (n.house x).place ≡ (n.house g).place = ap (λ y. (n.house y).place) e in
      omega arith)
      (λ _. known x b)) tt

  -- looking: what stands in the keys that the order reads is what stood there before it
  module _ (i : ℕ) (place : s.place ≤ i) (none : s.noted i ≡ None) (ready : Ready os p.own h s i) where
    unlooked : (is_some (s.noted i) ≡ true) ⊎ (i < s.place) → ⊥
    unlooked (inl t) = some_not_none (s.noted i) none t
    unlooked (inr l) = omega arith

    look_late : (k : ℕ) → reads_in os p.own h i k ≡ true → (j : ℕ) → i ≤ j → writes_in os p.own h j k ≡ true → done os p.own h s j ≡ false
    look_late k r j l w = elim (cases_Bool (done os p.own h s j)) [ inl d ↦ absurd (not_done d) | inr e ↦ e ]
      where
        not_done : done os p.own h s j ≡ true → ⊥
        not_done d =
            elim (cases_lt i j) [
              | inl b ↦ unlooked (good.read_first i j k b r w d)
              | inr b ↦ let e : j ≡ i = omega arith in
                  elim (cases_done os p.own h s j (writes_from_writes_in os p.own h j k w) d) [
                    | inl y ↦ omega arith
                    | inr y ↦ unlooked (good.looked i (subst (λ x. s.wrote x ≡ true) e y) (reads_from_reads_in os p.own h i k r))
                  ]
            ]

    look_value : (k : ℕ) → is_in k (own_reads os p.own h i) ≡ true → s.value k ≡ stood os first i k
    look_value k l =
        let r : reads_in os p.own h i k ≡ true = reads_in_from_own_reads os p.own h i k l in
        value_at os p.own first h s k (good.settled k).0 i (good.settled k).1 (λ j b w. ready j k b (conflict_read_write os p.own h i j k r w)) (look_late k r)
        ∙ shadow_own os p first sound h i k (eqb-true (p.own i k) h (and_parts (is_in k (at os i).reads) (eqb (p.own i k) h) r).1)

    abbrev noted_after_look : ℕ → Option (List ℕ)
    noted_after_look = put i (Some (map s.value (own_reads os p.own h i))) s.noted

    abbrev after_look : House
    after_look = record { have = s.have; value = s.value; noted = noted_after_look; synced = s.synced; wrote = s.wrote; heard = s.heard; place = s.place; saved = s.saved; copied = s.copied }

    noted_more : (j : ℕ) → is_some (s.noted j) ≡ true → is_some (noted_after_look j) ≡ true
    noted_more j t = put_cases i (Some (map s.value (own_reads os p.own h i))) s.noted j (λ o. is_some o ≡ true) (λ _. refl) (λ _. t)

    noted_or_behind : (j : ℕ) → (is_some (s.noted j) ≡ true) ⊎ (j < s.place) → (is_some (noted_after_look j) ≡ true) ⊎ (j < s.place)
    noted_or_behind j (inl t) = inl (noted_more j t)
    noted_or_behind j (inr l) = inr l

    on_look : Onward os p first n h s after_look []
    on_look = record {
      good = record {
        settled = λ k. settled_same after_look k (λ j. same_writer after_look j k refl) refl;
        noted_right = λ j vs e. put_cases i (Some (map s.value (own_reads os p.own h i))) s.noted j (λ o. o ≡ Some vs → vs ≡ map (stood os first j) (own_reads os p.own h j))
            (λ q y.
            let a : vs ≡ map s.value (own_reads os p.own h i) = cc in
            a ∙ map_agreed (own_reads os p.own h i) s.value (stood os first i) look_value ∙ ap (λ x. map (stood os first x) (own_reads os p.own h x)) (sym q))
            (λ _ y. good.noted_right j vs y) e;
        heard_right = good.heard_right;
        read_first = λ j l k b r w d. noted_or_behind j (good.read_first j l k b r w (sym (same_writer after_look l k refl w) ∙ d));
        looked = λ j w r. noted_or_behind j (good.looked j w r);
        saved_right = good.saved_right;
        synced_noted = λ j t. noted_more j (good.synced_noted j t);
      };
      up = omega arith;
      fair = tt;
      keeps = λ j vs e t. inl (
        put_cases i (Some (map s.value (own_reads os p.own h i))) s.noted j (λ o. o ≡ Some vs)
            (λ q. absurd (some_not_none (s.noted i) none (ap is_some (ap s.noted (sym q) ∙ e)))) (λ _. e),
        t,
      );
      kept = λ j l r. inl l;
      known = known;
    }

  -- dropping an entry that every house has copied beyond
  module _ (i : ℕ) (beyond : Beyond os p.own first n i) (place : i < s.place) where
    abbrev after_drop : House
    after_drop = record {
      have = s.have;
      value = s.value;
      noted = put i None s.noted;
      synced = put i false s.synced;
      wrote = s.wrote;
      heard = s.heard;
      place = s.place;
      saved = s.saved;
      copied = s.copied;
    }

    kept_or_behind : (j : ℕ) → (is_some (s.noted j) ≡ true) ⊎ (j < s.place) → (is_some (after_drop.noted j) ≡ true) ⊎ (j < s.place)
    kept_or_behind j e = put_cases i None s.noted j (λ o. (is_some o ≡ true) ⊎ (j < s.place)) (λ q. inr (omega arith)) (λ _. e)

    synced_noted_left : (j : ℕ) → put i false s.synced j ≡ true → is_some (put i None s.noted j) ≡ true
    synced_noted_left j =
        put_cases i None s.noted j (λ o. put i false s.synced j ≡ true → is_some o ≡ true)
        (λ q t. absurd (both_ways (put i false s.synced j) (put_cases i false s.synced j (λ b. b ≡ false) (λ _. refl) (λ apart. absurd (apart q))) t))
        (λ apart t. good.synced_noted j (put_cases i false s.synced j (λ b. b ≡ true → s.synced j ≡ true) (λ q. absurd (apart q)) (λ _ y. y) t))

    entry_left : (j : ℕ) (vs : List ℕ) → s.noted j ≡ Some vs → s.synced j ≡ true → ((after_drop.noted j ≡ Some vs) × (after_drop.synced j ≡ true)) ⊎ Beyond os p.own first n j
    entry_left j vs e t =
        elim (cases_eq j i) [
          | inl q ↦ inr (subst (Beyond os p.own first n) (sym q) beyond)
          | inr apart ↦ inl (put_cases i None s.noted j (λ o. o ≡ Some vs) (λ q. absurd (apart q)) (λ _. e), put_cases i false s.synced j (λ b. b ≡ true) (λ q. absurd (apart q)) (λ _. t))
        ]

    on_drop : Onward os p first n h s after_drop []
    on_drop = record {
      good = record {
        settled = λ k. settled_same after_drop k (λ j. same_writer after_drop j k refl) refl;
        noted_right = λ j vs. put_cases i None s.noted j (λ o. o ≡ Some vs → vs ≡ map (stood os first j) (own_reads os p.own h j))
            (λ _ y. absurd (some_not_none (Some vs) (sym y) refl)) (λ _. good.noted_right j vs);
        heard_right = good.heard_right;
        read_first = λ j l k b r w d. kept_or_behind j (good.read_first j l k b r w (sym (same_writer after_drop l k refl w) ∙ d));
        looked = λ j w r. kept_or_behind j (good.looked j w r);
        saved_right = good.saved_right;
        synced_noted = synced_noted_left;
      };
      up = omega arith;
      fair = tt;
      keeps = entry_left;
      kept = λ j l r. inl l;
      known = known;
    }

  -- a checkpoint
  module _ (c : ℕ) (saved' : ℕ → ℕ) (place : s.place ≤ c) (past : (i : ℕ) → i < c → p.passable h s i ≡ true)
      (rest : (i : ℕ) → c ≤ i → touches os p.own h i ≡ true → done os p.own h s i ≡ false)
      (journal : (i : ℕ) → i < c → is_some (s.noted i) ≡ true → s.synced i ≡ true) (saves : (k : ℕ) → saved' k ≡ s.value k) where
    abbrev after_checkpoint : House
    after_checkpoint = record { have = s.have; value = s.value; noted = s.noted; synced = s.synced; wrote = s.wrote; heard = s.heard; place = c; saved = saved'; copied = s.copied }

    done_past : (i : ℕ) → i < c → done os p.own h s i ≡ true
    done_past i l = sound.passes h i s (past i l)

    undone_rest : (j k : ℕ) → c ≤ j → writes_in os p.own h j k ≡ true → done os p.own h s j ≡ false
    undone_rest j k l w = rest j l (or_right (reads os p.own h j) (writes os p.own h j) (writes_from_writes_in os p.own h j k w))

    value_there : (k : ℕ) → s.value k ≡ shadow os p.own first h c k
    value_there k = value_at os p.own first h s k (good.settled k).0 c (good.settled k).1 (λ j l w. done_past j l) (λ j l w. undone_rest j k l w)

    unwritten_rest : (j k : ℕ) → c ≤ j → writes_in os p.own h j k ≡ true → s.wrote j ≡ false
    unwritten_rest j k l w =
        elim (cases_Bool (s.wrote j)) [
          | inl t ↦ absurd (both_ways (done os p.own h s j) (undone_rest j k l w) (done_by_write os p.own h s j (writes_from_writes_in os p.own h j k w) t))
          | inr f ↦ f
        ]

    still_undone : (j k : ℕ) → c ≤ j → writes_in os p.own h j k ≡ true → done os p.own h after_checkpoint j ≡ false
    still_undone j k l w = undone os p.own h after_checkpoint j (writes_from_writes_in os p.own h j k w) l (unwritten_rest j k l w)

    on_checkpoint : Onward os p first n h s after_checkpoint []
    on_checkpoint = record {
      good = record {
        settled = λ k. (c, record { earlier = λ j l w. done_before os p.own h after_checkpoint j l; later = λ j. still_undone j k; is = value_there k });
        noted_right = good.noted_right;
        heard_right = good.heard_right;
        read_first = λ i j k b r w d. elim (cases_lt j c) [ inl l ↦ inr (omega arith) | inr l ↦ absurd (both_ways (done os p.own h after_checkpoint j) (still_undone j k l w) d) ];
        looked = λ i w r. elim (good.looked i w r) [ inl t ↦ inl t | inr l ↦ inr (omega arith) ];
        saved_right = λ k. saves k ∙ value_there k;
        synced_noted = good.synced_noted;
      };
      up = place;
      fair = tt;
      keeps = λ i vs e t. inl (e, t);
      kept = λ i l r. elim (cases_done_reader os p.own h s i r (done_past i l)) [
        | inl b ↦ inl b
        | inr (inl w) ↦ elim (good.looked i w r) [ inl t ↦ inr (t, journal i l t) | inr b ↦ inl b ]
        | inr (inr t) ↦ inr (t, journal i l t)
      ];
      known = known;
    }

  -- a crash
  module _ (value' : ℕ → ℕ) (noted' : ℕ → Option (List ℕ)) (synced' wrote' : ℕ → Bool) (heard' : ℕ → ℕ → Option ℕ) (copied' : ℕ → ℕ)
      (back : (k : ℕ) → value' k ≡ s.saved k) (left : (i : ℕ) → (noted' i ≡ s.noted i) ⊎ ((noted' i ≡ None) × (s.synced i ≡ false))) (synced : (i : ℕ) → synced' i ≡ is_some (noted' i))
      (unwritten : (i : ℕ) → wrote' i ≡ false) (unheard : (i k : ℕ) → heard' i k ≡ None) (uncopied : (g : ℕ) → copied' g ≡ 0) where
    abbrev after_crash : House
    after_crash = record { have = s.have; value = value'; noted = noted'; synced = synced'; wrote = wrote'; heard = heard'; place = s.place; saved = s.saved; copied = copied' }

    on_crash : Onward os p first n h s after_crash []
    on_crash = record {
      good = record {
        settled = λ k. (
          s.place,
          record {
            earlier = λ j l w. done_before os p.own h after_crash j l;
            later = λ j l w. undone os p.own h after_crash j (writes_from_writes_in os p.own h j k w) l (unwritten j);
            is = back k ∙ good.saved_right k;
          },
        );
        noted_right = λ i vs e. elim (left i) [ inl q ↦ good.noted_right i vs (sym q ∙ e) | inr q ↦ absurd (some_not_none (noted' i) q.0 (ap is_some e)) ];
        heard_right = λ i k v e. absurd (some_not_none (heard' i k) (unheard i k) (ap is_some e));
        read_first = λ i j k b r w d. elim (cases_done os p.own h after_crash j (writes_from_writes_in os p.own h j k w) d) [
          | inl l ↦ inr (omega arith)
          | inr t ↦ absurd (both_ways (wrote' j) (unwritten j) t)
        ];
        looked = λ i w r. absurd (both_ways (wrote' i) (unwritten i) w);
        saved_right = good.saved_right;
        synced_noted = λ i t. sym (synced i) ∙ t;
      };
      up = omega arith;
      fair = tt;
      keeps = λ i vs e t. elim (left i) [ inl q ↦ inl (q ∙ e, synced i ∙ ap is_some (q ∙ e)) | inr q ↦ absurd (both_ways (s.synced i) q.1 t) ];
      kept = λ i l r. inl l;
      known = λ g l. omega (arith, uncopied g);
    }

  -- writing: from all that the order has read stands what it leaves
  module _ (i : ℕ) (f value' : ℕ → ℕ) (place : s.place ≤ i) (part : writes os p.own h i ≡ true) (unwritten : s.wrote i ≡ false)
      (read : reads os p.own h i ≡ true → is_some (s.noted i) ≡ true) (ready : Ready os p.own h s i)
      (given : (k : ℕ) → is_in k (at os i).reads ≡ true → p.need i h k ≡ true → knows os p.own h s i k ≡ Some (f k))
      (written : (k : ℕ) → value' k ≡ cond (writes_in os p.own h i k) (effect (at os i) f k (s.value k)) (s.value k)) where
    abbrev after_write : House
    after_write = record {
      have = s.have;
      value = value';
      noted = s.noted;
      synced = s.synced;
      wrote = put i true s.wrote;
      heard = s.heard;
      place = s.place;
      saved = s.saved;
      copied = s.copied;
    }

    still_to_do : done os p.own h s i ≡ false
    still_to_do = undone os p.own h s i part place unwritten

    same_others : (j : ℕ) → (j ≡ i → ⊥) → done os p.own h after_write j ≡ done os p.own h s j
    same_others j apart = ap (λ b. ltb j s.place || cond (writes os p.own h j) b (cond (reads os p.own h j) (is_some (s.noted j)) true))
        (put_cases i true s.wrote j (λ b. b ≡ s.wrote j) (λ q. absurd (apart q)) (λ _. refl))

    now_done : (j : ℕ) → done os p.own h s j ≡ true → done os p.own h after_write j ≡ true
    now_done j d = same_others j (λ q. both_ways (done os p.own h s j) (ap (done os p.own h s) q ∙ still_to_do) d) ∙ d

    now_written : done os p.own h after_write i ≡ true
    now_written = done_by_write os p.own h after_write i part (put_cases i true s.wrote i (λ b. b ≡ true) (λ _. refl) (λ apart. absurd (apart refl)))

    -- a key that the order writes here
    module _ (k : ℕ) (w : writes_in os p.own h i k ≡ true) where
      early : (j : ℕ) → j < i → writes_in os p.own h j k ≡ true → done os p.own h s j ≡ true
      early j l v = ready j k l (conflict_write_write os p.own h i j k w v)

      late : (j : ℕ) → i ≤ j → writes_in os p.own h j k ≡ true → done os p.own h s j ≡ false
      late j l v =
          elim (cases_lt i (good.settled k).0) [
            | inl b ↦ absurd (both_ways (done os p.own h s i) still_to_do ((good.settled k).1.earlier i b w))
            | inr b ↦ (good.settled k).1.later j (omega arith) v
          ]

      -- where it does not read it, the house has had it all along
      held : is_in k (at os i).reads ≡ false → s.value k ≡ stood os first i k
      held out =
          let mine : p.own (suc i) k ≡ h = eqb-true (p.own (suc i) k) h (and_parts (is_in k (at os i).writes) (eqb (p.own (suc i) k) h) w).1 in
          let same : p.own i k ≡ h = elim (sound.moves i k) [ inl e ↦ sym e ∙ mine | inr e ↦ absurd (both_ways (is_in k (at os i).reads) out e.0) ] in
          value_at os p.own first h s k (good.settled k).0 i (good.settled k).1 early late ∙ shadow_own os p first sound h i k same

      effect_after : effect (at os i) (stood os first i) k (s.value k) ≡ after (at os i) (stood os first i) k
      unfolding after
      effect_after = ap (λ v. leaves (at os i) (map (stood os first i) (at os i).reads) k v)
          (cond_both (is_in k (at os i).reads) (stood os first i k) (s.value k) (λ v. v ≡ stood os first i k) (λ _. refl) held)

      value_now : value' k ≡ shadow os p.own first h (suc i) k
      value_now =
          written k ∙ cond-true (writes_in os p.own h i k) (effect (at os i) f k (s.value k)) (s.value k) w
          ∙ sound.enough i h k (s.value k) f (stood os first i) w (λ j r e. knows_right os p.own first h s good i j (f j) r (given j r e))
          ∙ effect_after ∙ sym (stood_suc os first i k) ∙ sym (shadow_written os p.own first h i k w)

      settled_now : Settled os p.own first h after_write k (suc i)
      settled_now = record {
        earlier = λ j l v. elim (cases_eq j i) [ inl e ↦ ap (done os p.own h after_write) e ∙ now_written | inr apart ↦ now_done j (early j (omega arith) v) ];
        later = λ j l v. same_others j (λ e. omega arith) ∙ late j (omega arith) v;
        is = value_now;
      }

    settled_else : (k : ℕ) → writes_in os p.own h i k ≡ false → (c : ℕ) × Settled os p.own first h after_write k c
    settled_else k out =
        settled_same after_write k (λ j w. same_others j (λ e. both_ways (writes_in os p.own h i k) out (subst (λ x. writes_in os p.own h x k ≡ true) e w)))
        (written k ∙ cond-false (writes_in os p.own h i k) (effect (at os i) f k (s.value k)) (s.value k) out)

    read_before : (j k : ℕ) → j < i → reads_in os p.own h j k ≡ true → writes_in os p.own h i k ≡ true → (is_some (s.noted j) ≡ true) ⊎ (j < s.place)
    read_before j k l r w =
        let r' : reads os p.own h j ≡ true = reads_from_reads_in os p.own h j k r in
        elim (cases_done_reader os p.own h s j r' (ready j k l (conflict_write_read os p.own h i j k w r))) [
          | inl b ↦ inr b
          | inr (inl t) ↦ good.looked j t r'
          | inr (inr t) ↦ inl t
        ]

    on_write : Onward os p first n h s after_write []
    on_write = record {
      good = record {
        settled = λ k. elim (cases_Bool (writes_in os p.own h i k)) [ inl w ↦ (suc i, settled_now k w) | inr out ↦ settled_else k out ];
        noted_right = good.noted_right;
        heard_right = good.heard_right;
        read_first = λ j l k b r w d. elim (cases_eq l i) [
          | inl e ↦ read_before j k (omega arith) r (subst (λ x. writes_in os p.own h x k ≡ true) e w)
          | inr apart ↦ good.read_first j l k b r w (sym (same_others l apart) ∙ d)
        ];
        looked = λ j. put_cases i true s.wrote j (λ b. b ≡ true → reads os p.own h j ≡ true → (is_some (s.noted j) ≡ true) ⊎ (j < s.place))
            (λ e _ r. inl (ap (λ x. is_some (s.noted x)) e ∙ read (subst (λ x. reads os p.own h x ≡ true) e r))) (λ _. good.looked j);
        saved_right = good.saved_right;
        synced_noted = good.synced_noted;
      };
      up = omega arith;
      fair = tt;
      keeps = λ j vs e t. inl (e, t);
      kept = λ j l r. inl l;
      known = known;
    }

module _ (os : List Transaction) (p : Plan) (first : ℕ → ℕ) (sound : Sound os p) where
  module _ (n : Net) (h : ℕ) (within : h < houses) (inv : Inv os p.own first n) where
    good_of : (s : House) → n.house h ≡ s → Good os p.own first h s
    good_of s e = subst (Good os p.own first h) e (inv.good h within)

    known_of : (s : House) → n.house h ≡ s → (g : ℕ) → g < houses → s.copied g ≤ (n.house g).place
    known_of s e g l = subst (λ t. t.copied g ≤ (n.house g).place) e (inv.known h g within l)

    on_act : {d : Deed} {s s' : House} {sent : List Message} → n.house h ≡ s → Act os p h n.soup d s s' sent → Onward os p first n h s s' sent
    on_act e (grows s l) = on_grow os p first sound n h s (good_of s e) (known_of s e)
    on_act e (looks s i l place r none ready) = on_look os p first sound n h s (good_of s e) (known_of s e) i place none ready
    on_act e (writes_its s i f value' l place part unwritten read ready given written) =
        on_write os p first sound n h s (good_of s e) (known_of s e) i f value' place part unwritten read ready given written
    on_act e (syncs s synced' q) = on_sync os p first sound n h s (good_of s e) (known_of s e) synced' q
    on_act e (tells s i vs noted synced) = on_unchanged os p first sound n h s (good_of s e) (known_of s e) (told h i vs ∷ []) ((refl, noted, synced), tt)
    on_act e (asks_for s i g l) = on_unchanged os p first sound n h s (good_of s e) (known_of s e) (asks h i g ∷ []) (tt, tt)
    on_act e (hears_told s g i vs heard' has l q) = on_hear_told os p first sound n h s (good_of s e) (known_of s e) g i vs heard' (inv.sent_right g i vs has) q
    on_act e (hears_copied s g c has) = on_hear_copied os p first sound n h s (good_of s e) (known_of s e) g c (inv.said g c has)
    on_act e (checks s c saved' l place past rest journal saves) = on_checkpoint os p first sound n h s (good_of s e) (known_of s e) c saved' place past rest journal saves
    on_act e (says s) = on_unchanged os p first sound n h s (good_of s e) (known_of s e) (copied h s.place ∷ []) ((refl, omega arith), tt)
    on_act e (drops s i all) =
        let beyond : Beyond os p.own first n i = λ x l. omega (arith, all x l, known_of s e x l) in
        on_drop os p first sound n h s (good_of s e) (known_of s e) i beyond (subst (λ t. i < t.place) e (beyond h within))
    on_act e (crashes s value' noted' synced' wrote' heard' copied' back left synced unwritten unheard uncopied) =
        on_crash os p first sound n h s (good_of s e) (known_of s e) value' noted' synced' wrote' heard' copied' back left synced unwritten unheard uncopied

  pub inv_step : {h : ℕ} {d : Deed} {n m : Net} → Step os p h d n m → Inv os p.own first n → Inv os p.own first m
  inv_step (acts {n = n} {h = h} {s = s'} {sent = sent} within act) inv = inv_next os p first n h (n.house h) s' sent within refl inv (on_act n h within inv refl act)

  pub inv_run : {ds : List (ℕ × Deed)} {n m : Net} → Run os p ds n m → Inv os p.own first n → Inv os p.own first m
  inv_run stay inv = inv
  inv_run (then run step) inv = inv_step step (inv_run run inv)

  good_start : (h : ℕ) → Good os p.own first h (fresh first)
  good_start h = record {
    settled = λ k. (
      0,
      record {
        earlier = λ j l w. absurd (omega arith);
        later = λ j l w. undone os p.own h (fresh first) j (writes_from_writes_in os p.own h j k w) l refl;
        is = sym (shadow_start os p.own first h k);
      },
    );
    noted_right = λ i vs e. absurd (some_not_none (Some vs) (sym e) refl);
    heard_right = λ i k v e. absurd (some_not_none (Some v) (sym e) refl);
    read_first = λ i j k b r w d. elim (cases_done os p.own h (fresh first) j (writes_from_writes_in os p.own h j k w) d) [
      | inl l ↦ absurd (omega arith)
      | inr t ↦ absurd (both_ways false refl t)
    ];
    looked = λ i w r. absurd (both_ways false refl w);
    saved_right = λ k. sym (shadow_start os p.own first h k);
    synced_noted = λ i t. absurd (both_ways false refl t);
  }

  pub inv_start : Inv os p.own first (start first)
  inv_start = record {
    good = λ h l. good_start h;
    sent_right = λ g i vs has. absurd (omega (arith, has.1));
    stays = λ g i vs has. absurd (omega (arith, has.1));
    kept = λ h i l b r. absurd (omega arith);
    said = λ g c has. absurd (omega (arith, has.1));
    known = λ h g l m. omega arith;
  }

  pub inv_quiet : (n : Net) → Inv os p.own first n → Inv os p.own first (quiet n)
  inv_quiet n inv = record {
    good = inv.good;
    sent_right = λ g i vs has. absurd (omega (arith, has.1));
    stays = λ g i vs has. absurd (omega (arith, has.1));
    kept = inv.kept;
    said = λ g c has. absurd (omega (arith, has.1));
    known = inv.known;
  }
