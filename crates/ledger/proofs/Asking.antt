-- Whether a house may look or write is what the machine says, both ways.
use Rattle.std.proofs.Common.{◌≡◌, ℕ, suc, ◌%◌, ◌<◌, ◌≤◌, Bool, true, false, cond, not, ◌&&◌, ◌||◌, eqb, leb, List, [], ◌∷◌, length, get_or, is_some, Some, None, Decides, filter, Option, unwrap_or, sym, refl, ap, ◌∙◌, inl, inr, arith}
use Rattle.std.proofs.lemmas.Bool.Decides.{Decides-at}
use Rattle.std.proofs.lemmas.Bool.{both_ways, not-true, not_from_false, and_parts, and_from, and_cases, or_cases, or_left, or_right, cases_Bool, cond-true, cond-false, eqb-true, eq-eqb, ne_eqb, leb-true}
use Rattle.orders.specs.Transaction.{Transaction, lookup, is_in}
use Rattle.orders.specs.Valid.{rising}
use Rattle.protocol.specs.Log.{at, some, reads, writes, writes_in, effect}
use Rattle.protocol.specs.House.{House, Ready, knows, from_note, base}
use Rattle.protocol.specs.Machine.{Message, look, write, Act, looks, writes_its}
use Rattle.protocol.proofs.Standing.{reads_from_reads_in}
use Rattle.rows.specs.Lists.{rows_of}
use Rattle.turns.specs.Marks.{ready}
use Rattle.turns.specs.State.{marks_of, done_of, count_of}
use Rattle.turns.specs.declared.entry.Mark.{Mark}
use Rattle.ledger.specs.Own.{owns, marks_for, marked, note_of, slot_of, known, own_known, given}
use Rattle.ledger.specs.State.{log_of, order_at, slots_at, looked_at, state_of, may_look, may_write, CanLook, CanWrite}
use Rattle.ledger.specs.declared.ledger.Ledger.{Ledger}
use Rattle.ledger.proofs.Conflicts.{marked_reads}
use Rattle.ledger.proofs.Rising.{reads_rise}
use Rattle.ledger.proofs.Ties.{at_own, marks_are, marked_within, own_reads_is, reads_is, writes_is, ready_to, ready_from, noted_some}

-- the slots of keys that are told one by one
absent : (low : ℕ) (ks : List ℕ) (k : ℕ) → k < low → rising low ks ≡ true → is_in k ks ≡ false
absent low [] k l r = refl
absent low (x ∷ ks) k l r =
    let p = and_parts (leb low x) (rising (suc x) ks) r in
    let q : low ≤ x = leb-true low x p.0 in
    ap (λ b. b || is_in k ks) (ne_eqb k x (λ e. omega arith)) ∙ absent (suc x) ks k (omega arith) p.1

known_from_slots : (low : ℕ) (h : ℕ) (ks : List ℕ) (vs : List (Option ℕ)) → rising low ks ≡ true → length vs ≡ length ks → own_known h ks vs ≡ true →
    ((k : ℕ) → is_in k ks ≡ true → owns h k ≡ false → is_some (slot_of ks vs k) ≡ true) → known vs ≡ true
known_from_slots low h [] [] r l o each = refl
known_from_slots low h [] (v ∷ vs) r l o each = absurd (omega arith)
known_from_slots low h (k ∷ ks) [] r l o each = refl
known_from_slots low h (k ∷ ks) (v ∷ vs) r l o each =
    let p = and_parts (leb low k) (rising (suc k) ks) r in
    let q = and_parts (cond (owns h k) (is_some v) true) (own_known h ks vs) o in
    and_from (is_some v) (known vs)
    (elim (cases_Bool (owns h k)) [
      | inl e ↦ sym (cond-true (owns h k) (is_some v) true e) ∙ q.0
      | inr e ↦
          ap is_some (sym (cond-true (eqb k k) v (slot_of ks vs k) (eq-eqb k k refl)))
          ∙ each k (or_left (eqb k k) (is_in k ks) (eq-eqb k k refl)) e
    ])
    (known_from_slots (suc k) h ks vs p.1 (omega arith) q.1 (λ x i e.
    let ne : eqb x k ≡ false = elim (cases_Bool (eqb x k)) [ inl s ↦ absurd (both_ways (is_in x ks) (absent (suc k) ks x (omega (arith, eqb-true x k s)) p.1) i) | inr s ↦ s ] in
    ap is_some (sym (cond-false (eqb x k) v (slot_of ks vs x) ne)) ∙ each x (or_right (eqb x k) (is_in x ks) i) e))

-- a key that is read has a slot, and its value is what is given
slot_given : (ks : List ℕ) (vs : List (Option ℕ)) (k : ℕ) → length vs ≡ length ks → known vs ≡ true → is_in k ks ≡ true → slot_of ks vs k ≡ Some (lookup ks (given vs) k 0)
slot_given [] vs k l n i = absurd (both_ways false refl i)
slot_given (x ∷ ks) [] k l n i = absurd (omega arith)
slot_given (x ∷ ks) (v ∷ vs) k l n i =
    let p = and_parts (is_some v) (known vs) n in
    elim (cases_Bool (eqb k x)) [
      | inl e ↦ cond-true (eqb k x) v (slot_of ks vs k) e ∙ whole v p.0 ∙ ap Some (sym (cond-true (eqb k x) (unwrap_or v 0) (lookup ks (given vs) k 0) e))
      | inr e ↦
          cond-false (eqb k x) v (slot_of ks vs k) e ∙ slot_given ks vs k (omega arith) p.1 (further e i)
          ∙ ap Some (sym (cond-false (eqb k x) (unwrap_or v 0) (lookup ks (given vs) k 0) e))
    ]
  where
    whole : (v : Option ℕ) → is_some v ≡ true → v ≡ Some (unwrap_or v 0)
    whole None e = absurd (both_ways false refl e)
    whole (Some y) e = refl

    further : eqb k x ≡ false → is_in k (x ∷ ks) ≡ true → is_in k ks ≡ true
    further e i = elim (or_cases (eqb k x) (is_in k ks) i) [ inl f ↦ absurd (both_ways (eqb k x) e f) | inr f ↦ f ]

-- the house's own note has the same values
note_given : (h : ℕ) (ks : List ℕ) (vs : List (Option ℕ)) (k : ℕ) → length vs ≡ length ks → owns h k ≡ true → lookup (filter (owns h) ks) (note_of h ks vs) k 0 ≡ lookup ks (given vs) k 0
note_given h [] vs k l o = refl
note_given h (x ∷ ks) [] k l o = absurd (omega arith)
note_given h (x ∷ ks) (v ∷ vs) k l o =
    elim (cases_Bool (owns h x)) [
      | inl e ↦
          let a : filter (owns h) (x ∷ ks) ≡ x ∷ filter (owns h) ks = cond-true (owns h x) (x ∷ filter (owns h) ks) (filter (owns h) ks) e in
          let b : note_of h (x ∷ ks) (v ∷ vs) ≡ unwrap_or v 0 ∷ note_of h ks vs = cond-true (owns h x) (unwrap_or v 0 ∷ note_of h ks vs) (note_of h ks vs) e in
          (λ i. lookup (a i) (b i) k 0) ∙ ap (λ n. cond (eqb k x) (unwrap_or v 0) n) (note_given h ks vs k (omega arith) o)
      | inr e ↦
          let a : filter (owns h) (x ∷ ks) ≡ filter (owns h) ks = cond-false (owns h x) (x ∷ filter (owns h) ks) (filter (owns h) ks) e in
          let b : note_of h (x ∷ ks) (v ∷ vs) ≡ note_of h ks vs = cond-false (owns h x) (unwrap_or v 0 ∷ note_of h ks vs) (note_of h ks vs) e in
          let ne : eqb k x ≡ false = elim (cases_Bool (eqb k x)) [ inl s ↦ absurd (both_ways (owns h x) e (ap (owns h) (sym (eqb-true k x s)) ∙ o)) | inr s ↦ s ] in
          (λ i. lookup (a i) (b i) k 0) ∙ note_given h ks vs k (omega arith) o ∙ sym (cond-false (eqb k x) (unwrap_or v 0) (lookup ks (given vs) k 0) ne)
    ]

-- a house that has none of the keys has no slot to fill
none_own : (h : ℕ) (ks : List ℕ) (vs : List (Option ℕ)) → some (filter (owns h) ks) ≡ false → own_known h ks vs ≡ true
none_own h [] vs e = refl
none_own h (k ∷ ks) [] e = refl
none_own h (k ∷ ks) (v ∷ vs) e =
    elim (cases_Bool (owns h k)) [
      | inl o ↦ absurd (both_ways (some (filter (owns h) (k ∷ ks))) e (ap some (cond-true (owns h k) (k ∷ filter (owns h) ks) (filter (owns h) ks) o)))
      | inr o ↦
          ap (λ b. b && own_known h ks vs) (cond-false (owns h k) (is_some v) true o)
          ∙ none_own h ks vs (sym (ap some (cond-false (owns h k) (k ∷ filter (owns h) ks) (filter (owns h) ks) o)) ∙ e)
    ]

-- what a look and a write of the machine ask for
module _ (os : List Transaction) (h : ℕ) (soup : List Message) where
  look_asks : {i : ℕ} {x y : House} {sent : List Message} → Act os (base os) h soup (look i) x y sent →
      (i < x.have) × (reads os (base os).own h i ≡ true) × (x.noted i ≡ None) × Ready os (base os).own h x i
  look_asks (looks s i l place r none turn) = (l, r, none, turn)

  write_asks : {i : ℕ} {x y : House} {sent : List Message} → Act os (base os) h soup (write i) x y sent →
      (i < x.have) × (writes os (base os).own h i ≡ true) × (x.wrote i ≡ false) × (reads os (base os).own h i ≡ true → is_some (x.noted i) ≡ true) × Ready os (base os).own h x i
      × ((k : ℕ) → is_in k (at os i).reads ≡ true → is_some (knows os (base os).own h x i k) ≡ true)
  write_asks (writes_its s i f value' l place part unwritten read turn heard written) = (l, part, unwritten, read, turn, λ k e. ap is_some (heard k e refl))

module _ (s : Ledger) (i : ℕ) where
  log : (j : ℕ) → j < count_of s.turns → at (log_of s) j ≡ order_at s j
  log j l = at_own s j l

  pub not_noted : looked_at s i ≡ false → (state_of s).noted i ≡ None
  not_noted e = cond-false (looked_at s i) (Some (note_of s.owner.number (order_at s i).reads (slots_at s i))) None e

  can_look : may_look s i ≡ true → CanLook s i
  can_look e =
      let p = and_parts (marked false (marks_of s.turns i)) (not (looked_at s i) && ready (marks_of s.turns) (done_of s.turns) i) e in
      let q = and_parts (not (looked_at s i)) (ready (marks_of s.turns) (done_of s.turns) i) p.1 in
      let l = marked_within s false i p.0 in
      (_, looks (state_of s) i l (omega arith) (reads_is s (log_of s) log i l ∙ p.0) (not_noted (not-true (looked_at s i) q.0)) (ready_to s (log_of s) log i l q.1))

  look_may : CanLook s i → may_look s i ≡ true
  look_may c =
      let a = look_asks (log_of s) s.owner.number [] c.1 in
      let unlooked : looked_at s i ≡ false = elim (cases_Bool (looked_at s i)) [
        | inl e ↦ absurd (both_ways (is_some ((state_of s).noted i)) (ap is_some a.2) (noted_some s (log_of s) log i a.0 ∙ e))
        | inr e ↦ e
      ] in
      and_from (marked false (marks_of s.turns i)) (not (looked_at s i) && ready (marks_of s.turns) (done_of s.turns) i) (sym (reads_is s (log_of s) log i a.0) ∙ a.1)
      (and_from (not (looked_at s i)) (ready (marks_of s.turns) (done_of s.turns) i) (not_from_false (looked_at s i) unlooked) (ready_from s (log_of s) log i a.0 a.3))

  pub look_decided : Decides (may_look s i) (CanLook s i)
  look_decided = (can_look, look_may)

  -- an order that writes here has as many slots as it reads keys
  pub slots_wide : (w : Bool) → marked w (marks_of s.turns i) ≡ true → length (slots_at s i) ≡ length (order_at s i).reads
  slots_wide w m = s.wide i ∙ cond-false (eqb (length (marks_for s.owner.number (order_at s i))) 0) 0 (length (order_at s i).reads) (ne_eqb (length (marks_for s.owner.number (order_at s i))) 0 (λ e. none (marks_for s.owner.number (order_at s i)) e (ap (marked w) (sym (marks_are s i)) ∙ m)))
    where
      none : (ms : List Mark) → length ms ≡ 0 → marked w ms ≡ true → ⊥
      none [] e m = both_ways false refl m
      none (n ∷ ms) e m = omega arith

  -- what the house knows of a key that the order reads
  pub knows_given : (os : List Transaction) → ((j : ℕ) → j < count_of s.turns → at os j ≡ order_at s j) → i < count_of s.turns → length (slots_at s i) ≡ length (order_at s i).reads →
      (marked false (marks_of s.turns i) ≡ true → looked_at s i ≡ true) → known (slots_at s i) ≡ true →
      (k : ℕ) → is_in k (order_at s i).reads ≡ true → knows os (base os).own s.owner.number (state_of s) i k ≡ Some (lookup (order_at s i).reads (given (slots_at s i)) k 0)
  knows_given os log' l wide looked kn k r =
      elim (cases_Bool (owns s.owner.number k)) [
        | inl o ↦
            cond-true (eqb (k % 16) s.owner.number) (from_note os (base os).own s.owner.number i ((state_of s).noted i) k) ((state_of s).heard i k) o
            ∙ ap (λ n. from_note os (base os).own s.owner.number i n k) (cond-true (looked_at s i) (Some (note_of s.owner.number (order_at s i).reads (slots_at s i))) None (looked (own_read o)))
            ∙ ap (λ ks. Some (lookup ks (note_of s.owner.number (order_at s i).reads (slots_at s i)) k 0)) (own_reads_is s os log' i l)
            ∙ ap Some (note_given s.owner.number (order_at s i).reads (slots_at s i) k wide o)
        | inr o ↦
            cond-false (eqb (k % 16) s.owner.number) (from_note os (base os).own s.owner.number i ((state_of s).noted i) k) ((state_of s).heard i k) o
            ∙ cond-false (owns s.owner.number k) None (slot_of (order_at s i).reads (slots_at s i) k) o
            ∙ slot_given (order_at s i).reads (slots_at s i) k wide kn r
      ]
    where
      own_read : owns s.owner.number k ≡ true → marked false (marks_of s.turns i) ≡ true
      own_read o =
          sym (reads_is s os log' i l) ∙ reads_from_reads_in os (base os).own s.owner.number i k
          (and_from (is_in k (at os i).reads) (eqb (k % 16) s.owner.number) (ap (λ t. is_in k t.reads) (log' i l) ∙ r) o)

  noted_where : (b m : Bool) → (b || not m) ≡ true → m ≡ true → b ≡ true
  noted_where true m e f = refl
  noted_where false m e f = absurd (both_ways m (not-true m e) f)

  can_write : may_write s i ≡ true → CanWrite s i
  can_write e =
      let p = and_parts (marked true (marks_of s.turns i)) (not (done_of s.turns i) && ((looked_at s i || not (marked false (marks_of s.turns i))) && (known (slots_at s i) && ready (marks_of s.turns) (done_of s.turns) i))) e in
      let q = and_parts (not (done_of s.turns i)) ((looked_at s i || not (marked false (marks_of s.turns i))) && (known (slots_at s i) && ready (marks_of s.turns) (done_of s.turns) i)) p.1 in
      let r = and_parts (looked_at s i || not (marked false (marks_of s.turns i))) (known (slots_at s i) && ready (marks_of s.turns) (done_of s.turns) i) q.1 in
      let t = and_parts (known (slots_at s i)) (ready (marks_of s.turns) (done_of s.turns) i) r.1 in
      let l = marked_within s true i p.0 in
      let looked = noted_where (looked_at s i) (marked false (marks_of s.turns i)) r.0 in (
        _,
        writes_its (state_of s) i (λ k. lookup (order_at s i).reads (given (slots_at s i)) k 0)
            (λ k. cond (writes_in (log_of s) (base (log_of s)).own s.owner.number i k) (effect (at (log_of s) i) (λ k. lookup (order_at s i).reads (given (slots_at s i)) k 0) k ((state_of s).value k)) ((state_of s).value k))
            l (omega arith) (writes_is s (log_of s) log i l ∙ p.0)
            (ap (λ b. b && marked true (marks_of s.turns i)) (not-true (done_of s.turns i) q.0))
            (λ f. noted_some s (log_of s) log i l ∙ looked (sym (reads_is s (log_of s) log i l) ∙ f)) (ready_to s (log_of s) log i l t.1)
            (λ k f _. knows_given (log_of s) log l (slots_wide true p.0) looked t.0 k (ap (λ x. is_in k x.reads) (sym (log i l)) ∙ f)) (λ k. refl),
      )

  write_may : CanWrite s i → may_write s i ≡ true
  write_may c =
      let a = write_asks (log_of s) s.owner.number [] c.1 in
      let m : marked true (marks_of s.turns i) ≡ true = sym (writes_is s (log_of s) log i a.0) ∙ a.1 in
      let undone : done_of s.turns i ≡ false = elim (and_cases (done_of s.turns i) (marked true (marks_of s.turns i)) a.2) [ inl e ↦ e | inr e ↦ absurd (both_ways (marked true (marks_of s.turns i)) e m) ] in
      let looked : marked false (marks_of s.turns i) ≡ true → looked_at s i ≡ true = λ f. sym (noted_some s (log_of s) log i a.0) ∙ a.3 (reads_is s (log_of s) log i a.0 ∙ f) in
      and_from (marked true (marks_of s.turns i)) (not (done_of s.turns i) && ((looked_at s i || not (marked false (marks_of s.turns i))) && (known (slots_at s i) && ready (marks_of s.turns) (done_of s.turns) i))) m
      (and_from (not (done_of s.turns i)) ((looked_at s i || not (marked false (marks_of s.turns i))) && (known (slots_at s i) && ready (marks_of s.turns) (done_of s.turns) i)) (not_from_false (done_of s.turns i) undone)
      (and_from (looked_at s i || not (marked false (marks_of s.turns i))) (known (slots_at s i) && ready (marks_of s.turns) (done_of s.turns) i) (either (looked_at s i) (marked false (marks_of s.turns i)) looked)
      (and_from (known (slots_at s i)) (ready (marks_of s.turns) (done_of s.turns) i)
      (known_from_slots 0 s.owner.number (order_at s i).reads (slots_at s i) (reads_rise (get_or (rows_of s.orders) i [])) (slots_wide true m) (own_slots looked) (λ k r o. foreign k o (a.5 k (ap (λ x. is_in k x.reads) (log i a.0) ∙ r))))
      (ready_from s (log_of s) log i a.0 a.4))))
    where
      either : (b m : Bool) → (m ≡ true → b ≡ true) → (b || not m) ≡ true
      either true m f = refl
      either false true f = absurd (both_ways false refl (f refl))
      either false false f = refl

      foreign : (k : ℕ) → owns s.owner.number k ≡ false → is_some (knows (log_of s) (base (log_of s)).own s.owner.number (state_of s) i k) ≡ true → is_some (slot_of (order_at s i).reads (slots_at s i) k) ≡ true
      foreign k o e =
          ap is_some (sym (cond-false (owns s.owner.number k) None (slot_of (order_at s i).reads (slots_at s i) k) o)
          ∙ sym (cond-false (eqb (k % 16) s.owner.number) (from_note (log_of s) (base (log_of s)).own s.owner.number i ((state_of s).noted i) k) ((state_of s).heard i k) o)) ∙ e

      -- no key of its own, or all of them noted
      own_slots : (marked false (marks_of s.turns i) ≡ true → looked_at s i ≡ true) → own_known s.owner.number (order_at s i).reads (slots_at s i) ≡ true
      own_slots looked =
          elim (cases_Bool (marked false (marks_of s.turns i))) [
            | inl f ↦ s.filled i (looked f)
            | inr f ↦ none_own s.owner.number (order_at s i).reads (slots_at s i) (sym (marked_reads s.owner.number (order_at s i)) ∙ ap (marked false) (sym (marks_are s i)) ∙ f)
          ]

  pub write_decided : Decides (may_write s i) (CanWrite s i)
  write_decided = (can_write, write_may)

-- a test that comes to that decides too
pub look_by : (s : Ledger) (i : ℕ) (b : Bool) → b ≡ may_look s i → Decides b (CanLook s i)
look_by s i b e = Decides-at b (may_look s i) e (look_decided s i)

pub write_by : (s : Ledger) (i : ℕ) (b : Bool) → b ≡ may_write s i → Decides b (CanWrite s i)
write_by s i b e = Decides-at b (may_write s i) e (write_decided s i)
