-- What a write leaves is what the machine's write leaves.
use Rattle.std.proofs.Common.{◌≡◌, ℕ, zero, suc, ◌%◌, ◌<◌, ◌≤◌, Bool, true, false, cond, not, ◌&&◌, ◌||◌, eqb, leb, List, [], ◌∷◌, ◌++◌, map, length, get_or, set, replicate, is_some, Some, None, vec_items, vec_len, filter, Option, unwrap_or, sym, refl, ap, ◌∙◌, subst, inl, inr, arith}
use Rattle.std.proofs.lemmas.List.{length-map, length-set, length-append, length-replicate, length-take-le, get_or-set_same, get_or-set_other}
use Rattle.std.proofs.lemmas.Bool.{both_ways, not-true, and_parts, and_left, or_cases, leb-true, eqb-true, eq-eqb, ne_eqb, cases_eq, cond-true, cond-false, cond_both}
use Rattle.orders.specs.Codec.{decoded}
use Rattle.orders.specs.Contents.{Contents, contents_of, nothing}
use Rattle.orders.specs.Meaning.{transaction, meaning_or, run_from, outcome_of}
use Rattle.orders.specs.Transaction.{Transaction, lookup, written, is_in}
use Rattle.orders.specs.Valid.{rising}
use Rattle.orders.specs.declared.instruction.Instruction.{Instruction}
use Rattle.orders.specs.declared.instruction.Instruction.TheVariants.{Add, Subtract, Multiply, Divide, Set, SkipIfBelow, Write, Abort}
use Rattle.orders.specs.declared.order.Order.{Order}
use Rattle.orders.specs.declared.outcome.Outcome.{Outcome}
use Rattle.orders.specs.declared.outcome.Outcome.TheVariants.{Nothing, Writes}
use Rattle.orders.proofs.Transactions.{map_agreed, lookup_missing}
use Rattle.protocol.specs.Log.{at, writes_in, effect}
use Rattle.protocol.specs.House.{House, base, from_note, knows}
use Rattle.protocol.specs.Machine.{Message, write, writes_its, put, Act}
use Rattle.protocol.proofs.Standing.{reads_from_reads_in}
use Rattle.rows.specs.Lists.{rows_of}
use Rattle.turns.specs.Marks.{ready}
use Rattle.turns.specs.State.{marks_of, done_of, count_of}
use Rattle.turns.specs.declared.entry.Mark.{Mark}
use Rattle.turns.specs.declared.turns.Turns.{Turns}
use Rattle.ledger.specs.Own.{owns, marks_for, alike_marks, marked, slot_in, note_of, slot_of, known, given}
use Rattle.ledger.specs.State.{contents_in, log_of, order_at, slots_at, looked_at, value_in, state_of, may_write, Wrote}
use Rattle.ledger.specs.declared.ledger.Ledger.{Ledger}
use Rattle.ledger.proofs.Rising.{reads_rise}
use Rattle.ledger.proofs.Ties.{at_log, marks_are, marked_within, own_reads_is, reads_is, writes_is, ready_to}

-- an order that writes has a value for each of sixteen slots
run_long : (n : ℕ) (is : List Instruction) (rs vs ws : List ℕ) → run_from n is rs vs ≡ Writes ws → length ws ≡ length vs
unfolding run_from
run_long n [] rs vs ws e = let q : vs ≡ ws = cc in ap length (sym q)
run_long (suc n) (i ∷ is) rs vs ws e = run_long n is rs vs ws e
run_long zero (Add a b c ∷ is) rs vs ws e = run_long 0 is _ vs ws e
run_long zero (Subtract a b c ∷ is) rs vs ws e = run_long 0 is _ vs ws e
run_long zero (Multiply a b c ∷ is) rs vs ws e = run_long 0 is _ vs ws e
run_long zero (Divide a b c ∷ is) rs vs ws e = run_long 0 is _ vs ws e
run_long zero (Set a n ∷ is) rs vs ws e = run_long 0 is _ vs ws e
run_long zero (SkipIfBelow b c d ∷ is) rs vs ws e = run_long _ is rs vs ws e
run_long zero (Write s b ∷ is) rs vs ws e = run_long 0 is rs _ ws e ∙ length-set vs s (get_or rs b 0)
run_long zero (Abort ∷ is) rs vs ws e = let f : Nothing ≡ Writes ws = e in cc

pub written_long : (c : Contents) (vs ws : List ℕ) → outcome_of c vs ≡ Writes ws → length ws ≡ 16
written_long c vs ws e =
    let xs = map (λ k. lookup c.reads vs k 0) c.writes in
    run_long 0 c.code _ _ ws e ∙ length-take-le 16 (xs ++ replicate 16 0) (omega (arith, length-append xs (replicate 16 0), length-replicate {A = ℕ} 16 0))

-- values beside keys
rising_above : (low k : ℕ) (ks : List ℕ) → rising low ks ≡ true → is_in k ks ≡ true → low ≤ k
rising_above low k [] r e = absurd (both_ways false refl e)
rising_above low k (x ∷ ks) r e =
    let p = and_parts (leb low x) (rising (suc x) ks) r in
    let l : low ≤ x = leb-true low x p.0 in
    elim (or_cases (eqb k x) (is_in k ks) e) [
      | inl q ↦ let same : k ≡ x = eqb-true k x q in omega arith
      | inr q ↦ let above : suc x ≤ k = rising_above (suc x) k ks p.1 q in omega arith
    ]

-- what stands beside each of some rising keys are the values
pub map_lookup : (low : ℕ) (ks vs : List ℕ) → rising low ks ≡ true → length ks ≡ length vs → map (λ k. lookup ks vs k 0) ks ≡ vs
map_lookup low [] [] r l = refl
map_lookup low [] (v ∷ vs) r l = absurd (omega arith)
map_lookup low (x ∷ ks) [] r l = absurd (omega arith)
map_lookup low (x ∷ ks) (v ∷ vs) r l =
    let p = and_parts (leb low x) (rising (suc x) ks) r in
    let first : lookup (x ∷ ks) (v ∷ vs) x 0 ≡ v = cond-true (eqb x x) v (lookup ks vs x 0) (eq-eqb x x refl) in
    let others : map (λ k. lookup (x ∷ ks) (v ∷ vs) k 0) ks ≡ map (λ k. lookup ks vs k 0) ks =
    map_agreed ks (λ k. lookup (x ∷ ks) (v ∷ vs) k 0) (λ k. lookup ks vs k 0)
    (λ k e. let above : suc x ≤ k = rising_above (suc x) k ks p.1 e in cond-false (eqb k x) v (lookup ks vs k 0) (ne_eqb k x (λ q. omega arith))) in
    let rest : map (λ k. lookup ks vs k 0) ks ≡ vs = map_lookup (suc x) ks vs p.1 (omega arith) in
    λ i. first i ∷ (others ∙ rest) i

lookup_default : (ks vs : List ℕ) (k d e : ℕ) → is_in k ks ≡ true → length ks ≤ length vs → lookup ks vs k d ≡ lookup ks vs k e
lookup_default [] vs k d e i l = absurd (both_ways false refl i)
lookup_default (x ∷ ks) [] k d e i l = absurd (omega arith)
lookup_default (x ∷ ks) (v ∷ vs) k d e i l = by (eqb k x) i (λ j. lookup_default ks vs k d e j (omega arith))
  where
    by : (b : Bool) → (b || is_in k ks) ≡ true → (is_in k ks ≡ true → lookup ks vs k d ≡ lookup ks vs k e) → cond b v (lookup ks vs k d) ≡ cond b v (lookup ks vs k e)
    by true i rest = refl
    by false i rest = rest i

lookup_or : (ks vs : List ℕ) (k d : ℕ) → length ks ≤ length vs → lookup ks vs k d ≡ cond (is_in k ks) (lookup ks vs k 0) d
lookup_or ks vs k d l =
    cond_both (is_in k ks) (lookup ks vs k 0) d (λ x. lookup ks vs k d ≡ x) (λ e. lookup_default ks vs k d 0 e l) (λ e. lookup_missing ks vs k d e)

-- what an order leaves, from the values read
module _ (t : Transaction) (vs : List ℕ) (rises : rising 0 t.reads ≡ true) (long : length t.reads ≡ length vs) (k v : ℕ) where
  effect_is : (o : Outcome) → t.outcome vs ≡ o → effect t (λ j. lookup t.reads vs j 0) k v ≡ written t.writes o k (lookup t.reads vs k v)
  effect_is o is =
      ap (λ xs. written t.writes (t.outcome xs) k (cond (is_in k t.reads) (lookup t.reads vs k 0) v)) (map_lookup 0 t.reads vs rises long)
      ∙ ap (λ x. written t.writes (t.outcome vs) k x) (sym (lookup_or t.reads vs k v (omega arith)))
      ∙ ap (λ x. written t.writes x k (lookup t.reads vs k v)) is

  pub left_by_writes : (ws : List ℕ) → t.outcome vs ≡ Writes ws → length t.writes ≤ length ws →
      lookup t.writes ws k v ≡ cond (is_in k t.writes) (effect t (λ j. lookup t.reads vs j 0) k v) v
  left_by_writes ws is few =
      cond_both (is_in k t.writes) (effect t (λ j. lookup t.reads vs j 0) k v) v (λ x. lookup t.writes ws k v ≡ x)
      (λ e. lookup_default t.writes ws k v (lookup t.reads vs k v) e few ∙ sym (effect_is (Writes ws) is)) (λ e. lookup_missing t.writes ws k v e)

  pub left_by_nothing : t.outcome vs ≡ Nothing →
      cond (is_in k t.writes) (lookup t.reads vs k v) v ≡ cond (is_in k t.writes) (effect t (λ j. lookup t.reads vs j 0) k v) v
  left_by_nothing is = ap (λ x. cond (is_in k t.writes) x v) (sym (effect_is Nothing is))

-- what is known of a key
some_is : (v : Option ℕ) → is_some v ≡ true → v ≡ Some (unwrap_or v 0)
some_is None e = absurd (both_ways false refl e)
some_is (Some n) e = refl

slot_known : (ks : List ℕ) (vs : List (Option ℕ)) (k : ℕ) → length ks ≤ length vs → known vs ≡ true → is_in k ks ≡ true → slot_of ks vs k ≡ Some (lookup ks (given vs) k 0)
slot_known [] vs k l n i = absurd (both_ways false refl i)
slot_known (x ∷ ks) [] k l n i = absurd (omega arith)
slot_known (x ∷ ks) (v ∷ vs) k l n i =
    let p = and_parts (is_some v) (known vs) n in
    by (eqb k x) i (some_is v p.0) (slot_known ks vs k (omega arith) p.1)
  where
    by : (b : Bool) → (b || is_in k ks) ≡ true → v ≡ Some (unwrap_or v 0) → (is_in k ks ≡ true → slot_of ks vs k ≡ Some (lookup ks (given vs) k 0)) →
        cond b v (slot_of ks vs k) ≡ Some (cond b (unwrap_or v 0) (lookup ks (given vs) k 0))
    by true i here rest = here
    by false i here rest = rest i

lookup_none : (ks : List ℕ) (k : ℕ) → lookup ks [] k 0 ≡ 0
lookup_none [] k = refl
lookup_none (x ∷ ks) k = refl

note_lookup : (h : ℕ) (ks : List ℕ) (vs : List (Option ℕ)) (k : ℕ) → owns h k ≡ true → lookup (filter (owns h) ks) (note_of h ks vs) k 0 ≡ lookup ks (given vs) k 0
note_lookup h [] vs k o = refl
note_lookup h (x ∷ ks) [] k o = lookup_none (filter (owns h) (x ∷ ks)) k
note_lookup h (x ∷ ks) (v ∷ vs) k o = by (owns h x) refl (note_lookup h ks vs k o)
  where
    by : (b : Bool) → owns h x ≡ b → lookup (filter (owns h) ks) (note_of h ks vs) k 0 ≡ lookup ks (given vs) k 0 →
        lookup (cond b (x ∷ filter (owns h) ks) (filter (owns h) ks)) (cond b (unwrap_or v 0 ∷ note_of h ks vs) (note_of h ks vs)) k 0 ≡ cond (eqb k x) (unwrap_or v 0) (lookup ks (given vs) k 0)
    by true e rest = ap (cond (eqb k x) (unwrap_or v 0)) rest
    by false e rest = rest ∙ sym (cond-false (eqb k x) (unwrap_or v 0) (lookup ks (given vs) k 0) (ne_eqb k x (λ q. both_ways (owns h x) e (ap (owns h) (sym q) ∙ o))))

-- an order as it was decoded
pub reads_are : (o : Option Contents) → (meaning_or o).reads ≡ (unwrap_or o nothing).reads
reads_are None = refl
reads_are (Some c) = refl

pub writes_are : (o : Option Contents) → (meaning_or o).writes ≡ (unwrap_or o nothing).writes
writes_are None = refl
writes_are (Some c) = refl

outcome_of_found : (h : ℕ) (o : Option Contents) (vs : List ℕ) → marked true (marks_for h (meaning_or o)) ≡ true → (meaning_or o).outcome vs ≡ outcome_of (unwrap_or o nothing) vs
outcome_of_found h None vs e = absurd (both_ways false refl e)
outcome_of_found h (Some c) vs e = refl

some_mark : (w : Bool) (ms : List Mark) → marked w ms ≡ true → eqb (length ms) 0 ≡ false
some_mark w [] e = absurd (both_ways false refl e)
some_mark w (m ∷ ms) e = ne_eqb (length (m ∷ ms)) 0 (λ q. omega arith)

-- what is read where an order is worked out
abbrev pub reading : Ledger → ℕ → ℕ → ℕ
reading s i k = lookup (order_at s i).reads (given (slots_at s i)) k 0

-- what stands in the house's own keys, as the order leaves it
abbrev pub Leaves : Ledger → ℕ → List ℕ → Type 0
Leaves s i values =
    (k : ℕ) → owns s.owner.number k ≡ true → slot_in values k ≡ cond (is_in k (order_at s i).writes) (effect (order_at s i) (reading s i) k (slot_in (vec_items s.values.own) k)) (slot_in (vec_items s.values.own) k)

module _ (s : Ledger) (i : ℕ) (may : may_write s i ≡ true) where
  first_part : (marked true (marks_of s.turns i) ≡ true) × ((not (done_of s.turns i) && ((looked_at s i || not (marked false (marks_of s.turns i))) && (known (slots_at s i) && ready (marks_of s.turns) (done_of s.turns) i))) ≡ true)
  first_part = and_parts _ _ may

  second_part : (not (done_of s.turns i) ≡ true) × (((looked_at s i || not (marked false (marks_of s.turns i))) && (known (slots_at s i) && ready (marks_of s.turns) (done_of s.turns) i)) ≡ true)
  second_part = and_parts _ _ first_part.1

  third_part : ((looked_at s i || not (marked false (marks_of s.turns i))) ≡ true) × ((known (slots_at s i) && ready (marks_of s.turns) (done_of s.turns) i) ≡ true)
  third_part = and_parts _ _ second_part.1

  last_part : (known (slots_at s i) ≡ true) × (ready (marks_of s.turns) (done_of s.turns) i ≡ true)
  last_part = and_parts _ _ third_part.1

  pub writes_here : marked true (marks_of s.turns i) ≡ true
  writes_here = first_part.0

  pub undone : done_of s.turns i ≡ false
  undone = not-true (done_of s.turns i) second_part.0

  pub looked_where_read : marked false (marks_of s.turns i) ≡ true → looked_at s i ≡ true
  looked_where_read r =
      elim (or_cases (looked_at s i) (not (marked false (marks_of s.turns i))) third_part.0) [
        | inl e ↦ e
        | inr e ↦ absurd (both_ways (marked false (marks_of s.turns i)) (not-true (marked false (marks_of s.turns i)) e) r)
      ]

  pub in_log : i < count_of s.turns
  in_log = marked_within s true i writes_here

  -- there is a mark, so the order is well formed and has a slot for each key that it reads
  pub slots_long : length (order_at s i).reads ≡ length (given (slots_at s i))
  slots_long =
      let some : eqb (length (marks_for s.owner.number (order_at s i))) 0 ≡ false = some_mark true (marks_for s.owner.number (order_at s i)) (ap (marked true) (sym (marks_are s i)) ∙ writes_here) in
      sym (length-map (slots_at s i) (λ v. unwrap_or v 0) ∙ s.wide i ∙ cond-false (eqb (length (marks_for s.owner.number (order_at s i))) 0) 0 (length (order_at s i).reads) some)

  pub comes_to_contents : (vs : List ℕ) → (order_at s i).outcome vs ≡ outcome_of (contents_in (get_or (rows_of s.orders) i [])) vs
  comes_to_contents vs = outcome_of_found s.owner.number (decoded (get_or (rows_of s.orders) i [])) vs (ap (marked true) (sym (marks_are s i)) ∙ writes_here)

  -- the order as the code has it
  module _ (r : Order) (is : contents_of r ≡ contents_in (get_or (rows_of s.orders) i [])) where
    pub reads_of : (order_at s i).reads ≡ (contents_of r).reads
    reads_of = reads_are (decoded (get_or (rows_of s.orders) i [])) ∙ ap (λ c. c.reads) (sym is)

    pub writes_of : (order_at s i).writes ≡ (contents_of r).writes
    writes_of = writes_are (decoded (get_or (rows_of s.orders) i [])) ∙ ap (λ c. c.writes) (sym is)

    rises : rising 0 (order_at s i).reads ≡ true
    rises = reads_rise (get_or (rows_of s.orders) i [])

    pub comes_to : (vs : List ℕ) (o : Outcome) → outcome_of (contents_of r) vs ≡ o → o ≡ (order_at s i).outcome vs
    comes_to vs o e = sym (comes_to_contents vs ∙ ap (λ c. outcome_of c vs) (sym is) ∙ e)

    pub put_leaves : (ks ws values : List ℕ) → ks ≡ (contents_of r).writes → length ks ≤ length ws → outcome_of (contents_of r) (given (slots_at s i)) ≡ Writes ws →
        ((k : ℕ) → owns s.owner.number k ≡ true → slot_in values k ≡ lookup ks ws k (slot_in (vec_items s.values.own) k)) → Leaves s i values
    put_leaves ks ws values keys few o puts k own =
        let same : ks ≡ (order_at s i).writes = keys ∙ sym writes_of in
        puts k own ∙ ap (λ xs. lookup xs ws k (slot_in (vec_items s.values.own) k)) same
        ∙ left_by_writes (order_at s i) (given (slots_at s i)) rises slots_long k (slot_in (vec_items s.values.own) k) ws (sym (comes_to (given (slots_at s i)) (Writes ws) o)) (omega (arith, ap length same, few))

    pub back_leaves : (ks js rs values : List ℕ) → ks ≡ (contents_of r).writes → js ≡ (contents_of r).reads → rs ≡ given (slots_at s i) → outcome_of (contents_of r) (given (slots_at s i)) ≡ Nothing →
        ((k : ℕ) → owns s.owner.number k ≡ true → slot_in values k ≡ cond (is_in k ks) (lookup js rs k (slot_in (vec_items s.values.own) k)) (slot_in (vec_items s.values.own) k)) → Leaves s i values
    back_leaves ks js rs values keys others registers o puts k own =
        let same : ks ≡ (order_at s i).writes = keys ∙ sym writes_of in
        let same' : js ≡ (order_at s i).reads = others ∙ sym reads_of in
        puts k own
        ∙ (λ x. cond (is_in k (same x)) (lookup (same' x) (registers x) k (slot_in (vec_items s.values.own) k)) (slot_in (vec_items s.values.own) k))
        ∙ left_by_nothing (order_at s i) (given (slots_at s i)) rises slots_long k (slot_in (vec_items s.values.own) k) (sym (comes_to (given (slots_at s i)) Nothing o))

module _ (s s' : Ledger) (i : ℕ) (may : may_write s i ≡ true) (number : s'.owner.number ≡ s.owner.number) (orders : rows_of s'.orders ≡ rows_of s.orders) (marks : s'.turns.marks ≡ s.turns.marks)
    (done : vec_items s'.turns.done ≡ set (vec_items s.turns.done) i true) (slots : rows_of s'.slots ≡ rows_of s.slots) (looked : vec_items s'.looked ≡ vec_items s.looked)
    (leaves : Leaves s i (vec_items s'.values.own)) (more : List Transaction) where
  os : List Transaction
  os = log_of s' ++ more

  log : (j : ℕ) → j < count_of s.turns → at os j ≡ order_at s j
  unfolding os
  log j l = ap (λ rows. at (map transaction rows ++ more) j) orders ∙ at_log s j l more

  knows_read : (k : ℕ) → is_in k (at os i).reads ≡ true → knows os (λ j x. x % 16) s.owner.number (state_of s) i k ≡ Some (reading s i k)
  knows_read k e = by (owns s.owner.number k) refl
    where
      here : is_in k (order_at s i).reads ≡ true
      here = ap (λ t. is_in k t.reads) (sym (log i (in_log s i may))) ∙ e

      noted : owns s.owner.number k ≡ true → looked_at s i ≡ true
      noted o =
          looked_where_read s i may (sym (reads_is s os log i (in_log s i may))
          ∙ reads_from_reads_in os (λ j x. x % 16) s.owner.number i k (ap (λ b. b && owns s.owner.number k) e ∙ o))

      by : (b : Bool) → owns s.owner.number k ≡ b →
          cond b (from_note os (λ j x. x % 16) s.owner.number i ((state_of s).noted i) k) (cond b None (slot_of (order_at s i).reads (slots_at s i) k)) ≡ Some (reading s i k)
      by true o =
          ap (λ n. from_note os (λ j x. x % 16) s.owner.number i n k) (cond-true (looked_at s i) (Some (note_of s.owner.number (order_at s i).reads (slots_at s i))) None (noted o))
          ∙ ap (λ ks. Some (lookup ks (note_of s.owner.number (order_at s i).reads (slots_at s i)) k 0)) (own_reads_is s os log i (in_log s i may))
          ∙ ap Some (note_lookup s.owner.number (order_at s i).reads (slots_at s i) k o)
      by false o =
          slot_known (order_at s i).reads (slots_at s i) k (omega (arith, slots_long s i may, length-map (slots_at s i) (λ v. unwrap_or v 0))) (last_part s i may).0 here

  value_is : (k : ℕ) → value_in s' k ≡ cond (writes_in os (λ j x. x % 16) s.owner.number i k) (effect (at os i) (reading s i) k (value_in s k)) (value_in s k)
  value_is k =
      ap (λ h. cond (owns h k) (slot_in (vec_items s'.values.own) k) 0) number ∙ by (owns s.owner.number k) refl
      ∙ ap (λ t. cond (is_in k t.writes && owns s.owner.number k) (effect t (reading s i) k (value_in s k)) (value_in s k)) (sym (log i (in_log s i may)))
    where
      alone : (b : Bool) → (b && true) ≡ b
      alone true = refl
      alone false = refl

      never : (b : Bool) → (b && false) ≡ false
      never true = refl
      never false = refl

      by : (b : Bool) → owns s.owner.number k ≡ b →
          cond b (slot_in (vec_items s'.values.own) k) 0 ≡ cond (is_in k (order_at s i).writes && b) (effect (order_at s i) (reading s i) k (cond b (slot_in (vec_items s.values.own) k) 0)) (cond b (slot_in (vec_items s.values.own) k) 0)
      by true o =
          leaves k o
          ∙ ap (λ b. cond b (effect (order_at s i) (reading s i) k (slot_in (vec_items s.values.own) k)) (slot_in (vec_items s.values.own) k)) (sym (alone (is_in k (order_at s i).writes)))
      by false o = ap (λ b. cond b (effect (order_at s i) (reading s i) k 0) 0) (sym (never (is_in k (order_at s i).writes)))

  wrote_is : (j : ℕ) → put i true (state_of s).wrote j ≡ (state_of s').wrote j
  wrote_is j =
      by
      ∙ ap (λ ds. get_or ds j false && marked true (marks_of s.turns j)) (sym done)
      ∙ ap (λ m. done_of s'.turns j && marked true (get_or (rows_of m) j [])) (sym marks)
    where
      by : put i true (state_of s).wrote j ≡ (get_or (set (vec_items s.turns.done) i true) j false && marked true (marks_of s.turns j))
      by =
          elim (cases_eq j i) [
            | inl e ↦
                cond-true (eqb j i) true ((state_of s).wrote j) (eq-eqb j i e)
                ∙ sym (ap (λ x. get_or (set (vec_items s.turns.done) i true) x false && marked true (marks_of s.turns x)) e
                ∙ ap (λ b. b && marked true (marks_of s.turns i)) (get_or-set_same (vec_items s.turns.done) i true false (omega (arith, in_log s i may, s.turns.done.ok.0)))
                ∙ writes_here s i may)
            | inr ne ↦
                cond-false (eqb j i) true ((state_of s).wrote j) (ne_eqb j i ne)
                ∙ ap (λ b. b && marked true (marks_of s.turns j)) (sym (get_or-set_other (vec_items s.turns.done) i j true false ne))
          ]

  state_is : ◌≡◌ {A = House} (record { have = (state_of s).have; value = value_in s'; noted = (state_of s).noted; synced = (state_of s).synced; wrote = put i true (state_of s).wrote; heard = (state_of s).heard; place = (state_of s).place; saved = (state_of s).saved; copied = (state_of s).copied }) (state_of s')
  state_is =
      let have : count_of s.turns ≡ count_of s'.turns = omega (arith, s.turns.done.ok.0, s'.turns.done.ok.0, ap length done, length-set (vec_items s.turns.done) i true) in
      λ x. record {
        have = have x;
        value = value_in s';
        noted = λ j. cond (get_or (sym looked x) j false) (Some (note_of (sym number x) (transaction (get_or (sym orders x) j [])).reads (get_or (sym slots x) j []))) None;
        synced = λ j. false;
        wrote = λ j. wrote_is j x;
        heard = λ j k. cond (owns (sym number x) k) None (slot_of (transaction (get_or (sym orders x) j [])).reads (get_or (sym slots x) j []) k);
        place = 0;
        saved = λ k. 0;
        copied = λ g. 0;
      }

  pub act : (soup : List Message) → Act (log_of s' ++ more) (base (log_of s' ++ more)) s.owner.number soup (write i) (state_of s) (state_of s') []
  unfolding os
  act soup =
      subst (λ t. Act os (base os) s.owner.number soup (write i) (state_of s) t []) state_is
      (writes_its (state_of s) i (reading s i) (value_in s') (in_log s i may) (omega arith) (writes_is s os log i (in_log s i may) ∙ writes_here s i may) (and_left (done_of s.turns i) (marked true (marks_of s.turns i)) (undone s i may))
      (λ r. ap is_some (cond-true (looked_at s i) (Some (note_of s.owner.number (order_at s i).reads (slots_at s i))) None (looked_where_read s i may (sym (reads_is s os log i (in_log s i may)) ∙ r))))
      (ready_to s os log i (in_log s i may) (last_part s i may).1) (λ k e _. knows_read k e) value_is)

pub wrote : (s s' : Ledger) (i : ℕ) (o : Outcome) → may_write s i ≡ true → o ≡ (order_at s i).outcome (given (slots_at s i)) → s'.owner.number ≡ s.owner.number → rows_of s'.orders ≡ rows_of s.orders →
    s'.turns.marks ≡ s.turns.marks → vec_items s'.turns.done ≡ set (vec_items s.turns.done) i true → rows_of s'.slots ≡ rows_of s.slots → vec_items s'.looked ≡ vec_items s.looked →
    Leaves s i (vec_items s'.values.own) → Wrote s s' i o
wrote s s' i o may comes number orders marks done slots looked leaves =
    record {
      may = may;
      steps = λ more soup. act s s' i may number orders marks done slots looked leaves more soup;
      comes_to = comes;
      kept = record { number_is = number; orders_are = orders; marks_are = marks };
      done_is = done;
      slots_are = slots;
      looked_is = looked;
    }

-- what is held of a ledger still holds, with the order done
module _ (s : Ledger) (i : ℕ) (may : may_write s i ≡ true) (after : Turns) (marks : after.marks ≡ s.turns.marks) (done : vec_items after.done ≡ set (vec_items s.turns.done) i true) where
  marks_still : (j : ℕ) → marks_of after j ≡ marks_of s.turns j
  marks_still j = ap (λ m. get_or (rows_of m) j []) marks

  pub count_still : count_of after ≡ count_of s.turns
  count_still = omega (arith, s.turns.done.ok.0, after.done.ok.0, ap length done, length-set (vec_items s.turns.done) i true)

  pub matched_still : (j : ℕ) → alike_marks (marks_of after j) (marks_for s.owner.number (order_at s j)) ≡ true
  matched_still j = ap (λ ms. alike_marks ms (marks_for s.owner.number (order_at s j))) (marks_still j) ∙ s.matched j

  pub seen_still : (j : ℕ) → done_of after j ≡ true → marked false (marks_of after j) ≡ true → looked_at s j ≡ true
  seen_still j d m =
      let m' : marked false (marks_of s.turns j) ≡ true = ap (marked false) (sym (marks_still j)) ∙ m in
      elim (cases_eq j i) [
        | inl e ↦ ap (looked_at s) e ∙ looked_where_read s i may (ap (λ x. marked false (marks_of s.turns x)) (sym e) ∙ m')
        | inr ne ↦ s.seen j (sym (get_or-set_other (vec_items s.turns.done) i j true false ne) ∙ ap (λ ds. get_or ds j false) (sym done) ∙ d) m'
      ]

  pub read_still : (j : ℕ) → j < vec_len s.looked → marked true (marks_of after j) ≡ false → done_of after j ≡ (not (marked false (marks_of after j)) || looked_at s j)
  read_still j l m =
      let m' : marked true (marks_of s.turns j) ≡ false = ap (marked true) (sym (marks_still j)) ∙ m in
      elim (cases_eq j i) [
        | inl e ↦ absurd (both_ways (marked true (marks_of s.turns j)) m' (ap (λ x. marked true (marks_of s.turns x)) e ∙ writes_here s i may))
        | inr ne ↦
            ap (λ ds. get_or ds j false) done ∙ get_or-set_other (vec_items s.turns.done) i j true false ne ∙ s.read j l m'
            ∙ ap (λ ms. not (marked false ms) || looked_at s j) (sym (marks_still j))
      ]
