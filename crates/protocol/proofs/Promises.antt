-- What the invariant promises of a net; that no tasks wait in a ring; and that the plan of today is sound.
use Rattle.std.proofs.Common.{◌≡◌, ℕ, zero, suc, ◌+◌, ◌*◌, ◌<◌, ◌≤◌, Bool, true, false, cond, List, map, length, sym, refl, ap, ◌∙◌, inl, inr, arith}
use Rattle.std.proofs.lemmas.Bool.{both_ways, cases_lt}
use Rattle.orders.specs.Transaction.{Transaction, is_in, leaves}
use Rattle.protocol.specs.Log.{at, writes_in, own_reads, stood}
use Rattle.protocol.specs.House.{done, Plan, Sound}
use Rattle.protocol.specs.Machine.{Net}
use Rattle.protocol.specs.Promise.{Phase, looking, writing, Task, Waits, for_turn, for_word, before, ReadsRight, EndsRight, AlikeAs, NoRing, NoGap, ToldStays, BaseSound}
use Rattle.protocol.proofs.Invariant.{Inv}
use Rattle.orders.proofs.Transactions.{map_agreed}
use Rattle.protocol.proofs.Standing.{none_writes_beyond, stood_serial, stood_end, shadow_own}
use Rattle.protocol.proofs.Slots.{value_at, knows_right}
use Rattle.protocol.proofs.Preserved.{inv_run, inv_start}

module _ (os : List Transaction) (p : Plan) (first : ℕ → ℕ) (sound : Sound os p) (n : Net) (inv : Inv os p.own first n) where
  -- what stands in keys of an order is what stands there serially
  as_before : (h i : ℕ) (vs : List ℕ) → vs ≡ map (stood os first i) (own_reads os p.own h i) → vs ≡ map (before os p first i) (own_reads os p.own h i)
  as_before h i vs e = e ∙ ap (λ f. map f (own_reads os p.own h i)) (stood_serial os first i)

  one_before : (i k v : ℕ) → v ≡ stood os first i k → v ≡ before os p first i k
  one_before i k v e = e ∙ ap (λ f. f k) (stood_serial os first i)

  pub reads_right : ReadsRight os p first n
  reads_right = record {
    noted_right = λ h i vs l e. as_before h i vs ((inv.good h l).noted_right i vs e);
    sent_right = λ g i vs has. as_before g i vs (inv.sent_right g i vs has);
    heard_right = λ h i k v l e. one_before i k v ((inv.good h l).heard_right i k v e);
    given_right = λ h i k v l r e. one_before i k v (knows_right os p.own first h (n.house h) (inv.good h l) i k v r e);
  }

  pub ends_right : EndsRight os p first n
  ends_right all k =
      let h : ℕ = p.own (length os) k in
      let t = (inv.good h (sound.housed (length os) k)).settled k in
      value_at os p.own first h (n.house h) k t.0 (length os) t.1 (λ j l w. all h j (sound.housed (length os) k) l)
      (λ j l w. absurd (both_ways (writes_in os p.own h j k) (none_writes_beyond os p.own h j k l) w))
      ∙ shadow_own os p first sound h (length os) k refl ∙ ap (λ f. f k) (stood_end os first)

  pub alike : AlikeAs os p first n
  alike m (ds, run) h i vs ws l =
      let also : Inv os p.own first m = inv_run os p first sound run (inv_start os p first sound) in
      (λ a b. inv.sent_right h i vs a ∙ sym (also.sent_right h i ws b), λ a b. (inv.good h l).noted_right i vs a ∙ sym ((also.good h l).noted_right i ws b))

  pub no_gap : NoGap os p first n
  no_gap h i j k l b w v d =
      let t = (inv.good h l).settled k in
      elim (cases_lt j t.0) [
        | inl a ↦ t.1.earlier i (omega arith) w
        | inr a ↦ absurd (both_ways (done os p.own h (n.house h) j) (t.1.later j a v) d)
      ]

  pub told_stays : ToldStays os p first n
  told_stays g x i vs l place has = elim (inv.stays g i vs has) [ inl e ↦ e | inr b ↦ absurd (omega (arith, b x l)) ]

-- no ring: the rank of a task falls along what it waits for
abbrev later : Phase → ℕ
later looking = 0
later writing = 1

abbrev rank : Task → ℕ
rank x = 2 * x.place + later x.phase

later_small : (a : Phase) → later a ≤ 1
later_small looking = omega arith
later_small writing = omega arith

module _ (os : List Transaction) (p : Plan) (first : ℕ → ℕ) (n : Net) where
  rank_falls : {x y : Task} → Waits os p first n x y → rank y < rank x
  rank_falls (for_turn a b h i j k l _ _) = omega (arith, later_small a, later_small b)
  rank_falls (for_word h i k _ _) = omega arith

  pub no_ring : NoRing os p first n
  no_ring set waits x e = below (suc (rank x)) x (omega arith) e
    where
      below : (r : ℕ) (y : Task) → rank y < r → set y ≡ true → ⊥
      below zero y l q = omega arith
      below (suc r) y l q = let w = waits y q in below r w.0 (omega (arith, rank_falls w.2)) w.1

-- the plan of today
cond_agree : (b : Bool) (x y v : ℕ) → (b ≡ true → x ≡ y) → cond b x v ≡ cond b y v
cond_agree true x y v e = e refl
cond_agree false x y v e = refl

pub base_sound : BaseSound
base_sound os = record {
  housed = λ i k. omega arith;
  moves = λ i k. inl refl;
  enough = λ i h k v f g _ same.
      ap (λ vs. leaves (at os i) vs k (cond (is_in k (at os i).reads) (f k) v)) (map_agreed (at os i).reads f g (λ j l. same j l refl))
      ∙ ap (leaves (at os i) (map g (at os i).reads) k) (cond_agree (is_in k (at os i).reads) (f k) (g k) v (λ l. same k l refl));
  passes = λ h i s e. e;
}
