-- A run over a log is a run over every longer one: no house does anything beyond the orders that it has, and below the end of the log both say the same.
use Rattle.std.proofs.Common.{◌≡◌, ℕ, suc, ◌<◌, ◌≤◌, Bool, true, false, cond, ◌&&◌, ◌||◌, eqb, ltb, List, ◌++◌, length, is_some, Some, None, filter, Option, sym, refl, ap, ◌∙◌, inl, inr, arith}
use Rattle.std.proofs.lemmas.List.{get_or_append_left, length-append}
use Rattle.std.proofs.lemmas.Bool.{false≢true, or_from, le-ltb, cases_lt}
use Rattle.orders.specs.Transaction.{Transaction, lookup, is_in, idle}
use Rattle.protocol.specs.Log.{at, some, reads_in, writes_in, own_reads, own_writes, touches, conflict, effect}
use Rattle.protocol.specs.House.{House, done, Ready, from_note, knows, Plan, base}
use Rattle.protocol.specs.Machine.{Message, Deed, hears, Act, Net, acts, Run, stay, then}
use Rattle.protocol.specs.Machine.{grows, looks, writes_its, syncs, tells, asks_for, hears_told, hears_copied, checks, says, drops, crashes}
use Rattle.protocol.specs.Promise.{Agrees, Longer, BaseAgrees}
use Rattle.protocol.proofs.Preserved.{put_cases}

-- a house has a part of the log, and beyond it has neither put anything behind its checkpoint nor written or noted anything
record Within (os : List Transaction) (s : House) : Type 0 where
  log : s.have ≤ length os
  behind : s.place ≤ s.have
  unwritten : (i : ℕ) → s.have ≤ i → s.wrote i ≡ false
  unnoted : (i : ℕ) → s.have ≤ i → is_some (s.noted i) ≡ false

undone_where_touched : (r w b c : Bool) → b ≡ false → c ≡ false → (r || w) ≡ true → cond w b (cond r c true) ≡ false
undone_where_touched r true b c e e' t = e
undone_where_touched true false b c e e' t = e'
undone_where_touched false false b c e e' t = absurd (false≢true t)

undone_beyond : (log os : List Transaction) (own : ℕ → ℕ → ℕ) (h : ℕ) (s : House) (i : ℕ) → Within os s → length os ≤ i → touches log own h i ≡ true → done log own h s i ≡ false
undone_beyond log os own h s i in' l t =
    or_from (ltb i s.place) _ (le-ltb i s.place (omega (arith, in'.log, in'.behind)))
    (undone_where_touched (some (own_reads log own h i)) (some (own_writes log own h i)) (s.wrote i) (is_some (s.noted i))
    (in'.unwritten i (omega (arith, in'.log))) (in'.unnoted i (omega (arith, in'.log))) t)

module _ (os : List Transaction) (p : Plan) where
  within_act : {h : ℕ} {soup : List Message} {d : Deed} {s s' : House} {sent : List Message} → Within os s → Act os p h soup d s s' sent → Within os s'
  within_act in' (grows s l) = record { log = l; behind = omega (arith, in'.behind); unwritten = λ i b. in'.unwritten i (omega arith); unnoted = λ i b. in'.unnoted i (omega arith) }
  within_act in' (looks s i l place r none ready) = record {
    log = in'.log;
    behind = in'.behind;
    unwritten = in'.unwritten;
    unnoted = λ j b. put_cases i (Some _) s.noted j (λ o. is_some o ≡ false) (λ e. absurd (omega arith)) (λ _. in'.unnoted j b);
  }
  within_act in' (writes_its s i f value' l place part unwritten read ready given written) = record {
    log = in'.log;
    behind = in'.behind;
    unwritten = λ j b. put_cases i true s.wrote j (λ t. t ≡ false) (λ e. absurd (omega arith)) (λ _. in'.unwritten j b);
    unnoted = in'.unnoted;
  }
  within_act in' (syncs s synced' e) = record { log = in'.log; behind = in'.behind; unwritten = in'.unwritten; unnoted = in'.unnoted }
  within_act in' (tells s i vs e t) = in'
  within_act in' (asks_for s i g l) = in'
  within_act in' (hears_told s g i vs heard' has l e) = record { log = in'.log; behind = in'.behind; unwritten = in'.unwritten; unnoted = in'.unnoted }
  within_act in' (hears_copied s g c has) = record { log = in'.log; behind = in'.behind; unwritten = in'.unwritten; unnoted = in'.unnoted }
  within_act in' (checks s c saved' l place past rest journal saves) = record { log = in'.log; behind = l; unwritten = in'.unwritten; unnoted = in'.unnoted }
  within_act in' (says s) = in'
  within_act in' (drops s i all) = record {
    log = in'.log;
    behind = in'.behind;
    unwritten = in'.unwritten;
    unnoted = λ j b. put_cases i None s.noted j (λ o. is_some o ≡ false) (λ _. refl) (λ _. in'.unnoted j b);
  }
  within_act in' (crashes s value' noted' synced' wrote' heard' copied' back left synced unwritten unheard uncopied) = record {
    log = in'.log;
    behind = in'.behind;
    unwritten = λ i b. unwritten i;
    unnoted = λ i b. elim (left i) [ inl e ↦ ap is_some e ∙ in'.unnoted i b | inr e ↦ ap is_some e.0 ];
  }

  within_run : {ds : List (ℕ × Deed)} {n m : Net} → ((h : ℕ) → Within os (n.house h)) → Run os p ds n m → (h : ℕ) → Within os (m.house h)
  within_run in' stay g = in' g
  within_run in' (then run (acts {n = n} {h = h} {s = s} l act)) g =
      put_cases h s n.house g (Within os) (λ _. within_act (within_run in' run h) act) (λ _. within_run in' run g)

-- below the end of the log, the longer one says the same
module _ (os more : List Transaction) (p q : Plan) (same_own : (i : ℕ) → i ≤ length os → p.own i ≡ q.own i) where
  module _ (i : ℕ) (l : i < length os) where
    same_order : at (os ++ more) i ≡ at os i
    same_order = get_or_append_left os more idle i l

    -- whatever is made of an order and of who has the keys before and after it
    same_made : {A : Type 0} (f : Transaction → (ℕ → ℕ) → (ℕ → ℕ) → A) → f (at (os ++ more) i) (q.own i) (q.own (suc i)) ≡ f (at os i) (p.own i) (p.own (suc i))
    same_made f = let a = same_order in let b = same_own i (omega arith) in let c = same_own (suc i) l in cc

    same_own_reads : (h : ℕ) → own_reads (os ++ more) q.own h i ≡ own_reads os p.own h i
    same_own_reads h = same_made (λ t a b. filter (λ k. eqb (a k) h) t.reads)

    same_own_writes : (h : ℕ) → own_writes (os ++ more) q.own h i ≡ own_writes os p.own h i
    same_own_writes h = same_made (λ t a b. filter (λ k. eqb (b k) h) t.writes)

    same_reads_in : (h k : ℕ) → reads_in (os ++ more) q.own h i k ≡ reads_in os p.own h i k
    same_reads_in h k = same_made (λ t a b. is_in k t.reads && eqb (a k) h)

    same_writes_in : (h k : ℕ) → writes_in (os ++ more) q.own h i k ≡ writes_in os p.own h i k
    same_writes_in h k = same_made (λ t a b. is_in k t.writes && eqb (b k) h)

    same_touches : (h : ℕ) → touches (os ++ more) q.own h i ≡ touches os p.own h i
    same_touches h = let r = same_own_reads h in let w = same_own_writes h in cc

    same_done : (h : ℕ) (s : House) → done (os ++ more) q.own h s i ≡ done os p.own h s i
    same_done h s = let r = same_own_reads h in let w = same_own_writes h in cc

    same_from_note : (h : ℕ) (o : Option (List ℕ)) (k : ℕ) → from_note (os ++ more) q.own h i o k ≡ from_note os p.own h i o k
    same_from_note h None k = refl
    same_from_note h (Some vs) k = ap (λ ks. Some (lookup ks vs k 0)) (same_own_reads h)

    same_knows : (h : ℕ) (s : House) (k : ℕ) → knows (os ++ more) q.own h s i k ≡ knows os p.own h s i k
    same_knows h s k = let e = same_own i (omega arith) in let f = same_from_note h (s.noted i) k in cc

  ready_longer : (h : ℕ) (s : House) (i : ℕ) → i < length os → Ready os p.own h s i → Ready (os ++ more) q.own h s i
  ready_longer h s i l ready j k b e =
      let b' : j < length os = omega arith in
      let r = same_reads_in i l h k in let w = same_writes_in i l h k in
      let r' = same_reads_in j b' h k in let w' = same_writes_in j b' h k in
      let f : conflict os p.own h i j k ≡ true = cc in
      same_done j b' h s ∙ ready j k b f

  -- so each deed, and each run, over the log is one over the longer one
  longer_act : {h : ℕ} {soup : List Message} {d : Deed} {s s' : House} {sent : List Message} → Agrees os p q → Within os s → Act os p h soup d s s' sent → Act (os ++ more) q h soup d s s' sent
  longer_act agree in' (grows s l) = grows s (omega (arith, length-append os more))
  longer_act {h = h} agree in' (looks s i l place r none ready) =
      let b : i < length os = omega (arith, in'.log) in
      let e = same_own_reads i b h in
      rw (← e) (looks s i l place (ap some e ∙ r) none (ready_longer h s i b ready))
  longer_act {h = h} agree in' (writes_its s i f value' l place part unwritten read ready given written) =
      let b : i < length os = omega (arith, in'.log) in
      writes_its s i f value' l place
      (ap some (same_own_writes i b h) ∙ part) unwritten
      (λ r. read (sym (ap some (same_own_reads i b h)) ∙ r))
      (ready_longer h s i b ready)
      (λ k r need. same_knows i b h s k ∙ given k (ap (λ t. is_in k t.reads) (sym (same_order i b)) ∙ r) (ap (λ f. f h k) (agree.same_need i b) ∙ need))
      (λ k. written k ∙ sym (same_made i b (λ t a b. cond (is_in k t.writes && eqb (b k) h) (effect t f k (s.value k)) (s.value k))))
  longer_act agree in' (syncs s synced' e) = syncs s synced' e
  longer_act agree in' (tells s i vs e t) = tells s i vs e t
  longer_act agree in' (asks_for s i g l) = asks_for s i g l
  longer_act agree in' (hears_told s g i vs heard' has l e) =
      let b : i < length os = omega (arith, in'.log) in
      hears_told s g i vs heard' has l (λ j k. e j k ∙ ap (λ ks. cond (eqb j i) (hears ks vs (s.heard i) k) (s.heard j k)) (sym (same_own_reads i b g)))
  longer_act agree in' (hears_copied s g c has) = hears_copied s g c has
  longer_act {h = h} agree in' (checks s c saved' l place past rest journal saves) =
      checks s c saved' l place
      (λ i b. sym (agree.same_passable h i s (omega (arith, in'.log))) ∙ past i b)
      (λ i b t. elim (cases_lt i (length os)) [
        | inl m ↦ same_done i m h s ∙ rest i b (sym (same_touches i m h) ∙ t)
        | inr m ↦ undone_beyond (os ++ more) os q.own h s i in' m t
      ])
      journal saves
  longer_act agree in' (says s) = says s
  longer_act agree in' (drops s i all) = drops s i all
  longer_act agree in' (crashes s value' noted' synced' wrote' heard' copied' back left synced unwritten unheard uncopied) =
      crashes s value' noted' synced' wrote' heard' copied' back left synced unwritten unheard uncopied

  longer_run : {ds : List (ℕ × Deed)} {n m : Net} → Agrees os p q → ((h : ℕ) → Within os (n.house h)) → Run os p ds n m → Run (os ++ more) q ds n m
  longer_run agree in' stay = stay
  longer_run agree in' (then run (acts {h = h} l act)) = then (longer_run agree in' run) (acts l (longer_act agree (within_run os p in' run h) act))

pub longer : Longer
longer os more p q first ds n agree run =
    longer_run os more p q agree.same_own agree (λ h. record { log = omega arith; behind = omega arith; unwritten = λ i l. refl; unnoted = λ i l. refl }) run

pub base_agrees : BaseAgrees
base_agrees os more = record {
  same_own = λ i l. refl;
  same_need = λ i l. refl;
  same_passable = λ h i s l. sym (same_done os more (base os) (base (os ++ more)) (λ j b. refl) i l h s);
}
