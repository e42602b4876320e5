-- Every row of the table of worked cases holds.
use Rattle.std.proofs.Common.{◌≡◌, ℕ, zero, suc, ◌<◌, ◌≤◌, true, false, cond, eqb, List, [], ◌∷◌, map, length, is_some, Some, None, filter, sym, refl, ap, ◌∙◌, subst, arith}
use Rattle.std.specs.List.{AllByRecursion}
use Rattle.std.proofs.lemmas.Bool.{false≢true}
use Rattle.std.proofs.lemmas.Bool.Decides.{nat_tests}
use Rattle.orders.specs.Transaction.{Transaction, is_in}
use Rattle.protocol.specs.Log.{at, some, own_reads, writes_in, writes, effect}
use Rattle.protocol.specs.House.{House, fresh, Ready, knows, base}
use Rattle.protocol.specs.Machine.{Message, grow, look, write, put, Act, grows, looks, writes_its}
use Rattle.protocol.specs.Cases.{Row, Leads, May, Answers, Holds, apart, overwrites, goes_ahead, waits_for_look, free_after_look, TableHolds}

-- where what a row says was done can lead to one state alone, the answers in it are enough
module _ (r : Row) (s : House) where
  abbrev LeadsTo : House → Type 0
  LeadsTo t = Leads r.log r.house r.before (fresh (λ k. 0)) t

  abbrev AnswersIn : House → Type 0
  AnswersIn t = AllByRecursion (λ q. Answers r.log r.house t q.0 q.1) r.asked

  holds_from_one_state : LeadsTo s → ((t : House) → LeadsTo t → t ≡ s) → AnswersIn s → Holds r
  holds_from_one_state leads only all = ((s, leads), λ t l. subst AnswersIn (sym (only t l)) all)

abbrev grown : House → House
grown s = record { have = suc s.have; value = s.value; noted = s.noted; synced = s.synced; wrote = s.wrote; heard = s.heard; place = s.place; saved = s.saved; copied = s.copied }

-- a house that has two orders and has done nothing yet
abbrev two : House
two = grown (grown (fresh (λ k. 0)))

module _ (os : List Transaction) (h : ℕ) where
  abbrev looked : ℕ → House → House
  looked i s =
      record { have = s.have; value = s.value; noted = put i (Some (map s.value (own_reads os (base os).own h i))) s.noted; synced = s.synced; wrote = s.wrote; heard = s.heard; place = s.place; saved = s.saved; copied = s.copied }

  grow_leads_to_grown : {x y : House} {sent : List Message} → Act os (base os) h [] grow x y sent → y ≡ grown x
  grow_leads_to_grown (grows s l) = refl

  look_leads_to_looked : {i : ℕ} {x y : House} {sent : List Message} → Act os (base os) h [] (look i) x y sent → y ≡ looked i x
  look_leads_to_looked (looks s i l place r none turn) = refl

  look_was_not_noted : {i : ℕ} {x y : House} {sent : List Message} → Act os (base os) h [] (look i) x y sent → x.noted i ≡ None
  look_was_not_noted (looks s i l place r none turn) = none

  write_was_ready : {i : ℕ} {x y : House} {sent : List Message} → Act os (base os) h [] (write i) x y sent → Ready os (base os).own h x i
  write_was_ready (writes_its s i f value' l place part unwritten read turn heard written) = turn

  write_knew : {i : ℕ} {x y : House} {sent : List Message} → Act os (base os) h [] (write i) x y sent → (k : ℕ) → is_in k (at os i).reads ≡ true → is_some (knows os (base os).own h x i k) ≡ true
  write_knew (writes_its s i f value' l place part unwritten read turn heard written) k e = ap is_some (heard k e refl)

  two_leads : 1 < length os → Leads os h (grow ∷ grow ∷ []) (fresh (λ k. 0)) two
  two_leads l = (_, grows _ (omega arith), (_, grows _ l, refl))

  two_only : (t : House) → Leads os h (grow ∷ grow ∷ []) (fresh (λ k. 0)) t → t ≡ two
  two_only t (m, a, (n, b, e)) = sym e ∙ grow_leads_to_grown b ∙ ap grown (grow_leads_to_grown a)

  two_looked_only : (i : ℕ) (t : House) → Leads os h (grow ∷ grow ∷ look i ∷ []) (fresh (λ k. 0)) t → t ≡ looked i two
  two_looked_only i t (m, a, (n, b, (l, c, e))) = sym e ∙ look_leads_to_looked c ∙ ap (looked i) (grow_leads_to_grown b ∙ ap grown (grow_leads_to_grown a))

module _ (os : List Transaction) (h i : ℕ) (s : House) where
  -- what the house leaves by its part of an order that reads nothing
  abbrev wrote_unread : House
  wrote_unread = record { have = s.have; value = λ k. cond (writes_in os (base os).own h i k) (effect (at os i) (λ j. 0) k (s.value k)) (s.value k); noted = s.noted; synced = s.synced; wrote = put i true s.wrote; heard = s.heard; place = s.place; saved = s.saved; copied = s.copied }

  may_write_unread : i < s.have → s.place ≤ i → writes os (base os).own h i ≡ true → s.wrote i ≡ false → (at os i).reads ≡ [] → Ready os (base os).own h s i → May os h s (write i)
  may_write_unread l low part un none turn = (
    wrote_unread,
    writes_its s i (λ k. 0) wrote_unread.value l low part un
        (λ r. absurd (false≢true (ap (λ ks. some (filter (λ k. eqb ((base os).own i k) h) ks)) (sym none) ∙ r)))
        turn
        (λ k e _. absurd (false≢true (ap (is_in k) (sym none) ∙ e))) (λ k. refl),
  )

-- order 1 meets no key of order 0
apart_ready : Ready apart (base apart).own 0 two 1
apart_ready zero k l e = absurd (grind (arith, nat_tests))
apart_ready (suc j) k l e = absurd (omega arith)

-- order 0 is done in house 0 once it has looked
overwrites_ready : Ready overwrites (base overwrites).own 0 (looked overwrites 0 0 two) 1
overwrites_ready zero k l e = refl
overwrites_ready (suc j) k l e = absurd (omega arith)

first_look : Act overwrites (base overwrites) 0 [] (look 0) two (looked overwrites 0 0 two) []
first_look = looks two 0 (omega arith) (omega arith) refl refl (λ j k l _. absurd (omega arith))

two_looked_leads : Leads overwrites 0 (grow ∷ grow ∷ look 0 ∷ []) (fresh (λ k. 0)) (looked overwrites 0 0 two)
two_looked_leads = (_, grows _ (omega arith), (_, grows _ (omega arith), (_, first_look, refl)))

goes_ahead_holds : Holds goes_ahead
goes_ahead_holds =
    holds_from_one_state goes_ahead two (two_leads apart 0 (omega arith)) (two_only apart 0)
    (may_write_unread apart 0 1 two (omega arith) (omega arith) refl refl refl apart_ready, (λ a. false≢true (write_knew apart 0 a.1 1 refl), tt))

waits_for_look_holds : Holds waits_for_look
waits_for_look_holds =
    holds_from_one_state waits_for_look two (two_leads overwrites 0 (omega arith)) (two_only overwrites 0)
    ((looked overwrites 0 0 two, first_look), (λ a. false≢true (write_was_ready overwrites 0 a.1 0 0 (omega arith) refl), tt))

free_after_look_holds : Holds free_after_look
free_after_look_holds =
    holds_from_one_state free_after_look (looked overwrites 0 0 two) two_looked_leads (two_looked_only overwrites 0 0) (
      may_write_unread overwrites 0 1 (looked overwrites 0 0 two) (omega arith) (omega arith) refl refl refl overwrites_ready,
      (λ a. false≢true (sym (ap is_some (look_was_not_noted overwrites 0 a.1))), tt),
    )

pub table_holds : TableHolds
table_holds = (goes_ahead_holds, (waits_for_look_holds, (free_after_look_holds, tt)))
