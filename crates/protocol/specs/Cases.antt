-- Worked cases: what a house may do next, over short logs. They are rows of one table, of which one theorem says that every row holds.
--   order rs ws    an order that reads the keys rs and writes the keys ws: the first gets the first value read, and so on, and 0 where there is none
--   Row            log: the orders; house: which house; before: what it has done so far, the oldest first; asked: deeds, each with whether the
--                  house may do it now
--   Leads          deeds, the oldest first, take a house's state s to t, with no message to hear and none sent
--   May            the house in state s can do this deed, with no message to hear and none sent
--   Answers        a deed may be done in state s, or may not, as its Boolean says
--   Holds          of a row: a house that starts with 0 in every key can do what the row says it has done, and in every state that this leads to
--                  each question has its answer
--   table          the rows, each with a name; TableHolds: every one holds
-- The log's places count from 0, and key k belongs to house k mod 16: keys 0 and 16 to house 0, key 1 to house 1.
-- Assumes nothing.
use Rattle.std.specs.Prelude.{◌≡◌, ℕ, Bool, true, false, List, [], ◌∷◌}
use Rattle.std.specs.List.{AllByRecursion}
use Rattle.orders.specs.Transaction.{Transaction}
use Rattle.orders.specs.Meaning.{padded}
use Rattle.orders.specs.declared.outcome.Outcome.TheVariants.{Writes}
use Rattle.protocol.specs.House.{House, fresh, base}
use Rattle.protocol.specs.Machine.{Deed, grow, look, write, Act}

abbrev pub order : List ℕ → List ℕ → Transaction
order rs ws = record { reads = rs; writes = ws; outcome = λ vs. Writes (padded 16 vs) }

pub record Row : Type 0 where
  pub log : List Transaction
  pub house : ℕ
  pub before : List Deed
  pub asked : List (Deed × Bool)

module _ (os : List Transaction) (h : ℕ) where
  abbrev pub Leads : List Deed → House → House → Type 0
  Leads [] s t = s ≡ t
  Leads (d ∷ ds) s t = (m : House) × Act os (base os) h [] d s m [] × Leads ds m t

  abbrev pub May : House → Deed → Type 0
  May s d = (t : House) × Act os (base os) h [] d s t []

  abbrev pub Answers : House → Deed → Bool → Type 0
  Answers s d true = May s d
  Answers s d false = May s d → ⊥

abbrev pub Holds : Row → Type 0
Holds r =
    ((s : House) × Leads r.log r.house r.before (fresh (λ k. 0)) s) ×
    ((s : House) → Leads r.log r.house r.before (fresh (λ k. 0)) s → AllByRecursion (λ q. Answers r.log r.house s q.0 q.1) r.asked)

-- order 1 meets no key of order 0
abbrev pub apart : List Transaction
apart = order (1 ∷ []) (0 ∷ []) ∷ order [] (16 ∷ []) ∷ []

-- order 1 writes the key that order 0 reads
abbrev pub overwrites : List Transaction
overwrites = order (0 ∷ []) (1 ∷ []) ∷ order [] (0 ∷ []) ∷ []

-- order 1 does not wait for order 0, which house 0 cannot write before it was told what stands in key 1
abbrev pub goes_ahead : Row
goes_ahead = record { log = apart; house = 0; before = grow ∷ grow ∷ []; asked = (write 1, true) ∷ (write 0, false) ∷ [] }

-- order 1 waits until house 0 has noted what stands in key 0 for order 0
abbrev pub waits_for_look : Row
waits_for_look = record { log = overwrites; house = 0; before = grow ∷ grow ∷ []; asked = (look 0, true) ∷ (write 1, false) ∷ [] }

-- and no longer: order 0 writes no key of house 0, and so is done there with its look, which comes only once
abbrev pub free_after_look : Row
free_after_look = record { log = overwrites; house = 0; before = grow ∷ grow ∷ look 0 ∷ []; asked = (write 1, true) ∷ (look 0, false) ∷ [] }

abbrev pub table : List Row
table = goes_ahead ∷ waits_for_look ∷ free_after_look ∷ []

abbrev pub TableHolds : Type 0
TableHolds = AllByRecursion Holds table
