-- A ledger as the machine sees a house, and what its calls do there.
--   log_of                the log that the house has
--   order_at, slots_at, looked_at    the order at a place, what the house has of the values that it reads, whether it has noted its part
--   value_in              the value of a key; 0 for one that is not its own
--   state_of              the house's state in the machine
--   may_look, may_write   whether it may look, or write, for the order at a place
--   CanLook, CanWrite     the machine has such a step
--   Steps d s s'          a deed of the machine takes the one state to the other, whatever follows in the log
--   Same                  nothing differs
--   Fresh, Grown, Looked, Wrote, Heard    what holds after each call
--   RefusesHouse, RefusesOrder, RefusesTold    what holds where an order, or what a house is told, is refused
-- Assumes nothing.
use Rattle.std.specs.Prelude.{◌≡◌, ℕ, ◌+◌, ◌/◌, ◌<◌, ◌≤◌, Bool, true, false, cond, not, ◌&&◌, ◌||◌, ◌⊎◌, List, [], ◌∷◌, ◌++◌, map, length, replicate, Some, None, vec_items, vec_len, vec_capacity, filter, Option, ◌==◌, ◌≢◌, slice_index, slice_index_or, slice_set}
use Rattle.std.specs.Option.{unwrap_or}
use Rattle.std.specs.List.{ContainsAt as Has}
use Rattle.orders.specs.Codec.{decoded}
use Rattle.orders.specs.Contents.{Contents, nothing}
use Rattle.orders.specs.Meaning.{transaction}
use Rattle.orders.specs.Transaction.{Transaction}
use Rattle.orders.specs.declared.outcome.Outcome.{Outcome}
use Rattle.protocol.specs.House.{House, fresh, base}
use Rattle.protocol.specs.Machine.{Message, Deed, grow, look, write, hear, told, Act}
use Rattle.rows.specs.Lists.{rows_of, Wanting}
use Rattle.turns.specs.Marks.{ready}
use Rattle.turns.specs.State as turns
use Rattle.turns.specs.State.{marks_of, done_of, count_of}
use Rattle.ledger.specs.Own.{owns, own_count, marks_for, marked, slot_count, note_of, slot_of, known, given, noting, telling, told as told_by}
use Rattle.ledger.specs.declared.ledger.Ledger.{Ledger}
use Rattle.ledger.specs.declared.refusal.Refusal.{Refusal}
use Rattle.ledger.specs.declared.refusal.Refusal.TheVariants.{Mismatch, Beyond, Known, NotYet, Full, Memory}

abbrev pub contents_in : List ℕ → Contents
contents_in bs = unwrap_or (decoded bs) nothing

abbrev pub log_of : Ledger → List Transaction
log_of s = map transaction (rows_of s.orders)

abbrev pub order_at : Ledger → ℕ → Transaction
order_at s i = transaction (slice_index_or (rows_of s.orders) i [])

abbrev pub slots_at : Ledger → ℕ → List (Option ℕ)
slots_at s i = slice_index_or (rows_of s.slots) i []

abbrev pub looked_at : Ledger → ℕ → Bool
looked_at s i = slice_index_or (vec_items s.looked) i false

abbrev pub value_in : Ledger → ℕ → ℕ
value_in s k = cond (owns s.owner.number k) (slice_index (vec_items s.values.own) (k / 16)) 0

abbrev pub state_of : Ledger → House
state_of s =
    record {
      have = count_of s.turns;
      value = value_in s;
      noted = λ i. cond (looked_at s i) (Some (note_of s.owner.number (order_at s i).reads (slots_at s i))) None;
      synced = λ i. false;
      wrote = λ i. done_of s.turns i && marked true (marks_of s.turns i);
      heard = λ i k. cond (owns s.owner.number k) None (slot_of (order_at s i).reads (slots_at s i) k);
      place = 0;
      saved = λ k. 0;
      copied = λ g. 0;
    }

abbrev pub may_look : Ledger → ℕ → Bool
may_look s i = marked false (marks_of s.turns i) && (not (looked_at s i) && ready (marks_of s.turns) (done_of s.turns) i)

abbrev pub may_write : Ledger → ℕ → Bool
may_write s i =
    marked true (marks_of s.turns i) && (not (done_of s.turns i)
    && ((looked_at s i || not (marked false (marks_of s.turns i))) && (known (slots_at s i) && ready (marks_of s.turns) (done_of s.turns) i)))

abbrev pub Can : Deed → Ledger → Type 0
Can d s = (t : House) × Act (log_of s) (base (log_of s)) s.owner.number [] d (state_of s) t []

abbrev pub CanLook : Ledger → ℕ → Type 0
CanLook s i = Can (look i) s

abbrev pub CanWrite : Ledger → ℕ → Type 0
CanWrite s i = Can (write i) s

abbrev pub Steps : Deed → Ledger → Ledger → Type 0
Steps d s s' = (more : List Transaction) (soup : List Message) → Act (log_of s' ++ more) (base (log_of s' ++ more)) s.owner.number soup d (state_of s) (state_of s') []

pub record Same (s s' : Ledger) : Type 0 where
  pub same_number : s'.owner.number ≡ s.owner.number
  pub same_orders : rows_of s'.orders ≡ rows_of s.orders
  pub same_turns : turns.Same s.turns s'.turns
  pub same_values : vec_items s'.values.own ≡ vec_items s.values.own
  pub same_slots : rows_of s'.slots ≡ rows_of s.slots
  pub same_looked : vec_items s'.looked ≡ vec_items s.looked

-- an order more, with these bytes
pub record Grown (s s' : Ledger) (bs : List ℕ) : Type 0 where
  pub steps : Steps grow s s'
  pub number_is : s'.owner.number ≡ s.owner.number
  pub orders_are : rows_of s'.orders ≡ rows_of s.orders ++ bs ∷ []
  pub marks_are : rows_of s'.turns.marks ≡ rows_of s.turns.marks ++ marks_for s.owner.number (transaction bs) ∷ []
  pub done_is : vec_items s'.turns.done ≡ vec_items s.turns.done ++ (length (marks_for s.owner.number (transaction bs)) == 0) ∷ []
  pub slots_are : rows_of s'.slots ≡ rows_of s.slots ++ replicate (slot_count s.owner.number (transaction bs)) None ∷ []
  pub looked_is : vec_items s'.looked ≡ vec_items s.looked ++ false ∷ []
  pub values_are : vec_items s'.values.own ≡ vec_items s.values.own

-- what a look or a write leaves alone
pub record Kept (s s' : Ledger) : Type 0 where
  pub number_is : s'.owner.number ≡ s.owner.number
  pub orders_are : rows_of s'.orders ≡ rows_of s.orders
  pub marks_are : s'.turns.marks ≡ s.turns.marks

-- noted: the values of its keys that the order reads; to be told once they are on disk
pub record Looked (s s' : Ledger) (i : ℕ) (noted : List ℕ) : Type 0 where
  pub may : may_look s i ≡ true
  pub steps : Steps (look i) s s'
  pub notes : noted ≡ map (value_in s) (filter (owns s.owner.number) (order_at s i).reads)
  pub kept : Kept s s'
  pub done_is : vec_items s'.turns.done ≡ cond (marked true (marks_of s.turns i)) (vec_items s.turns.done) (slice_set (vec_items s.turns.done) i true)
  pub slots_are : rows_of s'.slots ≡ slice_set (rows_of s.slots) i (noting s.owner.number (value_in s) (order_at s i).reads (slots_at s i))
  pub looked_is : vec_items s'.looked ≡ slice_set (vec_items s.looked) i true
  pub values_are : vec_items s'.values.own ≡ vec_items s.values.own

pub record Wrote (s s' : Ledger) (i : ℕ) (outcome : Outcome) : Type 0 where
  pub may : may_write s i ≡ true
  pub steps : Steps (write i) s s'
  pub comes_to : outcome ≡ (order_at s i).outcome (given (slots_at s i))
  pub kept : Kept s s'
  pub done_is : vec_items s'.turns.done ≡ slice_set (vec_items s.turns.done) i true
  pub slots_are : rows_of s'.slots ≡ rows_of s.slots
  pub looked_is : vec_items s'.looked ≡ vec_items s.looked

-- there is something to be told by house g for the order at i, and it is this many values
pub record Wanted (s : Ledger) (g i n : ℕ) : Type 0 where
  pub housed : g < 16
  pub within : i < count_of s.turns
  pub counted : n ≡ own_count g (order_at s i).reads

abbrev pub Needless : Ledger → (g i n : ℕ) → Type 0
Needless s g i n = (g ≡ s.owner.number) ⊎ ((marked true (marks_of s.turns i) ≡ false) ⊎ ((n ≡ 0) ⊎ (told_by g (order_at s i).reads (slots_at s i) ≡ true)))

pub record Heard (s s' : Ledger) (g i : ℕ) (vs : List ℕ) : Type 0 where
  pub wanted : Wanted s g i (length vs)
  pub needed : Needless s g i (length vs) → ⊥
  pub steps : (more : List Transaction) (soup : List Message) → Has soup (told g i vs) →
      Act (log_of s' ++ more) (base (log_of s' ++ more)) s.owner.number soup (hear (told g i vs)) (state_of s) (state_of s') []
  pub kept : Kept s s'
  pub turns_are : s'.turns ≡ s.turns
  pub slots_are : rows_of s'.slots ≡ slice_set (rows_of s.slots) i (telling g (order_at s i).reads vs (slots_at s i))
  pub looked_is : vec_items s'.looked ≡ vec_items s.looked
  pub values_are : vec_items s'.values.own ≡ vec_items s.values.own

-- the lowest number wins
abbrev pub RefusesTold : Refusal → Ledger → (g i n : ℕ) → Type 0
RefusesTold Mismatch s g i n = (16 ≤ g) ⊎ ((i < count_of s.turns) × (n ≢ own_count g (order_at s i).reads))
RefusesTold Beyond s g i n = (g < 16) × (count_of s.turns ≤ i)
RefusesTold Known s g i n = Wanted s g i n × Needless s g i n
RefusesTold NotYet s g i n = ⊥
RefusesTold Full s g i n = ⊥
RefusesTold Memory s g i n = ⊥

abbrev pub RefusesOrder : Refusal → Ledger → List ℕ → Type 0
RefusesOrder Mismatch s bs = ⊥
RefusesOrder Beyond s bs = ⊥
RefusesOrder Known s bs = ⊥
RefusesOrder NotYet s bs = ⊥
RefusesOrder Full s bs = 4294967295 ≤ count_of s.turns
RefusesOrder Memory s bs =
    (count_of s.turns < 4294967295) × (Wanting s.orders (length bs) ⊎ (Wanting s.slots (slot_count s.owner.number (transaction bs))
    ⊎ ((vec_capacity s.looked < vec_len s.looked + 1) ⊎ turns.Wants s.turns (marks_for s.owner.number (transaction bs)))))

pub record Fresh (s : Ledger) (h : ℕ) : Type 0 where
  pub number_is : s.owner.number ≡ h
  pub orders_are : rows_of s.orders ≡ []
  pub marks_are : rows_of s.turns.marks ≡ []
  pub done_is : vec_items s.turns.done ≡ []
  pub slots_are : rows_of s.slots ≡ []
  pub looked_is : vec_items s.looked ≡ []
  pub state_is : state_of s ≡ fresh (λ k. 0)

abbrev pub RefusesHouse : Refusal → ℕ → Type 0
RefusesHouse Mismatch h = 16 ≤ h
RefusesHouse Beyond h = ⊥
RefusesHouse Known h = ⊥
RefusesHouse NotYet h = ⊥
RefusesHouse Full h = ⊥
RefusesHouse Memory h = h < 16
