-- What is promised of every run, whatever the log, the mixture of work, the messages that come late, twice or never, and the crashes.
--   Reach         a net that some run from the start comes to
--   AllDone       every order of the log is done in every house
--   quiet         a net without the messages that were sent before
--   ReadsRight    whatever is noted, heard or was ever sent for an order, and all that a write is given, is what stands in those keys after the
--                 orders before it, serially
--   EndsRight     where all is done, every key has in its house what doing all orders serially leaves
--   AlikeAs       two runs over one log never say different things of an order
--   NeverStuck    a finite run of calm deeds does everything everywhere, with no message from before
--   Nearby        while anything is undone, a look or a write is at most plain deeds away: the log grows, syncing, telling, hearing
--   Task, Waits   a look or a write of a house for an order; it waits for its turn in the house, or for the word of another
--   NoRing        no set of tasks in which each waits for one of the set
--   NoGap         of the orders that write a key in a house, those done there are the first so many
--   ToldStays     as long as some house has not copied beyond an order, what was told of it can be told again, the very same
--   Promise       all of these, of a net
--   Agrees        two plans say the same of the orders of a log
--   Longer        a run over a log is a run over every longer one
--   Always        of every net that a run over a sound plan comes to; BaseSound: the base is such a plan
-- Assumes nothing.
use Rattle.std.specs.Prelude.{◌≡◌, ℕ, ◌<◌, ◌≤◌, Bool, true, false, List, [], ◌++◌, map, length, take, Some, None}
use Rattle.std.specs.List.{ContainsAt as Has, AllByRecursion}
use Rattle.orders.specs.Transaction.{Transaction, is_in, serial}
use Rattle.protocol.specs.Log.{houses, at, writes_in, own_reads, conflict}
use Rattle.protocol.specs.House.{House, done, knows, Plan, Sound, base}
use Rattle.protocol.specs.Machine.{told, Deed, look, write, calm, plain, Net, start, Step, Run}

pub data Phase : Type 0 where
  looking : Phase
  writing : Phase

pub record Task : Type 0 where
  pub phase : Phase
  pub house : ℕ
  pub place : ℕ

abbrev pub quiet : Net → Net
quiet n = record { house = n.house; soup = [] }

-- a look or a write
pub data Works : Deed → Type 0 where
  by_look : (i : ℕ) → Works (look i)
  by_write : (i : ℕ) → Works (write i)

module _ (os : List Transaction) (p : Plan) (first : ℕ → ℕ) where
  abbrev pub Reach : Net → Type 0
  Reach n = (ds : List (ℕ × Deed)) × Run os p ds (start first) n

  abbrev pub done_at : Net → ℕ → ℕ → Bool
  done_at n h i = done os p.own h (n.house h) i

  abbrev pub AllDone : Net → Type 0
  AllDone n = (h i : ℕ) → h < houses → i < length os → done_at n h i ≡ true

  -- what stood in all keys before the order at a place
  abbrev pub before : ℕ → ℕ → ℕ
  before i = serial (take i os) first

  pub record ReadsRight (n : Net) : Type 0 where
    pub noted_right : (h i : ℕ) (vs : List ℕ) → h < houses → (n.house h).noted i ≡ Some vs → vs ≡ map (before i) (own_reads os p.own h i)
    pub sent_right : (g i : ℕ) (vs : List ℕ) → Has n.soup (told g i vs) → vs ≡ map (before i) (own_reads os p.own g i)
    pub heard_right : (h i k v : ℕ) → h < houses → (n.house h).heard i k ≡ Some v → v ≡ before i k
    pub given_right : (h i k v : ℕ) → h < houses → is_in k (at os i).reads ≡ true → knows os p.own h (n.house h) i k ≡ Some v → v ≡ before i k

  abbrev pub EndsRight : Net → Type 0
  EndsRight n = AllDone n → (k : ℕ) → (n.house (p.own (length os) k)).value k ≡ serial os first k

  abbrev pub AlikeAs : Net → Type 0
  AlikeAs n =
      (m : Net) → Reach m → (h i : ℕ) (vs ws : List ℕ) → h < houses →
      (Has n.soup (told h i vs) → Has m.soup (told h i ws) → vs ≡ ws) × ((n.house h).noted i ≡ Some vs → (m.house h).noted i ≡ Some ws → vs ≡ ws)

  abbrev pub NeverStuck : Net → Type 0
  NeverStuck n = (ds : List (ℕ × Deed)) × (m : Net) × AllByRecursion (λ d. calm d.1 ≡ true) ds × Run os p ds (quiet n) m × AllDone m

  abbrev pub Nearby : Net → Type 0
  Nearby n =
      (h i : ℕ) → h < houses → i < length os → done_at n h i ≡ false →
      (ds : List (ℕ × Deed)) × (m l : Net) × (g : ℕ) × (d : Deed) × AllByRecursion (λ e. plain e.1 ≡ true) ds × Run os p ds (quiet n) m × Step os p g d m l × Works d

  pub data Waits (n : Net) : Task → Task → Type 0 where
    -- for an earlier order that conflicts and is not done
    for_turn : (a b : Phase) (h i j k : ℕ) → j < i → conflict os p.own h i j k ≡ true → done_at n h j ≡ false → Waits n (record { phase = a; house = h; place = i }) (record { phase = b; house = h; place = j })
    -- for what another house, or it itself, has not noted yet
    for_word : (h i k : ℕ) → is_in k (at os i).reads ≡ true → (n.house (p.own i k)).noted i ≡ None → Waits n (record { phase = writing; house = h; place = i }) (record { phase = looking; house = p.own i k; place = i })

  abbrev pub NoRing : Net → Type 0
  NoRing n = (set : Task → Bool) → ((x : Task) → set x ≡ true → (y : Task) × (set y ≡ true) × Waits n x y) → (x : Task) → set x ≡ true → ⊥

  abbrev pub NoGap : Net → Type 0
  NoGap n = (h i j k : ℕ) → h < houses → i < j → writes_in os p.own h i k ≡ true → writes_in os p.own h j k ≡ true → done_at n h j ≡ true → done_at n h i ≡ true

  abbrev pub ToldStays : Net → Type 0
  ToldStays n = (g x i : ℕ) (vs : List ℕ) → x < houses → (n.house x).place ≤ i → Has n.soup (told g i vs) → ((n.house g).noted i ≡ Some vs) × ((n.house g).synced i ≡ true)

  pub record Promise (n : Net) : Type 0 where
    pub reads_right : ReadsRight n
    pub ends_right : EndsRight n
    pub alike : AlikeAs n
    pub never_stuck : NeverStuck n
    pub nearby : Nearby n
    pub no_ring : NoRing n
    pub no_gap : NoGap n
    pub told_stays : ToldStays n

-- of every net that a run over a sound plan comes to
abbrev pub Always : (List Transaction → Plan → (ℕ → ℕ) → Net → Type 0) → Type 0
Always P = (os : List Transaction) (p : Plan) (first : ℕ → ℕ) → Sound os p → (n : Net) → Reach os p first n → P os p first n

abbrev pub BaseSound : Type 0
BaseSound = (os : List Transaction) → Sound os (base os)

pub record Agrees (os : List Transaction) (p q : Plan) : Type 0 where
  pub same_own : (i : ℕ) → i ≤ length os → p.own i ≡ q.own i
  pub same_need : (i : ℕ) → i < length os → p.need i ≡ q.need i
  pub same_passable : (h i : ℕ) (s : House) → i < length os → p.passable h s i ≡ q.passable h s i

abbrev pub Longer : Type 0
Longer =
    (os more : List Transaction) (p q : Plan) (first : ℕ → ℕ) (ds : List (ℕ × Deed)) (n : Net) → Agrees os p q → Run os p ds (start first) n → Run (os ++ more) q ds (start first) n

-- today's plan over a log and over a longer one
abbrev pub BaseAgrees : Type 0
BaseAgrees = (os more : List Transaction) → Agrees os (base os) (base (os ++ more))
