-- Sixteen houses that do the orders of a log side by side, and what may happen to them.
--   Message      told: the values that a house noted for an order; asks: for what a house has noted; copied: a house's checkpoint is of this place
--   Deed         what a house is asked to do, or what happens to it
--   Act          the deed, of house h, with the messages sent so far, takes the house's state s to s' and sends these messages
--   Net          the houses and all messages ever sent: hearing takes any of them, so they come late, twice or never
--   Step, Run    one deed, and a list of deeds, of the whole
--   calm         a deed that is no crash and drops nothing
--   plain        a deed that is neither a look nor a write, a crash, a drop or a checkpoint: the log grows, syncing, telling, hearing, asking
-- Assumes nothing.
use Rattle.std.specs.Prelude.{◌≡◌, ℕ, suc, ◌<◌, ◌≤◌, max, Bool, true, false, cond, ◌⊎◌, List, [], ◌∷◌, ◌++◌, map, length, is_some, Some, None, Option, ◌==◌}
use Rattle.std.specs.List.{ContainsAt as Has}
use Rattle.orders.specs.Transaction.{Transaction, lookup, is_in}
use Rattle.protocol.specs.Log.{houses, at, writes_in, own_reads, reads, writes, touches, effect}
use Rattle.protocol.specs.House.{House, fresh, done, Ready, knows, Plan}

pub data Message : Type 0 where
  told : (house place : ℕ) → (values : List ℕ) → Message
  asks : (house place of : ℕ) → Message
  copied : (house place : ℕ) → Message

pub data Deed : Type 0 where
  grow : Deed
  look : ℕ → Deed
  write : ℕ → Deed
  sync : Deed
  tell : ℕ → Deed
  ask : ℕ → ℕ → Deed
  hear : Message → Deed
  checkpoint : ℕ → Deed
  say : Deed
  drop : ℕ → Deed
  crash : Deed

abbrev pub calm : Deed → Bool
calm grow = true
calm (look i) = true
calm (write i) = true
calm sync = true
calm (tell i) = true
calm (ask i g) = true
calm (hear m) = true
calm (checkpoint c) = true
calm say = true
calm (drop i) = false
calm crash = false

abbrev pub plain : Deed → Bool
plain grow = true
plain (look i) = false
plain (write i) = false
plain sync = true
plain (tell i) = true
plain (ask i g) = true
plain (hear m) = true
plain (checkpoint c) = false
plain say = true
plain (drop i) = false
plain crash = false

-- a function changed at one number
abbrev pub put : {A : Type 0} → ℕ → A → (ℕ → A) → ℕ → A
put i x f j = cond (j == i) x (f j)

-- what a house has heard for an order, once it was told these values of these keys
abbrev pub hears : List ℕ → List ℕ → (ℕ → Option ℕ) → ℕ → Option ℕ
hears ks vs f k = cond (is_in k ks) (Some (lookup ks vs k 0)) (f k)

module _ (os : List Transaction) (p : Plan) (h : ℕ) (soup : List Message) where
  pub data Act : Deed → House → House → List Message → Type 0 where
    -- the log goes on
    grows : (s : House) → s.have < length os →
        Act grow s (record { have = suc s.have; value = s.value; noted = s.noted; synced = s.synced; wrote = s.wrote; heard = s.heard; place = s.place; saved = s.saved; copied = s.copied }) []
    -- the house notes what stands in its keys that the order reads, once and for all
    looks : (s : House) (i : ℕ) → i < s.have → s.place ≤ i → reads os p.own h i ≡ true → s.noted i ≡ None → Ready os p.own h s i →
        Act (look i) s (record { have = s.have; value = s.value; noted = put i (Some (map s.value (own_reads os p.own h i))) s.noted; synced = s.synced; wrote = s.wrote; heard = s.heard; place = s.place; saved = s.saved; copied = s.copied }) []
    -- f: what it knows to have stood in the keys that it has to know
    writes_its : (s : House) (i : ℕ) (f value' : ℕ → ℕ) → i < s.have → s.place ≤ i → writes os p.own h i ≡ true → s.wrote i ≡ false → (reads os p.own h i ≡ true → is_some (s.noted i) ≡ true) → Ready os p.own h s i →
        ((k : ℕ) → is_in k (at os i).reads ≡ true → p.need i h k ≡ true → knows os p.own h s i k ≡ Some (f k)) →
        ((k : ℕ) → value' k ≡ cond (writes_in os p.own h i k) (effect (at os i) f k (s.value k)) (s.value k)) →
        Act (write i) s (record { have = s.have; value = value'; noted = s.noted; synced = s.synced; wrote = put i true s.wrote; heard = s.heard; place = s.place; saved = s.saved; copied = s.copied }) []
    -- all that it has noted is on disk
    syncs : (s : House) (synced' : ℕ → Bool) → ((i : ℕ) → synced' i ≡ is_some (s.noted i)) →
        Act sync s (record { have = s.have; value = s.value; noted = s.noted; synced = synced'; wrote = s.wrote; heard = s.heard; place = s.place; saved = s.saved; copied = s.copied }) []
    -- again and again the very same
    tells : (s : House) (i : ℕ) (vs : List ℕ) → s.noted i ≡ Some vs → s.synced i ≡ true → Act (tell i) s s (told h i vs ∷ [])
    asks_for : (s : House) (i g : ℕ) → i < s.have → Act (ask i g) s s (asks h i g ∷ [])
    hears_told : (s : House) (g i : ℕ) (vs : List ℕ) (heard' : ℕ → ℕ → Option ℕ) → Has soup (told g i vs) → i < s.have →
        ((j k : ℕ) → heard' j k ≡ cond (j == i) (hears (own_reads os p.own g i) vs (s.heard i) k) (s.heard j k)) →
        Act (hear (told g i vs)) s (record { have = s.have; value = s.value; noted = s.noted; synced = s.synced; wrote = s.wrote; heard = heard'; place = s.place; saved = s.saved; copied = s.copied }) []
    hears_copied : (s : House) (g c : ℕ) → Has soup (copied g c) →
        Act (hear (copied g c)) s (record { have = s.have; value = s.value; noted = s.noted; synced = s.synced; wrote = s.wrote; heard = s.heard; place = s.place; saved = s.saved; copied = put g (max c (s.copied g)) s.copied }) []
    -- the journal first; the place never falls
    checks : (s : House) (c : ℕ) (saved' : ℕ → ℕ) → c ≤ s.have → s.place ≤ c →
        ((i : ℕ) → i < c → p.passable h s i ≡ true) → ((i : ℕ) → c ≤ i → touches os p.own h i ≡ true → done os p.own h s i ≡ false) → ((i : ℕ) → i < c → is_some (s.noted i) ≡ true → s.synced i ≡ true) → ((k : ℕ) → saved' k ≡ s.value k) →
        Act (checkpoint c) s (record { have = s.have; value = s.value; noted = s.noted; synced = s.synced; wrote = s.wrote; heard = s.heard; place = c; saved = saved'; copied = s.copied }) []
    says : (s : House) → Act say s s (copied h s.place ∷ [])
    -- an entry of the journal that every house has copied beyond
    drops : (s : House) (i : ℕ) → ((g : ℕ) → g < houses → i < s.copied g) →
        Act (drop i) s (record { have = s.have; value = s.value; noted = put i None s.noted; synced = put i false s.synced; wrote = s.wrote; heard = s.heard; place = s.place; saved = s.saved; copied = s.copied }) []
    -- values and all that is volatile go; the checkpoint stays, and of the journal what is synced and any more of it
    crashes : (s : House) (value' : ℕ → ℕ) (noted' : ℕ → Option (List ℕ)) (synced' wrote' : ℕ → Bool) (heard' : ℕ → ℕ → Option ℕ) (copied' : ℕ → ℕ) →
        ((k : ℕ) → value' k ≡ s.saved k) → ((i : ℕ) → (noted' i ≡ s.noted i) ⊎ ((noted' i ≡ None) × (s.synced i ≡ false))) → ((i : ℕ) → synced' i ≡ is_some (noted' i)) →
        ((i : ℕ) → wrote' i ≡ false) → ((i k : ℕ) → heard' i k ≡ None) → ((g : ℕ) → copied' g ≡ 0) →
        Act crash s (record { have = s.have; value = value'; noted = noted'; synced = synced'; wrote = wrote'; heard = heard'; place = s.place; saved = s.saved; copied = copied' }) []

pub record Net : Type 0 where
  pub house : ℕ → House
  pub soup : List Message

abbrev pub start : (ℕ → ℕ) → Net
start first = record { house = λ h. fresh first; soup = [] }

module _ (os : List Transaction) (p : Plan) where
  pub data Step : ℕ → Deed → Net → Net → Type 0 where
    acts : {n : Net} {h : ℕ} {d : Deed} {s : House} {sent : List Message} → h < houses → Act os p h n.soup d (n.house h) s sent →
        Step h d n (record { house = put h s n.house; soup = n.soup ++ sent })

  -- deeds of houses, the last one first
  pub data Run : List (ℕ × Deed) → Net → Net → Type 0 where
    stay : {n : Net} → Run [] n n
    then : {h : ℕ} {d : Deed} {ds : List (ℕ × Deed)} {n m l : Net} → Run ds n m → Step h d m l → Run ((h, d) ∷ ds) n l
