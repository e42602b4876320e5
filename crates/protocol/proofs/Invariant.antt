-- What holds of the houses in every run.
--   shadow      what a house's own slot for a key holds by the log, before the order at a place
--   Settled     the orders that write a key in the house and are done there are those before a place, and the value is what the slot holds there
--   Good        what holds of one house; Inv: of all, and of what was sent
use Rattle.std.proofs.Common.{◌≡◌, ℕ, zero, suc, ◌<◌, ◌≤◌, true, false, cond, ◌⊎◌, List, map, is_some, Some}
use Rattle.std.specs.List.{ContainsAt as Has}
use Rattle.orders.specs.Transaction.{Transaction}
use Rattle.protocol.specs.Log.{houses, stood, reads_in, writes_in, own_reads, reads}
use Rattle.protocol.specs.House.{House, done}
use Rattle.protocol.specs.Machine.{told, copied, Net}

module _ (os : List Transaction) (own : ℕ → ℕ → ℕ) (first : ℕ → ℕ) where
  unfoldable pub shadow : ℕ → ℕ → ℕ → ℕ
  shadow h zero k = first k
  shadow h (suc c) k = cond (writes_in os own h c k) (stood os first (suc c) k) (shadow h c k)

  pub record Settled (h : ℕ) (s : House) (k c : ℕ) : Type 0 where
    pub earlier : (j : ℕ) → j < c → writes_in os own h j k ≡ true → done os own h s j ≡ true
    pub later : (j : ℕ) → c ≤ j → writes_in os own h j k ≡ true → done os own h s j ≡ false
    pub is : s.value k ≡ shadow h c k

  pub record Good (h : ℕ) (s : House) : Type 0 where
    pub settled : (k : ℕ) → (c : ℕ) × Settled h s k c
    pub noted_right : (i : ℕ) (vs : List ℕ) → s.noted i ≡ Some vs → vs ≡ map (stood os first i) (own_reads os own h i)
    pub heard_right : (i k v : ℕ) → s.heard i k ≡ Some v → v ≡ stood os first i k
    -- whoever reads a key before one that has written it has noted it
    pub read_first : (i j k : ℕ) → i < j → reads_in os own h i k ≡ true → writes_in os own h j k ≡ true → done os own h s j ≡ true → (is_some (s.noted i) ≡ true) ⊎ (i < s.place)
    pub looked : (i : ℕ) → s.wrote i ≡ true → reads os own h i ≡ true → (is_some (s.noted i) ≡ true) ⊎ (i < s.place)
    pub saved_right : (k : ℕ) → s.saved k ≡ shadow h s.place k
    pub synced_noted : (i : ℕ) → s.synced i ≡ true → is_some (s.noted i) ≡ true

  -- every house has copied beyond a place
  abbrev pub Beyond : Net → ℕ → Type 0
  Beyond n i = (x : ℕ) → x < houses → i < (n.house x).place

  pub record Inv (n : Net) : Type 0 where
    pub good : (h : ℕ) → h < houses → Good h (n.house h)
    pub sent_right : (g i : ℕ) (vs : List ℕ) → Has n.soup (told g i vs) → vs ≡ map (stood os first i) (own_reads os own g i)
    pub stays : (g i : ℕ) (vs : List ℕ) → Has n.soup (told g i vs) → (((n.house g).noted i ≡ Some vs) × ((n.house g).synced i ≡ true)) ⊎ Beyond n i
    pub kept : (h i : ℕ) → h < houses → i < (n.house h).place → reads os own h i ≡ true → ((is_some ((n.house h).noted i) ≡ true) × ((n.house h).synced i ≡ true)) ⊎ Beyond n i
    pub said : (g c : ℕ) → Has n.soup (copied g c) → c ≤ (n.house g).place
    pub known : (h g : ℕ) → h < houses → g < houses → (n.house h).copied g ≤ (n.house g).place
