-- When orders wait for one another, by the marks that they have at the keys of a house.
--   slot k             the number of a key within its house
--   blocks w q ms      an order with the marks ms keeps another one waiting at the key with number q, which writes it there (w) or only reads it
--   conflicts ms ns    two orders with these marks meet: at one key, and one of them writes it
--   put                a function changed at one place
--   free w q n         no undone order before place n keeps one waiting that touches the key with number q
--   clear ms n         no undone order before place n conflicts with one that has the marks ms
--   ready i            every earlier order that conflicts with the one at place i is done
--   wakes n i j        the order at j, one of the first n, waits for the one at i and for no other
-- Assumes nothing.
use Rattle.std.specs.Prelude.{ℕ, zero, suc, ◌/◌, Bool, true, false, cond, not, ◌&&◌, ◌||◌, List, [], ◌∷◌, ◌==◌, nat_lt}
use Rattle.turns.specs.declared.entry.Mark.{Mark}

abbrev pub slot : ℕ → ℕ
slot k = k / 16

abbrev pub blocks : Bool → ℕ → List Mark → Bool
blocks w q [] = false
blocks w q (m ∷ ms) = (slot m.key == q && (w || m.writes)) || blocks w q ms

abbrev pub conflicts : List Mark → List Mark → Bool
conflicts [] ns = false
conflicts (m ∷ ms) ns = blocks m.writes (slot m.key) ns || conflicts ms ns

abbrev pub put : {A : Type 0} → ℕ → A → (ℕ → A) → ℕ → A
put i x f j = cond (j == i) x (f j)

-- marks: of the order at each place; done: whether it is done
module _ (marks : ℕ → List Mark) (done : ℕ → Bool) where
  unfoldable pub free : Bool → ℕ → ℕ → Bool
  free w q zero = true
  free w q (suc j) = free w q j && (done j || not (blocks w q (marks j)))

  unfoldable pub clear : List Mark → ℕ → Bool
  clear ms zero = true
  clear ms (suc j) = clear ms j && (done j || not (conflicts ms (marks j)))

  abbrev pub ready : ℕ → Bool
  ready i = clear (marks i) i

abbrev pub wakes : (ℕ → List Mark) → (ℕ → Bool) → (n i j : ℕ) → Bool
wakes marks done n i j = nat_lt j n && (not (done j) && (not (ready marks done j) && ready marks (put i true done) j))
