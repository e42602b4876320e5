-- Lists of values filled up with zeros.
use Rattle.std.proofs.Common.{◌≡◌, ℕ, zero, suc, ◌+◌, ◌-◌, ◌<◌, ◌≤◌, min, List, [], ◌∷◌, ◌++◌, map, length, get_or, take, drop, set, replicate, sym, refl, ap, ◌∙◌, arith, rules}
use Rattle.std.proofs.lemmas.List.{same_lists, places, set_at, length-map, length-take-le, map_more, take-map, drop-replicate, append_assoc}
use Rattle.orders.specs.Meaning.{padded}
use Rattle.orders.specs.Transaction.{lookup}
use Rattle.orders.proofs.Beside.{beside_none}

padded_parts : (n m : ℕ) (xs : List ℕ) → m ≡ min (length xs) n → padded n xs ≡ take m xs ++ replicate (n - m) 0
padded_parts n m xs e = same_lists _ _ (search (rules, places)) (λ k d h. grind (arith, places))

-- what was copied over the front of zeros; `m - 0` is how a part of an array from 0 on reads
pub padded_copied : (n m : ℕ) (xs copied : List ℕ) → m ≡ min (length xs) n → copied ≡ take (m - 0) xs → copied ++ drop (m - 0) (replicate n 0) ≡ padded n xs
padded_copied n m xs copied e is =
    let whole : m - 0 ≡ m = omega arith in
    ap (λ ys. ys ++ drop (m - 0) (replicate n 0)) is
    ∙ ap (λ k. take k xs ++ drop k (replicate n 0)) whole
    ∙ ap (λ ys. take m xs ++ ys) (drop-replicate m n 0)
    ∙ sym (padded_parts n m xs e)

-- values in place of the first zeros: one more of them, and all
module _ (f : ℕ → ℕ) (n i : ℕ) (ks vs : List ℕ) (filled : vs ≡ map f (take i ks) ++ replicate (n - i) 0) where
  pub filled_more : (v : ℕ) → i < length ks → i < n → v ≡ f (get_or ks i 0) → set vs i v ≡ map f (take (i + 1) ks) ++ replicate (n - (i + 1)) 0
  filled_more v key_in room is =
      let more : n - i ≡ suc (n - (i + 1)) = omega arith in
      let long : length (map f (take i ks)) ≡ i = length-map (take i ks) f ∙ length-take-le i ks (omega arith) in
      ap (λ xs. set xs i v) (filled ∙ ap (λ m. map f (take i ks) ++ replicate m 0) more)
      ∙ set_at (map f (take i ks)) 0 (replicate (n - (i + 1)) 0) v i long
      ∙ ap (λ y. map f (take i ks) ++ (y ∷ replicate (n - (i + 1)) 0)) is
      ∙ sym (append_assoc (map f (take i ks)) (f (get_or ks i 0) ∷ []) (replicate (n - (i + 1)) 0))
      ∙ ap (λ xs. xs ++ replicate (n - (i + 1)) 0) (sym (map_more f ks i 0 key_in))

  pub filled_all : i ≡ length ks → i ≤ n → vs ≡ padded n (map f ks)
  filled_all all few = filled ∙ ap (λ xs. xs ++ replicate (n - i) 0) (sym (take-map f i ks)) ∙ sym (padded_parts n i (map f ks) (simp length-map (omega arith)))

-- where nothing was read all is written as 0
pub zeros_unread : (n m : ℕ) (reads ks : List ℕ) → n ≤ m → take n (map (λ k. lookup reads [] k 0) ks ++ replicate m 0) ≡ replicate n 0
zeros_unread zero m reads ks h = refl
zeros_unread (suc n) zero reads ks h = absurd (omega arith)
zeros_unread (suc n) (suc m) reads [] h = ap (λ xs. 0 ∷ xs) (zeros_unread n m reads [] (omega arith))
zeros_unread (suc n) (suc m) reads (k ∷ ks) h = ap (λ x. x ∷ take n (map (λ j. lookup reads [] j 0) ks ++ replicate (suc m) 0)) (beside_none k 0 reads) ∙ ap (λ xs. 0 ∷ xs) (zeros_unread n (suc m) reads ks (omega arith))
