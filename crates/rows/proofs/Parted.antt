-- A block in rows: how many there are, where one starts and ends, one row more, and one item overwritten.
use Rattle.std.proofs.Common.{◌≡◌, ℕ, zero, suc, ◌+◌, ◌-◌, ◌<◌, ◌≤◌, true, eqb, leb, List, [], ◌∷◌, ◌++◌, length, get_or, take, drop, set, sym, refl, ap, ◌∙◌, arith}
use Rattle.std.proofs.lemmas.List.{drop-append-le, drop_at, drop-set-add, drop-set-lt, length-append, length-drop, take_all, take-append-le, take-set-le}
use Rattle.std.proofs.lemmas.Slice.{between_is}
use Rattle.std.proofs.lemmas.Bool.{and_from, and_parts, eq-eqb, eqb-true, le-leb, leb-true}
use Rattle.rows.specs.Ends.{rising, parted}

-- a first end and the others
rising_parts : (low e : ℕ) (es : List ℕ) (n : ℕ) → rising low (e ∷ es) n ≡ true → (low ≤ e) × (rising e es n ≡ true)
rising_parts low e es n r =
    let p = and_parts (leb low e) (rising e es n) r in
    (leb-true low e p.0, p.1)

low_within : (low : ℕ) (es : List ℕ) (n : ℕ) → rising low es n ≡ true → low ≤ n
low_within low [] n r = omega (arith, eqb-true low n r)
low_within low (e ∷ es) n r =
    let p = rising_parts low e es n r in
    omega (arith, low_within e es n p.1)

low_before_start : (low : ℕ) (es : List ℕ) (n i : ℕ) → rising low es n ≡ true → i ≤ length es → low ≤ get_or (low ∷ es) i 0
low_before_start low es n zero r h = omega arith
low_before_start low [] n (suc i) r h = absurd (omega arith)
low_before_start low (e ∷ es) n (suc i) r h =
    let p = rising_parts low e es n r in
    omega (arith, low_before_start e es n i p.1 (omega arith))

pub start_before_end : (low : ℕ) (es : List ℕ) (n i : ℕ) → rising low es n ≡ true → i < length es → get_or (low ∷ es) i 0 ≤ get_or es i 0
start_before_end low [] n i r h = absurd (omega arith)
start_before_end low (e ∷ es) n zero r h = (rising_parts low e es n r).0
start_before_end low (e ∷ es) n (suc i) r h = start_before_end e es n i (rising_parts low e es n r).1 (omega arith)

pub end_within : (low : ℕ) (es : List ℕ) (n i : ℕ) → rising low es n ≡ true → i < length es → get_or es i 0 ≤ n
end_within low [] n i r h = absurd (omega arith)
end_within low (e ∷ es) n zero r h = low_within e es n (rising_parts low e es n r).1
end_within low (e ∷ es) n (suc i) r h = end_within e es n i (rising_parts low e es n r).1 (omega arith)

pub rising_push : (low : ℕ) (es : List ℕ) (n m : ℕ) → rising low es n ≡ true → n ≤ m → rising low (es ++ m ∷ []) m ≡ true
rising_push low [] n m r h = and_from (leb low m) (eqb m m) (le-leb low m (omega (arith, eqb-true low n r))) (eq-eqb m m refl)
rising_push low (e ∷ es) n m r h =
    let p = rising_parts low e es n r in
    and_from (leb low e) (rising e (es ++ m ∷ []) m) (le-leb low e p.0) (rising_push e es n m p.1 h)

pub length_parted : {A : Type 0} (low : ℕ) (es : List ℕ) (xs : List A) → length (parted low es xs) ≡ length es
unfolding parted
length_parted low [] xs = refl
length_parted low (e ∷ es) xs = ap suc (length_parted e es xs)

pub get_or_parted : {A : Type 0} (low : ℕ) (es : List ℕ) (xs : List A) (i : ℕ) → i < length es → get_or (parted low es xs) i [] ≡ take (get_or es i 0 - get_or (low ∷ es) i 0) (drop (get_or (low ∷ es) i 0) xs)
unfolding parted
get_or_parted low [] xs i h = absurd (omega arith)
get_or_parted low (e ∷ es) xs zero h = refl
get_or_parted low (e ∷ es) xs (suc i) h = get_or_parted e es xs i (omega arith)

-- items behind the last row, with their end
pub parted_push : {A : Type 0} (low : ℕ) (es : List ℕ) (xs ys : List A) → rising low es (length xs) ≡ true → parted low (es ++ length (xs ++ ys) ∷ []) (xs ++ ys) ≡ parted low es xs ++ ys ∷ []
unfolding parted
parted_push low [] xs ys r =
    let l : low ≡ length xs = eqb-true low (length xs) r in
    let d : drop low (xs ++ ys) ≡ ys = drop_at xs ys low (omega arith) in
    ap (λ row. row ∷ []) (ap (take (length (xs ++ ys) - low)) d ∙ take_all (length (xs ++ ys) - low) ys (simp length-append (omega arith)))
parted_push low (e ∷ es) xs ys r =
    let p = rising_parts low e es (length xs) r in
    let within : e ≤ length xs = low_within e es (length xs) p.1 in
    let d : drop low (xs ++ ys) ≡ drop low xs ++ ys = drop-append-le low xs ys (omega arith) in
    let t : take (e - low) (drop low xs ++ ys) ≡ take (e - low) (drop low xs) = take-append-le (e - low) (drop low xs) ys (simp length-drop (omega arith)) in
    let rest = parted_push e es xs ys p.1 in
    rw (d, t, rest)

take_set_at : {A : Type 0} (n : ℕ) (xs : List A) (i : ℕ) (x : A) → take n (set xs i x) ≡ set (take n xs) i x
take_set_at zero xs i x = refl
take_set_at (suc n) [] i x = refl
take_set_at (suc n) (y ∷ ys) zero x = refl
take_set_at (suc n) (y ∷ ys) (suc i) x = ap (λ zs. y ∷ zs) (take_set_at n ys i x)

-- an item behind a row
between_set_behind : {A : Type 0} (low e : ℕ) (xs : List A) (k : ℕ) (x : A) → e ≤ k → take (e - low) (drop low (set xs k x)) ≡ take (e - low) (drop low xs)
between_set_behind low e xs k x h = between_is (set xs k x) low e ∙ (ap (drop low) (take-set-le e xs k x h) ∙ sym (between_is xs low e))

-- an item before the first row
parted_set_before : {A : Type 0} (low : ℕ) (es : List ℕ) (xs : List A) (n k : ℕ) (x : A) → rising low es n ≡ true → k < low → parted low es (set xs k x) ≡ parted low es xs
unfolding parted
parted_set_before low [] xs n k x r h = refl
parted_set_before low (e ∷ es) xs n k x r h =
    let p = rising_parts low e es n r in
    let d : drop low (set xs k x) ≡ drop low xs = drop-set-lt low xs k x h in
    let rest = parted_set_before e es xs n k x p.1 (omega arith) in
    rw (d, rest)

-- an item of a row
pub parted_set : {A : Type 0} (low : ℕ) (es : List ℕ) (xs : List A) (n i at : ℕ) (x : A) → rising low es n ≡ true → i < length es → at < get_or es i 0 - get_or (low ∷ es) i 0 →
    parted low es (set xs (get_or (low ∷ es) i 0 + at) x) ≡ set (parted low es xs) i (set (get_or (parted low es xs) i []) at x)
unfolding parted
parted_set low [] xs n i at x r h b = absurd (omega arith)
parted_set low (e ∷ es) xs n zero at x r h b =
    let p = rising_parts low e es n r in
    let d : drop low (set xs (low + at) x) ≡ set (drop low xs) at x = drop-set-add low xs at x in
    let t : take (e - low) (set (drop low xs) at x) ≡ set (take (e - low) (drop low xs)) at x = take_set_at (e - low) (drop low xs) at x in
    let rest = parted_set_before e es xs n (low + at) x p.1 (omega arith) in
    rw (d, t, rest)
parted_set low (e ∷ es) xs n (suc i) at x r h b =
    let p = rising_parts low e es n r in
    let after : e ≤ get_or (e ∷ es) i 0 = low_before_start e es n i p.1 (omega arith) in
    let row = between_set_behind low e xs (get_or (e ∷ es) i 0 + at) x (omega arith) in
    let rest = parted_set e es xs n i at x p.1 (omega arith) b in
    rw (row, rest)
