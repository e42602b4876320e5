-- Decoding undoes encoding, and finds nothing but encodings.
use Rattle.std.proofs.Common.{◌≡◌, ℕ, zero, suc, ◌+◌, ◌*◌, ◌/◌, ◌%◌, Bool, true, cond, ◌&&◌, eqb, leb, List, [], ◌∷◌, ◌++◌, length, IfSome, Some, None, Option, sym, refl, ap, ◌∙◌, arith}
use Rattle.std.specs.List.{flat_map, AllByRecursion}
use Rattle.std.proofs.ByRecursion.{All-from_get_or}
use Rattle.std.proofs.lemmas.List.{append_assoc, append-nil}
use Rattle.std.proofs.lemmas.Option.{MatchOption-at_some, IfSome_then}
use Rattle.std.proofs.lemmas.Bool.{and_parts, and_from, cond-true, cond_both, eqb-true}
use Rattle.orders.specs.Codec.{two, instruction_bytes, counted, encoded}
use Rattle.orders.specs.Codec.{Read, and_then, prepend, many, key_in, three_in, set_in, write_in, any_in, only, instruction_in, list_in, keys_in, code_in, ended, decoded}
use Rattle.orders.specs.Contents.{Contents, key_set, program, valid}
use Rattle.orders.specs.Laws.{Bytes, DecodesAll, DecodesOnly}
use Rattle.orders.specs.Valid.{rising, fits, all_fit}
use Rattle.orders.specs.declared.instruction.Instruction.{Instruction}
use Rattle.orders.specs.declared.instruction.Instruction.TheVariants.{Add, Subtract, Multiply, Divide, Set, SkipIfBelow, Write, Abort}

-- Whatever is found, P holds of it.
abbrev Finds : {X : Type 0} → (X → Type 0) → Option X → Type 0
Finds P o = IfSome o P

finds_then : {X Y : Type 0} (P : X → Type 0) (Q : Y → Type 0) (o : Option X) (k : X → Option Y) → ((x : X) → P x → Finds Q (k x)) → Finds P o → Finds Q (and_then o k)
finds_then P Q None k f h = tt
finds_then P Q (Some x) k f h = f x h

finds_prepend : {X : Type 0} (P Q : List X × List ℕ → Type 0) (xs : List X) (r : Read (List X)) → ((p : List X × List ℕ) → P p → Q (xs ++ p.0, p.1)) → Finds P r → Finds Q (prepend xs r)
finds_prepend P Q xs None f h = tt
finds_prepend P Q xs (Some p) f h = f p h

finds_only : {X : Type 0} (P Q : X × List ℕ → Type 0) (test : X → Bool) (r : Read X) → ((p : X × List ℕ) → P p → test p.0 ≡ true → Q p) → Finds P r → Finds Q (only test r)
finds_only P Q test None f h = tt
finds_only P Q test (Some p) f h = cond_both (test p.0) (Some p) None (Finds Q) (f p h) (λ e. tt)

finds_ended : (Q : Contents → Type 0) (c : Contents) (bs : List ℕ) → (bs ≡ [] → Q c) → Finds Q (ended c bs)
finds_ended Q c [] f = f refl
finds_ended Q c (b ∷ bs) f = tt

-- what is read is good, and its bytes and those left are bs
abbrev Front : {X : Type 0} → (X → List ℕ) → (X → Type 0) → List ℕ → X × List ℕ → Type 0
Front f good bs p = (f p.0 ++ p.1 ≡ bs) × good p.0 × Bytes p.1

-- Where one reads each good thing back from its bytes, and reads nothing else, so do many and list_in.
module _ {X : Type 0} (one : List ℕ → Read X) (f : X → List ℕ) (good : X → Type 0) where
  module _ (one_reads : (x : X) (rest : List ℕ) → good x → one (f x ++ rest) ≡ Some (x, rest)) where
    many_reads : (xs : List X) (rest : List ℕ) → AllByRecursion good xs → many one (length xs) (flat_map f xs ++ rest) ≡ Some (xs, rest)
    unfolding many
    many_reads [] rest h = refl
    many_reads (x ∷ xs) rest h = rw (append_assoc, one_reads x _ h.0, many_reads xs rest h.1)

    list_reads : (most : ℕ) (xs : List X) (rest : List ℕ) → leb (length xs) most ≡ true → AllByRecursion good xs → list_in most one (counted f xs ++ rest) ≡ Some (xs, rest)
    list_reads most xs rest e h = cond-true _ _ _ e ∙ many_reads xs rest h

  module _ (one_finds : (bs : List ℕ) → Bytes bs → Finds (Front f good bs) (one bs)) where
    many_finds : (n : ℕ) (bs : List ℕ) → Bytes bs → Finds (Front (flat_map f) (λ xs. (length xs ≡ n) × AllByRecursion good xs) bs) (many one n bs)
    unfolding many
    many_finds zero bs b = (refl, (refl, tt), b)
    many_finds (suc n) bs b =
        finds_then (Front f good bs) _ (one bs) _ (λ p h.
        finds_prepend _ _ (p.0 ∷ []) (many one n p.1)
        (λ q k. (cc (append_assoc (f p.0) (flat_map f q.0) q.1), (ap suc k.1.0, (h.1, k.1.1)), k.2))
        (many_finds n p.1 h.2))
        (one_finds bs b)

    list_finds : (most : ℕ) (bs : List ℕ) → Bytes bs → Finds (Front (counted f) (λ xs. (leb (length xs) most ≡ true) × AllByRecursion good xs) bs) (list_in most one bs)
    list_finds most [] b = tt
    list_finds most (n ∷ bs) b =
        cond_both (leb n most) (many one n bs) None (Finds (Front (counted f) (λ xs. (leb (length xs) most ≡ true) × AllByRecursion good xs) (n ∷ bs)))
        (λ e. IfSome_then (many one n bs) (many_finds n bs b.1) (λ p h. (cc, (cc, h.1.1), h.2)))
        (λ e. tt)

-- keys
key_reads : (k : ℕ) (rest : List ℕ) → Unit {0} → key_in (two k ++ rest) ≡ Some (k, rest)
key_reads k rest _ = ap (λ n. Some (n, rest)) (omega arith)

key_finds : (bs : List ℕ) → Bytes bs → Finds (Front two (λ _. Unit {0}) bs) (key_in bs)
key_finds [] b = tt
key_finds (h ∷ []) b = tt
key_finds (h ∷ l ∷ bs) b =
    let high : (h * 256 + l) / 256 ≡ h = omega arith in
    let low : (h * 256 + l) % 256 ≡ l = omega arith in
    (cc, tt, b.1.1)

-- instructions
any_reads : (i : Instruction) (rest : List ℕ) → any_in (instruction_bytes i ++ rest) ≡ Some (i, rest)
any_reads (Add a b c) rest = refl
any_reads (Subtract a b c) rest = refl
any_reads (Multiply a b c) rest = refl
any_reads (Divide a b c) rest = refl
any_reads (Set a n) rest = ap (λ m. Some (Set a m, rest)) (omega arith)
any_reads (SkipIfBelow b c d) rest = refl
any_reads (Write s b) rest = refl
any_reads Abort rest = refl

instruction_reads : (w : ℕ) (i : Instruction) (rest : List ℕ) → fits w i ≡ true → instruction_in w (instruction_bytes i ++ rest) ≡ Some (i, rest)
instruction_reads w i rest h = ap (only (fits w)) (any_reads i rest) ∙ cond-true _ _ _ h

-- what is read has the kind k, and its other bytes are the front of bs
abbrev Kind : ℕ → List ℕ → Read Instruction → Type 0
Kind k bs r = Finds (Front instruction_bytes (λ _. Unit {0}) (k ∷ bs)) r

three_finds : (n : ℕ) (f : ℕ → ℕ → ℕ → Instruction) → ((a b c : ℕ) → instruction_bytes (f a b c) ≡ n ∷ a ∷ b ∷ c ∷ []) → (bs : List ℕ) → Bytes bs → Kind n bs (three_in f bs)
three_finds n f e [] h = tt
three_finds n f e (a ∷ []) h = tt
three_finds n f e (a ∷ b ∷ []) h = tt
three_finds n f e (a ∷ b ∷ c ∷ bs) h = (ap (λ cs. cs ++ bs) (e a b c), tt, h.1.1.1)

set_finds : (bs : List ℕ) → Bytes bs → Kind 5 bs (set_in bs)
set_finds [] h = tt
set_finds (a ∷ []) h = tt
set_finds (a ∷ p ∷ []) h = tt
set_finds (a ∷ p ∷ q ∷ []) h = tt
set_finds (a ∷ p ∷ q ∷ r ∷ []) h = tt
set_finds (a ∷ p ∷ q ∷ r ∷ s ∷ bs) h =
    let n : ℕ = p * 16777216 + q * 65536 + r * 256 + s in
    let i : n / 16777216 ≡ p = omega arith in
    let j : n / 65536 % 256 ≡ q = omega arith in
    let k : n / 256 % 256 ≡ r = omega arith in
    let l : n % 256 ≡ s = omega arith in
    (cc, tt, h.1.1.1.1.1)

write_finds : (bs : List ℕ) → Bytes bs → Kind 7 bs (write_in bs)
write_finds [] h = tt
write_finds (s ∷ []) h = tt
write_finds (s ∷ b ∷ bs) h = (refl, tt, h.1.1)

any_finds : (bs : List ℕ) → Bytes bs → Finds (Front instruction_bytes (λ _. Unit {0}) bs) (any_in bs)
any_finds [] h = tt
any_finds (k ∷ bs) h =
    kind 1 _ _ (three_finds 1 Add (λ a b c. refl) bs h.1) (kind 2 _ _ (three_finds 2 Subtract (λ a b c. refl) bs h.1)
    (kind 3 _ _ (three_finds 3 Multiply (λ a b c. refl) bs h.1) (kind 4 _ _ (three_finds 4 Divide (λ a b c. refl) bs h.1)
    (kind 5 _ _ (set_finds bs h.1) (kind 6 _ _ (three_finds 6 SkipIfBelow (λ a b c. refl) bs h.1)
    (kind 7 _ _ (write_finds bs h.1) (kind 8 (Some (Abort, bs)) None (refl, tt, h.1) tt)))))))
  where
    kind : (n : ℕ) (x y : Read Instruction) → Kind n bs x → Kind k bs y → Kind k bs (cond (eqb k n) x y)
    kind n x y f g = cond_both (eqb k n) x y (Kind k bs) (λ e. rw (eqb-true k n e) f) (λ e. g)

instruction_finds : (w : ℕ) (bs : List ℕ) → Bytes bs → Finds (Front instruction_bytes (λ i. fits w i ≡ true) bs) (instruction_in w bs)
instruction_finds w bs b = finds_only _ _ (fits w) (any_in bs) (λ p h e. (h.0, e, h.2)) (any_finds bs b)

-- what is read fits, whatever the bytes are
any_read : {X : Type 0} (o : Option X) → Finds (λ _. Unit {0}) o
any_read None = tt
any_read (Some x) = tt

instructions_fit : (w n : ℕ) (bs : List ℕ) → Finds (λ p. all_fit w p.0 ≡ true) (many (instruction_in w) n bs)
unfolding many
instructions_fit w zero bs = refl
instructions_fit w (suc n) bs =
    finds_then (λ p. fits w p.0 ≡ true) _ (instruction_in w bs) _ (λ p h.
    finds_prepend (λ q. all_fit w q.0 ≡ true) _ (p.0 ∷ []) (many (instruction_in w) n p.1) (λ q k. and_from _ _ h k) (instructions_fit w n p.1))
    (finds_only (λ _. Unit {0}) _ (fits w) (any_in bs) (λ p h e. e) (any_read (any_in bs)))

pub code_fits : (w : ℕ) (bs : List ℕ) (is : List Instruction) (rest : List ℕ) → code_in w bs ≡ Some (is, rest) → all_fit w is ≡ true
code_fits w bs is rest e = MatchOption-at_some (Unit {0}) (λ p. all_fit w p.0 ≡ true) (is, rest) e (found bs)
  where
    found : (cs : List ℕ) → Finds (λ p. all_fit w p.0 ≡ true) (code_in w cs)
    found [] = tt
    found (n ∷ cs) = cond_both (leb n 64) (many (instruction_in w) n cs) None (Finds (λ p. all_fit w p.0 ≡ true)) (λ _. instructions_fit w n cs) (λ _. tt)

all_from_all_fit : (w : ℕ) (is : List Instruction) → all_fit w is ≡ true → AllByRecursion (λ i. fits w i ≡ true) is
all_from_all_fit w [] h = tt
all_from_all_fit w (i ∷ is) h = let p = and_parts (fits w i) (all_fit w is) h in (p.0, all_from_all_fit w is p.1)

all_fit_from_all : (w : ℕ) (is : List Instruction) → AllByRecursion (λ i. fits w i ≡ true) is → all_fit w is ≡ true
all_fit_from_all w [] h = refl
all_fit_from_all w (i ∷ is) h = and_from _ _ h.0 (all_fit_from_all w is h.1)

-- the parts of an order, then all of it
keys_reads : (ks rest : List ℕ) → key_set ks ≡ true → keys_in (counted two ks ++ rest) ≡ Some (ks, rest)
keys_reads ks rest h =
    let p = and_parts (leb (length ks) 16) (rising 0 ks) h in
    ap (only (rising 0)) (list_reads key_in two _ key_reads 16 ks rest p.0 (All-from_get_or (λ _. Unit {0}) ks 0 (λ i l. tt)))
    ∙ cond-true _ _ _ p.1

keys_finds : (bs : List ℕ) → Bytes bs → Finds (Front (counted two) (λ ks. key_set ks ≡ true) bs) (keys_in bs)
keys_finds bs b =
    finds_only _ _ (rising 0) (list_in 16 key_in bs) (λ p h e. (h.0, and_from _ _ h.1.0 e, h.2))
    (list_finds key_in two _ key_finds 16 bs b)

code_reads : (w : ℕ) (is : List Instruction) → program w is ≡ true → code_in w (counted instruction_bytes is) ≡ Some (is, [])
code_reads w is h =
    let p = and_parts (leb (length is) 64) (all_fit w is) h in
    ap (code_in w) (sym (append-nil (counted instruction_bytes is)))
    ∙ list_reads (instruction_in w) instruction_bytes _ (instruction_reads w) 64 is [] p.0 (all_from_all_fit w is p.1)

code_finds : (w : ℕ) (bs : List ℕ) → Bytes bs → Finds (Front (counted instruction_bytes) (λ is. program w is ≡ true) bs) (code_in w bs)
code_finds w bs b =
    IfSome_then (code_in w bs) (list_finds (instruction_in w) instruction_bytes _ (instruction_finds w) 64 bs b)
    (λ p h. (h.0, and_from _ _ h.1.0 (all_fit_from_all w p.0 h.1.1), h.2))

pub decodes_all : DecodesAll
unfolding decoded
decodes_all c h =
    let p = and_parts (key_set c.reads && key_set c.writes) (program (length c.writes) c.code) h in
    let q = and_parts (key_set c.reads) (key_set c.writes) p.0 in
    rw (keys_reads c.reads _ q.0, keys_reads c.writes _ q.1, code_reads (length c.writes) c.code p.1)

pub decodes_only : DecodesOnly
unfolding decoded
decodes_only bs c b e =
    MatchOption-at_some (Unit {0}) (λ d. (valid d ≡ true) × (encoded d ≡ bs)) c e
    (finds_then _ _ (keys_in bs) _ (λ r f.
    finds_then _ _ (keys_in r.1) _ (λ w g.
    finds_then _ _ (code_in (length w.0) w.1) _ (λ i h.
    finds_ended _ _ i.1 (λ z. (
      and_from _ _ (and_from _ _ f.1 g.1) h.1,
      cc (append-nil (counted instruction_bytes i.0)),
    )))
    (code_finds (length w.0) w.1 g.2))
    (keys_finds r.1 f.2))
    (keys_finds bs b))
