-- From the parts that were read to the whole order, and from there to what the bytes encode.
use Rattle.std.proofs.Common.{◌≡◌, ℕ, ◌<◌, true, eqb, List, [], ◌∷◌, length, get_or, Some, None, Option, IfNone, sym, refl, ap, arith}
use Rattle.std.proofs.Math.Dec.{eqb-suc-zero}
use Rattle.std.proofs.ByRecursion.{All-from_get_or}
use Rattle.std.proofs.lemmas.List.{length-take}
use Rattle.std.proofs.lemmas.Bool.{le-leb, and_from}
use Rattle.std.specs.Option.{option_map}
use Rattle.std.specs.Bool.{then_some}
use Rattle.orders.specs.Codec.{keys_in, code_in, ended, encoded, decoded}
use Rattle.orders.specs.Contents.{Contents, contents_of, keys_of, key_set, valid}
use Rattle.orders.specs.Valid.{all_fit}
use Rattle.orders.specs.declared.instruction.Instruction.{Instruction}
use Rattle.orders.specs.declared.order.KeySet.{KeySet}
use Rattle.orders.specs.declared.order.Order.{Order}
use Rattle.orders.proofs.Laws.{decodes_all, decodes_only, code_fits}

-- the order after its parts were read
module _ (bs rs bs₁ ws bs₂ : List ℕ) where
  pub decoded_no_reads : keys_in bs ≡ None → decoded bs ≡ None
  unfolding decoded
  decoded_no_reads e = rw e

  pub decoded_no_writes : keys_in bs ≡ Some (rs, bs₁) → keys_in bs₁ ≡ None → decoded bs ≡ None
  unfolding decoded
  decoded_no_writes r e = rw (r, e)

  pub decoded_no_code : keys_in bs ≡ Some (rs, bs₁) → keys_in bs₁ ≡ Some (ws, bs₂) → code_in (length ws) bs₂ ≡ None → decoded bs ≡ None
  unfolding decoded
  decoded_no_code r w e = rw (r, w, e)

  module _ (is : List Instruction) (bs₃ : List ℕ) where
    pub decoded_code : keys_in bs ≡ Some (rs, bs₁) → keys_in bs₁ ≡ Some (ws, bs₂) → code_in (length ws) bs₂ ≡ Some (is, bs₃) → decoded bs ≡ option_map (λ _. record { reads = rs; writes = ws; code = is }) (then_some (eqb (length bs₃) 0) (tt {0}))
    unfolding decoded
    decoded_code r w e = rw (r, w, e) (end bs₃)
      where
        end : (cs : List ℕ) → ended (record { reads = rs; writes = ws; code = is }) cs ≡ option_map (λ _. record { reads = rs; writes = ws; code = is }) (then_some (eqb (length cs) 0) (tt {0}))
        end [] = refl
        end (x ∷ cs) = rw (eqb-suc-zero (length cs))

-- the code that was read, or none, fits
pub fits_read : {X : Type 0} (w : ℕ) (o : Option X) (f : X → List ℕ) (is : List Instruction) (bs : List ℕ) → option_map (λ rest. (is, f rest)) o ≡ code_in w bs → IfNone o (is ≡ []) → all_fit w is ≡ true
fits_read w None f is bs e none = ap (all_fit w) none
fits_read w (Some x) f is bs e none = code_fits w bs is (f x) (sym e)

-- a value of the type is valid
valid_keys : (s : KeySet) → key_set (keys_of s) ≡ true
valid_keys s = let f = s.keys.few in and_from _ _ (le-leb _ 16 (simp length-take (omega arith))) s.rises

pub valid_order : (o : Order) → valid (contents_of o) ≡ true
valid_order o =
    let f = o.code.few in
    and_from _ _ (and_from _ _ (valid_keys o.reads) (valid_keys o.writes)) (and_from _ _ (le-leb _ 64 (simp length-take (omega arith))) o.fits)

pub no_order : (bs : List ℕ) → decoded bs ≡ None → (o : Order) → encoded (contents_of o) ≡ bs → ⊥
no_order bs none o e = let found : decoded (encoded (contents_of o)) ≡ Some (contents_of o) = decodes_all (contents_of o) (valid_order o) in cc

pub found_encoded : (bs : List ℕ) → ((i : ℕ) → get_or bs i 0 < 256) → (c : Contents) → decoded bs ≡ Some c → encoded c ≡ bs
found_encoded bs byte c found = (decodes_only bs c (All-from_get_or (λ b. b < 256) bs 0 (λ i _. byte i)) found).1
