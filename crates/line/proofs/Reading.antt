-- From what the code reads and writes at one end of the bytes to their orders.
use Rattle.std.proofs.Common.{◌≡◌, ℕ, ◌+◌, ◌-◌, ◌*◌, ◌/◌, ◌%◌, ◌<◌, ◌≤◌, List, [], ◌∷◌, ◌++◌, length, get_or, take, drop, sym, ap, ◌∙◌, subst, arith}
use Rattle.std.proofs.lemmas.List.{take_rest, drop-drop, length-take, length-drop, append_assoc, append-nil}
use Rattle.orders.specs.Codec.{two}
use Rattle.orders.proofs.Encode.{two_bytes}
use Rattle.line.specs.Frames.{frames, framed, Whole}
use Rattle.line.proofs.Framing.{frames_at, frames_append, frames_first, frames_short, whole_append}

-- an order cut off the front, as `split_at` behind a pattern of two bytes gives it
module _ (bs order rest : List ℕ) (n : ℕ) (long : 2 ≤ length bs) (is : n ≡ get_or bs 0 0 * 256 + get_or bs 1 0) (fits : n + 2 ≤ length bs)
    (front : order ≡ take n (take (length bs - 2) (drop 2 bs))) (back : rest ≡ drop n (take (length bs - 2) (drop 2 bs))) where
  order_is : order ≡ take n (drop 2 bs)
  order_is = front ∙ ap (take n) (take_rest bs 2)

  order_long : length order ≡ n
  order_long = ap length order_is ∙ simp (length-take, length-drop) (omega arith)

  rest_is : rest ≡ drop (n + 2) bs
  rest_is = back ∙ ap (drop n) (take_rest bs 2) ∙ drop-drop n 2 bs ∙ ap (λ m. drop m bs) (omega arith)

  pub next_order : (frames bs ≡ order ∷ frames rest) × (rest ≡ drop (length order + 2) bs)
  next_order = (
    frames_at bs n long is fits ∙ ap (λ o. o ∷ frames (drop (n + 2) bs)) (sym order_is) ∙ ap (λ r. order ∷ frames r) (sym rest_is),
    rest_is ∙ ap (λ m. drop (m + 2) bs) (sym order_long),
  )

pub frames_one : (o : List ℕ) → frames (framed o) ≡ o ∷ []
frames_one o =
    ap frames (sym (append-nil (framed o))) ∙ frames_first o [] ∙ ap (λ os. o ∷ os) (frames_short [] (omega arith))

-- an order behind whole ones: the bytes, their orders, and that these are whole again
pub record Appended (bs o end : List ℕ) : Type 0 where
  pub bytes : end ≡ bs ++ framed o
  pub orders : frames end ≡ frames bs ++ o ∷ []
  pub whole : Whole end

-- first its length was written, and then it
pub appended : (bs header mid end o : List ℕ) → length o < 65536 → Whole bs → header ≡ (length o / 256 % 256) ∷ (length o % 256) ∷ [] → mid ≡ bs ++ header → end ≡ mid ++ o → Appended bs o end
appended bs header mid end o size whole head first then =
    let is : end ≡ bs ++ framed o =
    then ∙ ap (λ x. x ++ o) (first ∙ ap (λ h. bs ++ h) (two_bytes (length o) header size head)) ∙ append_assoc bs (two (length o)) o in
    record {
      bytes = is;
      orders = ap frames is ∙ frames_append bs (framed o) whole ∙ ap (λ os. frames bs ++ os) (frames_one o);
      whole = subst Whole (sym is) (whole_append bs o whole);
    }
