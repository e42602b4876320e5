-- The rows of a block: what a push and an overwrite leave, and where a row lies.
use Rattle.std.proofs.Common.{◌≡◌, ℕ, ◌+◌, ◌-◌, ◌<◌, ◌≤◌, true, List, [], ◌∷◌, ◌++◌, length, get_or, take, drop, set, vec_items, vec_len, Vec, sym, ap, ◌∙◌, subst, arith}
use Rattle.std.specs.declared.alloc.Global.{Global}
use Rattle.std.proofs.lemmas.List.{get_or_past, length-append, length-drop, length-take, set_past, set-get_or}
use Rattle.rows.specs.Ends.{rising, parted}
use Rattle.rows.specs.Lists.{rows_of}
use Rattle.rows.specs.declared.table.Rows.{Rows}
use Rattle.rows.proofs.Parted.{length_parted, get_or_parted, start_before_end, end_within, rising_push, parted_push, parted_set}

module _ {T : Type 0} (r : Rows T) where
  rises : rising 0 (vec_items r.ends) (length (vec_items r.items)) ≡ true
  rises = subst (λ n. rising 0 (vec_items r.ends) n ≡ true) r.items.ok.0 r.held

  pub length_rows : vec_len r.ends ≡ length (rows_of r)
  length_rows = r.ends.ok.0 ∙ sym (length_parted 0 (vec_items r.ends) (vec_items r.items))

  -- a row more: the block and the ends after it
  module _ (items : Vec T Global) (ends : Vec ℕ Global) (row : List T) (block : vec_items items ≡ vec_items r.items ++ row) (last : vec_items ends ≡ vec_items r.ends ++ vec_len items ∷ []) where
    longer : length (vec_items r.items) ≤ vec_len items
    longer = omega (arith, items.ok.0, simp length-append at (ap length block))

    pub pushed_rises : rising 0 (vec_items ends) (vec_len items) ≡ true
    pushed_rises =
        subst (λ es. rising 0 es (vec_len items) ≡ true) (sym last)
        (rising_push 0 (vec_items r.ends) (length (vec_items r.items)) (vec_len items) rises longer)

    pub pushed_rows : parted 0 (vec_items ends) (vec_items items) ≡ rows_of r ++ row ∷ []
    pushed_rows =
        let count : vec_len items ≡ length (vec_items r.items ++ row) = items.ok.0 ∙ ap length block in
        let more = parted_push 0 (vec_items r.ends) (vec_items r.items) row rises in
        cc

  pub no_row : (i : ℕ) → vec_len r.ends ≤ i → get_or (rows_of r) i [] ≡ []
  no_row i past = get_or_past (rows_of r) i [] (omega (arith, length_rows))

  pub no_row_set : (i : ℕ) (row : List T) → vec_len r.ends ≤ i → set (rows_of r) i row ≡ rows_of r
  no_row_set i row past = set_past (rows_of r) i row (omega (arith, length_rows))

  -- the row at i, from its start up to its end
  module _ {i start end : ℕ} (within : i < vec_len r.ends) (from : start ≡ get_or (0 ∷ vec_items r.ends) i 0) (till : end ≡ get_or (vec_items r.ends) i 0) where
    inside : i < length (vec_items r.ends)
    inside = omega (arith, r.ends.ok.0)

    pub row_bounds : (start ≤ end) × (end ≤ vec_len r.items)
    row_bounds = (
      omega (arith, from, till, start_before_end 0 (vec_items r.ends) (length (vec_items r.items)) i rises inside),
      omega (arith, till, r.items.ok.0, end_within 0 (vec_items r.ends) (length (vec_items r.items)) i rises inside),
    )

    pub row_is : get_or (rows_of r) i [] ≡ take (end - start) (drop start (vec_items r.items))
    row_is =
        let row = get_or_parted 0 (vec_items r.ends) (vec_items r.items) i inside in
        cc

    pub rows_set : (at : ℕ) (item : T) → at < end - start →
        parted 0 (vec_items r.ends) (set (vec_items r.items) (start + at) item) ≡ set (rows_of r) i (set (get_or (rows_of r) i []) at item)
    rows_set at item in_row =
        let near : at < get_or (vec_items r.ends) i 0 - get_or (0 ∷ vec_items r.ends) i 0 = omega (arith, from, till) in
        let change = parted_set 0 (vec_items r.ends) (vec_items r.items) (length (vec_items r.items)) i at item rises inside near in
        cc

    pub rows_set_past : (at : ℕ) (item : T) → end - start ≤ at → set (rows_of r) i (set (get_or (rows_of r) i []) at item) ≡ rows_of r
    rows_set_past at item past =
        ap (set (rows_of r) i) (set_past (get_or (rows_of r) i []) at item (rw row_is (simp (length-take, length-drop) (omega arith))))
        ∙ set-get_or (rows_of r) i []
