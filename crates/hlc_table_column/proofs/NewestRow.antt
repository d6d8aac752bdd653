-- The newest of all positions is the newest row, since it is the first of those that come before no other.
use Rattle.std.proofs.Common.{◌≡◌, ℕ, ◌<◌, ◌≤◌, List, Option, Some, None, length, IfSome, get_or, refl, sym, subst}
use Rattle.std.proofs.Common.{arith}
use Rattle.std.proofs.lemmas.List.{get_or_default}
use Rattle.hlc_rows.specs.Rows.{newest}
use Rattle.hlc_table_order.specs.Newest.{IsNewestBelow}
use Rattle.hlc_table_column.specs.{Cells.Cell, Cells.cells_of, Cells.AreBeside, Rows.rows_of, Rows.at_place}
use Rattle.hlc_table_column.proofs.Beside.{newest_found, newest_missing}

-- the best of all rows is the newest
pub best_is_newest : (ss ns : List ℕ) (vs : List (Option (List ℕ))) (bound : ℕ) (place : Option ℕ) → AreBeside ss ns vs
    → IsNewestBelow ss ns bound (length ss) place → IfSome place (λ i. i < length (cells_of ss ns vs)) × ((key : List ℕ)
    → at_place (rows_of key (cells_of ss ns vs)) place ≡ newest (rows_of key (cells_of ss ns vs)) key bound)
best_is_newest ss ns vs bound None b above = (
  tt,
  λ key. sym
      (newest_missing ss ns vs bound (λ j d lt. subst (λ s. bound < s) (get_or_default ss j 0 d lt) (above j lt)) key),
)
best_is_newest ss ns vs bound (Some i) b (inside, within, top) =
    newest_found ss ns vs bound (get_or ss i 0) (get_or ns i 0) i b (
      (i, inside, sym (get_or_default ss i 0 (get_or ss i 0) inside)),
      within,
      λ j d lt seen. let e = get_or_default ss j 0 d lt in
          subst (λ s. s ≤ get_or ss i 0) e (top j lt (subst (λ s. s ≤ bound) (sym e) seen)).0,
    )
    ((i, inside, refl, refl), λ j lt same. (top j lt (subst (λ s. s ≤ bound) (sym same) within)).1 same) (
      omega arith,
      inside,
      refl,
      refl,
      λ k from below same alike.
          omega (arith, (top k (omega (arith, below, inside)) (subst (λ s. s ≤ bound) (sym same) within)).2 same alike),
    )

-- the same, of cells that are those of the lists, at a bound that is the given one
pub placed : (cells : List Cell) (ss ns : List ℕ) (vs : List (Option (List ℕ))) (b bound : ℕ) (place : Option ℕ)
    → AreBeside ss ns vs → cells_of ss ns vs ≡ cells → b ≡ bound → IsNewestBelow ss ns b (length ss) place
    → IfSome place (λ i. i < length cells)
    × ((key : List ℕ) → at_place (rows_of key cells) place ≡ newest (rows_of key cells) key bound)
placed cells ss ns vs b bound place beside are is h =
    subst (λ (cs : List Cell). IfSome place (λ i. i < length cs)
    × ((key : List ℕ) → at_place (rows_of key cs) place ≡ newest (rows_of key cs) key bound)) are
    (best_is_newest ss ns vs bound place beside (subst (λ b. IsNewestBelow ss ns b (length ss) place) is h))
