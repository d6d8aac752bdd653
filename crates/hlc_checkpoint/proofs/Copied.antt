-- Copies of the rows on a side of a stamp, position by position, column by column and leaf by leaf.
use Rattle.std.proofs.Common.{◌≡◌, ℕ, ◌+◌, ◌<◌, List, [], ◌∷◌, ◌++◌, Some, length, take, get_or, sym, ap, ◌∙◌, leb, ltb}
use Rattle.std.proofs.Common.{Bool, true, false, filter, refl, slice_get, append_assoc, cond, map, zero, suc, inl, inr}
use Rattle.std.proofs.Common.{arith, append-nil}
use Rattle.std.proofs.lemmas.{List.take_more, List.length-map, List.Elements.filter-append, Grind.flat_map-append}
use Rattle.std.proofs.lemmas.Option.{slice_get_within, get_or_from_slice_get, slice_get_cases, same_Some}
use Rattle.hlc_rows.specs.declared.row.Row.{Row}
use Rattle.hlc_table_column.specs.{Cells.Cell, Rows.KeyCells, Rows.row_of, Rows.rows_of, Rows.rows_in_one, Rows.rows_in}
use Rattle.hlc_columns.specs.Table.{columns_in}
use Rattle.hlc_checkpoint.specs.declared.sorted.Side.{Side, TheVariants.All, TheVariants.UpTo, TheVariants.Above}
use Rattle.hlc_checkpoint.specs.Sorted.{is_on, rows_on}

pub row_more : (rows : List Row) (i : ℕ) (row : Row) → slice_get rows i ≡ Some row
    → take (i + 1) rows ≡ take i rows ++ row ∷ []
row_more rows i row at = take_more rows i row (slice_get_within rows i row at)
    ∙ ap (λ r. take i rows ++ r ∷ []) (get_or_from_slice_get rows i row row at)

-- the rows whose stamps are on the side
abbrev rows_where : (ℕ → Bool) → List Row → List Row
rows_where p rows = filter (λ (row : Row). p row.stamp) rows

-- they are the rows on that side
rows-where : (side : Side) (rows : List Row) → rows_on side rows ≡ rows_where (is_on side) rows
rows-where All [] = refl
rows-where All (row ∷ rows) = ap (λ xs. row ∷ xs) (rows-where All rows)
rows-where (UpTo bound) rows = refl
rows-where (Above bound) rows = refl

-- one more position, whose row is on the side
place_on : (p : ℕ → Bool) (rows : List Row) (i : ℕ) (row : Row) (old now new : List Row)
    → slice_get rows i ≡ Some row → p row.stamp ≡ true → now ≡ old ++ rows_where p (take i rows)
    → new ≡ now ++ row ∷ [] → new ≡ old ++ rows_where p (take (i + 1) rows)
place_on p rows i row old now new at is_on returned is =
    is ∙ ap (λ xs. xs ++ row ∷ []) returned
    ∙ append_assoc old (rows_where p (take i rows)) (row ∷ [])
    ∙ ap (λ xs. old ++ xs) (
    ap (λ b. rows_where p (take i rows) ++ cond b (row ∷ []) []) (sym is_on)
    ∙ sym (filter-append (λ (r : Row). p r.stamp) (take i rows) (row ∷ []))
    ∙ ap (rows_where p) (sym (row_more rows i row at)))

-- one more position, whose row is not
place_past : (p : ℕ → Bool) (rows : List Row) (i : ℕ) (row : Row) (old now : List Row)
    → slice_get rows i ≡ Some row → p row.stamp ≡ false → now ≡ old ++ rows_where p (take i rows)
    → now ≡ old ++ rows_where p (take (i + 1) rows)
place_past p rows i row old now at is_off returned =
    returned
    ∙ ap (λ xs. old ++ xs) (sym (append-nil (rows_where p (take i rows)))
    ∙ ap (λ b. rows_where p (take i rows) ++ cond b (row ∷ []) []) (sym is_off)
    ∙ sym (filter-append (λ (r : Row). p r.stamp) (take i rows) (row ∷ []))
    ∙ ap (rows_where p) (sym (row_more rows i row at)))

-- the row at a position has the stamp at that position
stamp_at : (key : List ℕ) (cells : List Cell) (i d : ℕ) (row : Row) → slice_get (rows_of key cells) i ≡ Some row
    → get_or (map (λ (cell : Cell). cell.stamp) cells) i d ≡ row.stamp
stamp_at key [] i d row at = absurd (omega (arith, slice_get_within (rows_of key []) i row at))
stamp_at key (cell ∷ cells) zero d row at = ap (λ (r : Row). r.stamp) (same_Some (row_of key cell) row at)
stamp_at key (cell ∷ cells) (suc i) d row at = stamp_at key cells i d row at

-- the same, from the cells
pub kept_on : (side : Side) (key : List ℕ) (cells : List Cell) (i d : ℕ) (row : Row)
    (old now new : List Row)
    → slice_get (rows_of key cells) i ≡ Some row
    → is_on side (get_or (map (λ (cell : Cell). cell.stamp) cells) i d) ≡ true
    → now ≡ old ++ rows_on side (take i (rows_of key cells)) → new ≡ now ++ row ∷ []
    → new ≡ old ++ rows_on side (take (i + 1) (rows_of key cells))
kept_on side key cells i d row old now new at on returned is =
    place_on (is_on side) (rows_of key cells) i row old now new at
    (ap (is_on side) (sym (stamp_at key cells i d row at)) ∙ on)
    (returned ∙ ap (λ xs. old ++ xs) (rows-where side (take i (rows_of key cells)))) is
    ∙ ap (λ xs. old ++ xs) (sym (rows-where side (take (i + 1) (rows_of key cells))))

pub passed_on : (side : Side) (key : List ℕ) (cells : List Cell) (i d : ℕ) (old now : List Row)
    → i < length cells
    → is_on side (get_or (map (λ (cell : Cell). cell.stamp) cells) i d) ≡ false
    → now ≡ old ++ rows_on side (take i (rows_of key cells))
    → now ≡ old ++ rows_on side (take (i + 1) (rows_of key cells))
passed_on side key cells i d old now lt off returned =
    elim (slice_get_cases (rows_of key cells) i).1 [
      | inl x ↦
          place_past (is_on side) (rows_of key cells) i x.0 old now x.2
          (ap (is_on side) (sym (stamp_at key cells i d x.0 x.2)) ∙ off)
          (returned ∙ ap (λ xs. old ++ xs) (rows-where side (take i (rows_of key cells))))
          ∙ ap (λ xs. old ++ xs) (sym (rows-where side (take (i + 1) (rows_of key cells))))
      | inr past ↦ absurd (omega (arith, past.0, length-map cells (row_of key)))
    ]

rows_on-append : (side : Side) (rows more : List Row)
    → rows_on side (rows ++ more) ≡ rows_on side rows ++ rows_on side more
rows_on-append All rows more = refl
rows_on-append (UpTo bound) rows more = filter-append (λ (r : Row). leb r.stamp bound) rows more
rows_on-append (Above bound) rows more = filter-append (λ (r : Row). ltb bound r.stamp) rows more

-- one more column of a leaf is copied
pub column_on : (side : Side) (leaf : List KeyCells) (i : ℕ) (one : KeyCells) (old now new : List Row)
    → slice_get leaf i ≡ Some one → now ≡ old ++ rows_on side (rows_in (take i leaf))
    → new ≡ now ++ rows_on side (rows_in_one one)
    → new ≡ old ++ rows_on side (rows_in (take (i + 1) leaf))
column_on side leaf i one old now new at returned step =
    step ∙ ap (λ xs. xs ++ rows_on side (rows_in_one one)) returned
    ∙ append_assoc old (rows_on side (rows_in (take i leaf))) (rows_on side (rows_in_one one))
    ∙ ap (λ xs. old ++ xs) (sym (rows_on-append side (rows_in (take i leaf)) (rows_in_one one))
    ∙ ap (rows_on side) (ap (λ xs. rows_in (take i leaf) ++ xs) (sym (append-nil (rows_in_one one)))
    ∙ sym (flat_map-append rows_in_one (take i leaf) (one ∷ []))
    ∙ ap rows_in (sym (take_more leaf i one (slice_get_within leaf i one at)
    ∙ ap (λ x. take i leaf ++ x ∷ []) (get_or_from_slice_get leaf i one one at)))))

-- one more leaf is copied
pub leaf_on : (side : Side) (leaves : List (List KeyCells)) (i : ℕ) (leaf : List KeyCells) (now new : List Row)
    → i < length leaves → leaf ≡ get_or leaves i leaf → now ≡ rows_on side (rows_in (columns_in (take i leaves)))
    → new ≡ now ++ rows_on side (rows_in leaf)
    → new ≡ rows_on side (rows_in (columns_in (take (i + 1) leaves)))
leaf_on side leaves i leaf now new lt is returned step =
    let before = columns_in (take i leaves) in
    step ∙ ap (λ xs. xs ++ rows_on side (rows_in leaf)) returned
    ∙ sym (rows_on-append side (rows_in before) (rows_in leaf))
    ∙ ap (rows_on side) (sym (flat_map-append rows_in_one before leaf)
    ∙ ap rows_in (ap (λ xs. before ++ xs) (sym (append-nil leaf))
    ∙ sym (flat_map-append (λ columns. columns) (take i leaves) (leaf ∷ []))
    ∙ ap columns_in (sym (take_more leaves i leaf lt ∙ ap (λ x. take i leaves ++ x ∷ []) (sym is)))))
