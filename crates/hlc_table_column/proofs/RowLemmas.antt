-- The rows of columns: a row of a column has the column's key, so a row of some columns has one of their keys. Each is
-- shown by going through the list.
use Rattle.std.proofs.Common.{◌≡◌, ℕ, List, [], ◌∷◌, sym, ap, subst, inl, inr, Contains}
use Rattle.std.proofs.lemmas.List.Elements.{Contains-append_cases}
use Rattle.hlc_values.proofs.MemberLemmas.{Contains-none, Contains-first, Contains-rest, Contains-cons_cases}
use Rattle.hlc_rows.specs.declared.row.Row.{Row}
use Rattle.hlc_table_column.specs.Cells.{Cell}
use Rattle.hlc_table_column.specs.Rows.{row_of, rows_of, KeyCells, rows_in_one, rows_in, keys_in}

-- a row of a column has its key
pub row_key : (key : List ℕ) (cells : List Cell) (row : Row) → Contains (rows_of key cells) row → row.key ≡ key
row_key key [] row i = absurd (Contains-none row i)
row_key key (c ∷ cs) row i = elim (Contains-cons_cases (row_of key c) row (rows_of key cs) i) [
  | inl is ↦ ap (λ (r : Row). r.key) (sym is)
  | inr r ↦ row_key key cs row r
]

-- a row of some columns has one of their keys
pub key_among : (columns : List KeyCells) (row : Row) → Contains (rows_in columns) row
    → Contains (keys_in columns) row.key
key_among [] row i = absurd (Contains-none row i)
key_among (one ∷ columns) row i = elim (Contains-append_cases (rows_in_one one) (rows_in columns) row i) [
  | inl here ↦ subst (Contains (keys_in (one ∷ columns))) (sym (row_key one.key one.cells row here))
      (Contains-first one.key (keys_in columns))
  | inr there ↦ Contains-rest one.key row.key (keys_in columns) (key_among columns row there)
]
