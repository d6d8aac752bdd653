-- The rows that columns represent, once their keys are known.
use Rattle.std.specs.Prelude.{◌≡◌, ℕ, List, Option, Some, None, Contains, slice_get, map, filter, flat_map, nat_le}
use Rattle.std.specs.{Str.bytes_eq, Ordering.nat_cmp, Cmp.Lexicographic.slice_cmp, List.Sorted.IsStrictlySortedBy}
use Rattle.hlc_rows.specs.{declared.row.Row.Row, Rows.newest}
use Rattle.hlc_table_column.specs.Cells.{Cell}

abbrev pub row_of : List ℕ → Cell → Row
row_of key cell = record { key = key; stamp = cell.stamp; node = cell.node; value = cell.value }

abbrev pub rows_of : List ℕ → List Cell → List Row
rows_of key cells = map (row_of key) cells

-- among some rows, those of a key
abbrev pub rows_with : List ℕ → List Row → List Row
rows_with key rows = filter (λ row. bytes_eq row.key key) rows

-- among some rows, those at or below a stamp
abbrev pub rows_to : ℕ → List Row → List Row
rows_to bound rows = filter (λ row. nat_le row.stamp bound) rows

-- the row at a position
abbrev pub at_place : List Row → Option ℕ → Option Row
at_place rows None = None
at_place rows (Some i) = slice_get rows i

-- a column with its key
pub record KeyCells : Type 0 where
  pub key : List ℕ
  pub cells : List Cell

-- the rows of a column with its key
abbrev pub rows_in_one : KeyCells → List Row
rows_in_one one = rows_of one.key one.cells

-- the rows of some columns, one after another
abbrev pub rows_in : List KeyCells → List Row
rows_in columns = flat_map rows_in_one columns

-- the keys of some columns
abbrev pub keys_in : List KeyCells → List (List ℕ)
keys_in columns = map (λ one. one.key) columns

-- the keys ascend byte by byte
abbrev pub KeysAscend : List KeyCells → Type 0
KeysAscend columns = IsStrictlySortedBy (slice_cmp nat_cmp) (keys_in columns)

-- the newest row of each of the keys is that of its column alone
abbrev pub AreAlone : List KeyCells → Type 0
AreAlone columns =
    (one : KeyCells) → Contains columns one → (bound : ℕ)
    → newest (rows_in columns) one.key bound ≡ newest (rows_in_one one) one.key bound
