-- The sizes of a table.
use Rattle.std.specs.Prelude.{◌≡◌, ◌↔◌, ℕ, List, length, sum_by, filter, nat_lt, Contains}
use Rattle.std.specs.{List.Sorted.IsStrictlySortedBy, Ordering.nat_cmp, Cmp.Lexicographic.slice_cmp}
use Rattle.hlc_table_index.specs.Entries.{entries_in}
use Rattle.hlc_rows.specs.declared.row.Row.{Row}
use Rattle.hlc_table_column.specs.Cells.{Cell, value_bytes, cell_bytes}
pub use Rattle.hlc_table_sizes.specs.declared.sizes.Sizes.{Sizes}
pub use Rattle.hlc_table_sizes.specs.Sizes.{no_sizes, plus, minus, with_row, with_key, Fit, IsPart}

-- the bytes of the value of a row
abbrev pub row_bytes : Row → ℕ
row_bytes row = value_bytes row.value

-- the keys of some rows, each once
pub record AreKeys (rows : List Row) (keys : List (List ℕ)) : Type 0 where
  pub ascend : IsStrictlySortedBy (slice_cmp nat_cmp) keys
  pub exact : (key : List ℕ) → Contains keys key ↔ ((row : Row) × Contains rows row × (row.key ≡ key))

-- the number of rows, that of their keys, the bytes of the keys, each counted once, and those of the values of all rows
pub record AreSizes (rows : List Row) (sizes : Sizes) : Type 0 where
  pub keys : List (List ℕ)
  pub are : AreKeys rows keys
  pub row_count : sizes.rows ≡ length rows
  pub key_count : sizes.keys ≡ length keys
  pub key_bytes : sizes.key_bytes ≡ sum_by length keys
  pub value_bytes : sizes.value_bytes ≡ sum_by row_bytes rows

-- the same of columns with their keys
abbrev pub sizes_of : List (List ℕ × List Cell) → Sizes
sizes_of entries = record {
  rows = sum_by (λ e. length e.1) entries;
  keys = length entries;
  key_bytes = sum_by (λ e. length e.0) entries;
  value_bytes = sum_by (λ e. sum_by cell_bytes e.1) entries;
}

-- the sizes of the columns that have rows
abbrev pub filled_sizes : List (List (List ℕ × List Cell)) → Sizes
filled_sizes leaves = sizes_of (filter (λ e. nat_lt 0 (length e.1)) (entries_in leaves))
