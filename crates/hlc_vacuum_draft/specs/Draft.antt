-- Which rows are kept for the changes found so far.
use Rattle.std.specs.Prelude.{◌≡◌, ◌<◌, ◌⊎◌, ℕ, Bool, true, false, List, Some, length, Contains, slice_get}
use Rattle.std.specs.Prelude.{slice_index_or}
use Rattle.hlc_rows.specs.{declared.row.Row.Row, Rows.newest}
use Rattle.hlc_witness.specs.declared.witness.Witness.{Witness}

-- There is a flag for each row. It is set for each row above the bound, for the newest row at each change, and for no
-- other.
pub record IsDraft (rows : List Row) (bound : ℕ) (changes : List Witness) (keep : List Bool) : Type 0 where
  pub each : length keep ≡ length rows
  pub above : (place : ℕ) (row : Row) → slice_get rows place ≡ Some row → bound < row.stamp
      → slice_index_or keep place false ≡ true
  pub serves : (change : Witness) (row : Row) → Contains changes change → newest rows change.key change.at ≡ Some row
      → (place : ℕ) × (slice_get rows place ≡ Some row) × (slice_index_or keep place false ≡ true)
  pub needed : (place : ℕ) (row : Row) → slice_get rows place ≡ Some row
      → slice_index_or keep place false ≡ true → (bound < row.stamp)
      ⊎ ((change : Witness) × Contains changes change × (newest rows change.key change.at ≡ Some row))
