-- The rows that a vacuum keeps.
use Rattle.std.specs.Prelude.{◌≡◌, ℕ, ◌<◌, ◌⊎◌, List, Some, length, Contains}
use Rattle.hlc_rows.specs.{declared.row.Row.Row, Rows.newest, Rows.IsRowSet}
use Rattle.hlc_witness.specs.{declared.witness.Witness.Witness, Fewest.Alike, Changes.AreChanges}
use Rattle.hlc_clock.specs.Points.{last_point}
pub use Rattle.hlc_table_column.specs.Rows.{rows_to}

-- The kept rows are among these rows and are a row set, with all rows above the last point. They answer alike at the
-- points, and at or below the last point they are as many as the changes.
pub record IsVacuumOf (rows : List Row) (points : List ℕ) (changes : List Witness) (kept : List Row) : Type 0 where
  pub listed : AreChanges rows points changes
  pub row_set : IsRowSet kept
  pub within : (row : Row) → Contains kept row → Contains rows row
  pub above : (row : Row) → Contains rows row → last_point points < row.stamp → Contains kept row
  pub alike : Alike kept rows points
  pub count : length (rows_to (last_point points) kept) ≡ length changes

-- The kept rows are among these rows and are a row set: each row above the last point, the newest at each change, and
-- no other.
pub record KeepsNewest (rows : List Row) (points : List ℕ) (changes : List Witness) (kept : List Row) : Type 0 where
  pub row_set : IsRowSet kept
  pub within : (row : Row) → Contains kept row → Contains rows row
  pub above : (row : Row) → Contains rows row → last_point points < row.stamp → Contains kept row
  pub serves : (change : Witness) (row : Row) → Contains changes change → newest rows change.key change.at ≡ Some row
      → Contains kept row
  pub needed : (row : Row) → Contains kept row → (last_point points < row.stamp)
      ⊎ ((change : Witness) × Contains changes change × (newest rows change.key change.at ≡ Some row))
