-- Stored rows that represent all accepted ones, whatever vacuums dropped.
use Rattle.std.specs.Prelude.{◌≡◌, ℕ, ◌+◌, ◌<◌, ◌≤◌, ◌&&◌, Bool, List, length, Contains, filter, nat_lt, nat_le}
use Rattle.std.specs.List.{items_where_true}
use Rattle.hlc_rows.specs.{declared.row.Row.Row, Rows.answer, Rows.IsRowSet}
use Rattle.hlc_witness.specs.{declared.witness.Witness.Witness, Fewest.Fewest, Changes.AreChanges}
use Rattle.hlc_vacuum_draft.specs.Vacuumed.{rows_to}

-- the new rows are the old ones at the places of some flags that are set, in the same order: none is added
abbrev pub IsWithin : List Row → List Row → Type 0
IsWithin old new = (keep : List Bool) × (new ≡ items_where_true keep old)

-- The stored rows are among all, each row above the horizon is stored, and the answers are the same at each open stamp
-- and at each stamp from the horizon on.
pub record RowsRepresent (stored all : List Row) (horizon : ℕ) (opened : List ℕ) : Type 0 where
  pub row_set : IsRowSet stored
  pub all_row_set : IsRowSet all
  pub within : (row : Row) → Contains stored row → Contains all row
  pub above : (row : Row) → Contains all row → horizon < row.stamp → Contains stored row
  pub at_open : (key : List ℕ) (stamp : ℕ) → Contains opened stamp → answer stored key stamp ≡ answer all key stamp
  pub from_horizon : (key : List ℕ) (stamp : ℕ) → horizon ≤ stamp → answer stored key stamp ≡ answer all key stamp

-- the number of rows above a stamp
abbrev pub count_above : ℕ → List Row → ℕ
count_above bound rows = length (filter (λ row. nat_lt bound row.stamp) rows)

-- the number of rows above one stamp and at or below the other
abbrev pub count_between : ℕ → ℕ → List Row → ℕ
count_between low high rows = length (filter (λ row. nat_lt low row.stamp && nat_le row.stamp high) rows)

-- Just after a vacuum at the floor: the rows represent all, with the floor as the horizon, and those at or below it are
-- the fewest against all, as many as the changes of all.
pub record RepresentsAfterVacuum (stored all : List Row) (floor : ℕ) (opened points : List ℕ)
    (changes : List Witness) : Type 0 where
  pub represents : RowsRepresent stored all floor opened
  pub listed : AreChanges all points changes
  pub count : length (rows_to floor stored) ≡ length changes
  pub fewest : Fewest (rows_to floor stored) all points
  pub stored_count : length stored ≡ length changes + count_above floor all
