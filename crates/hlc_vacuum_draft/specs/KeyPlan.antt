-- The meaning of the plan of a key's column, and of the plans of several columns together.
use Rattle.std.specs.Prelude.{◌≡◌, ◌+◌, ◌++◌, ℕ, Bool, List, None, flat_map, length, map}
use Rattle.std.specs.List.{items_where_true}
use Rattle.hlc_rows.specs.declared.row.Row.{Row}
use Rattle.hlc_witness.specs.{declared.witness.Witness.Witness, Changes.AreChanges, Cost.changes_cost}
use Rattle.hlc_clock.specs.Points.{last_point}
use Rattle.hlc_vacuum_draft.specs.{Vacuumed.IsVacuumOf, Draft.IsDraft, declared.draft.Draft.Draft}
use Rattle.hlc_witness.specs.AllChanges.{key_changes, changes_of}
use Rattle.hlc_table_column.specs.Rows.{KeyCells, rows_in, rows_in_one, keys_in}

-- the points of the key's changes, and a flag for each of its rows: those above the last point are kept, the newest at
-- each change, and no other
pub record IsKeyPlan (rows : List Row) (key points changes : List ℕ) (keep : List Bool) : Type 0 where
  pub at_points : map (λ change. change.at) (key_changes rows key None points) ≡ changes
  pub draft : IsDraft rows (last_point points) (key_changes rows key None points) keep

-- the kept rows are a vacuum of the rows, and these are the points of their changes
pub record IsKeyVacuum (rows : List Row) (points ats : List ℕ) (keep : List Bool) : Type 0 where
  pub changes : List Witness
  pub are : AreChanges rows points changes
  pub at_points : map (λ change. change.at) changes ≡ ats
  pub vacuumed : IsVacuumOf rows points changes (items_where_true keep rows)

-- the changes of some columns, key by key, a flag for each of their rows, and the bytes that the changes force
pub record IsJoined (columns : List KeyCells) (points : List ℕ) (changes : List Witness)
    (keep : List Bool) (bytes : ℕ) : Type 0 where
  pub all_changes : changes ≡ changes_of (rows_in columns) points (keys_in columns)
  pub draft : IsDraft (rows_in columns) (last_point points) changes keep
  pub cost : bytes ≡ changes_cost (rows_in columns) changes

-- the changes of some columns, key by key
abbrev pub own_changes : List ℕ → List KeyCells → List Witness
own_changes points columns = flat_map (λ (one : KeyCells). key_changes (rows_in_one one) one.key None points) columns

-- the draft of some columns: their plans joined, and the number of their changes
pub record IsDraftOf (columns : List KeyCells) (points : List ℕ) (draft : Draft) : Type 0 where
  pub joined : IsJoined columns points (own_changes points columns) draft.keep draft.bytes
  pub changes : draft.changes ≡ length (own_changes points columns)

-- the plan of one more key was added to a number of changes, flags and bytes: all its changes, a flag for each of its
-- rows, and the bytes that its changes force
pub record AddsPlan (rows : List Row) (key points : List ℕ) (changes new : ℕ)
    (flags more : List Bool) (bytes total : ℕ) : Type 0 where
  pub keep : List Bool
  pub news : new ≡ changes + length (key_changes rows key None points)
  pub mores : more ≡ flags ++ keep
  pub cost : total ≡ bytes + changes_cost rows (key_changes rows key None points)
  pub draft : IsDraft rows (last_point points) (key_changes rows key None points) keep
