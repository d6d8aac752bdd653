-- The progress of the plan of a key, point by point.
use Rattle.std.proofs.Common.{◌≡◌, ◌+◌, ◌++◌, drop, ℕ, Bool, zero, suc, List, Option, None, Some, map, slice_index}
use Rattle.std.proofs.Common.{length}
use Rattle.hlc_rows.specs.declared.row.Row.{Row}
use Rattle.hlc_witness.specs.{declared.witness.Witness.Witness, AllChanges.key_changes, Cost.changes_cost}
use Rattle.hlc_clock.specs.Points.{last_point}
use Rattle.hlc_vacuum_draft.specs.Draft.{IsDraft}

-- the point before the one at a position
abbrev pub point_before : List ℕ → ℕ → Option ℕ
point_before points zero = None
point_before points (suc i) = Some (slice_index points i)

-- the changes at the first points, and flags that match them
pub record PlanSoFar (rows : List Row) (key points : List ℕ) (i : ℕ) (found : List Witness)
    (keep : List Bool) : Type 0 where
  pub rest : found ++ key_changes rows key (point_before points i) (drop i points) ≡ key_changes rows key None points
  pub draft : IsDraft rows (last_point points) found keep

-- the same with the points of those changes
pub record KeyPlanSoFar (rows : List Row) (key points : List ℕ) (i : ℕ) (changes : List ℕ)
    (keep : List Bool) : Type 0 where
  pub found : List Witness
  pub at_points : map (λ change. change.at) found ≡ changes
  pub so : PlanSoFar rows key points i found keep

-- the same after a number of other changes and other flags, with the bytes that the changes force added to other bytes
pub record AddedSoFar (rows : List Row) (key points : List ℕ) (i : ℕ) (found : List Witness) (changes new : ℕ)
    (flags more : List Bool) (bytes total : ℕ) : Type 0 where
  pub keep : List Bool
  pub news : new ≡ changes + length found
  pub mores : more ≡ flags ++ keep
  pub cost : total ≡ bytes + changes_cost rows found
  pub so : PlanSoFar rows key points i found keep
