-- The content of a plan, and the rows that it was made of.
use Rattle.std.specs.{Prelude.◌≡◌, Prelude.ℕ, Prelude.List, Prelude.Bool, Prelude.length, List.items_where_true}
use Rattle.hlc_rows.specs.declared.row.Row.{Row}
use Rattle.hlc_clock.specs.Points.{PointsAscend, last_point}
use Rattle.hlc_vacuum_draft.specs.Vacuumed.{IsVacuumOf, rows_to}
use Rattle.hlc_witness.specs.{Cost.rows_cost, declared.witness.Witness.Witness}

-- for each row in turn whether it is kept; the points; the changes that require the rows kept at or below the last
-- point; and the cost of those rows in bytes
pub record PlanView : Type 0 where
  pub keep : List Bool
  pub points : List ℕ
  pub witnesses : List Witness
  pub bytes : ℕ

-- The plan was made of these rows: it has a flag for each, the rows that it keeps are a vacuum of them at its points,
-- and it has the cost of the rows kept at or below the last point.
pub record IsPlanOf (plan : PlanView) (rows : List Row) : Type 0 where
  pub each : length plan.keep ≡ length rows
  pub ascend : PointsAscend plan.points
  pub vacuumed : IsVacuumOf rows plan.points plan.witnesses (items_where_true plan.keep rows)
  pub cost : plan.bytes ≡ rows_cost (rows_to (last_point plan.points) (items_where_true plan.keep rows))

-- the same with the number of changes in place of the changes
pub record TallyView : Type 0 where
  pub keep : List Bool
  pub points : List ℕ
  pub kept : ℕ
  pub bytes : ℕ

-- what a tally has of a plan
abbrev pub tally_of : PlanView → TallyView
tally_of plan = record {
  keep = plan.keep;
  points = plan.points;
  kept = length plan.witnesses;
  bytes = plan.bytes;
}

-- the tally has what such a plan of these rows has
pub record IsTallyOf (tally : TallyView) (rows : List Row) : Type 0 where
  pub plan : PlanView
  pub made : IsPlanOf plan rows
  pub is : tally ≡ tally_of plan
