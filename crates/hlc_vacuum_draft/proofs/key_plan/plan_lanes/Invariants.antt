-- The flags and the points of the changes so far are right for every key, and the answer at the point before is known.
use Rattle.std.proofs.Common.{◌≡◌, ℕ, List, length, option_copied}
use Rattle.hlc_witness.specs.Changes.{answer_at}
use Rattle.hlc_table_column.specs.Rows.{rows_of}
use Rattle.hlc_vacuum_draft.proofs.SoFar.{point_before, KeyPlanSoFar}
use Rattle.hlc_vacuum_draft.proofs.key_plan.plan_lanes.Given as goal

abbrev pub invariant-loop-point : goal.invariant-loop-point
invariant-loop-point l = record {
  long : length l.keep.items ≡ length l.lanes;
  value_here : (key : List ℕ)
      → option_copied l.value_before ≡ answer_at (rows_of key l.lanes) key (point_before l.points l.point-index);
  plan : (key : List ℕ) → KeyPlanSoFar (rows_of key l.lanes) key l.points l.point-index l.changes.items l.keep.items;
}
