-- The plans of the columns so far were added, and their changes.
use Rattle.std.proofs.Common.{take}
use Rattle.hlc_vacuum_draft.specs.KeyPlan.{own_changes}
use Rattle.hlc_vacuum.specs.Leaves.{JoinsMore}
use Rattle.hlc_vacuum.proofs.planner.add_leaf.Given as goal

abbrev pub invariant-loop-place : goal.invariant-loop-place
invariant-loop-place g l = record {
  draft : JoinsMore l.points (take l.place l.leaf) l.fn.draft l.draft;
  changes : g.C.Changes.adds l.fn.changes (own_changes l.points (take l.place l.leaf)) l.changes;
}
