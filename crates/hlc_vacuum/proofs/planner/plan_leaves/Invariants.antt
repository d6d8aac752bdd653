-- The plans of the columns of the leaves so far, joined, and their changes.
use Rattle.std.proofs.Common.{take}
use Rattle.hlc_columns.specs.Table.{columns_in}
use Rattle.hlc_vacuum_draft.specs.KeyPlan.{IsDraftOf, own_changes}
use Rattle.hlc_vacuum.proofs.planner.plan_leaves.Given as goal

abbrev pub invariant-loop-leaf : goal.invariant-loop-leaf
invariant-loop-leaf g l = record {
  draft : IsDraftOf (columns_in (take l.leaf-index l.leaves)) l.points l.draft;
  changes : g.C.Changes.adds l.fn.changes (own_changes l.points (columns_in (take l.leaf-index l.leaves))) l.changes;
}
