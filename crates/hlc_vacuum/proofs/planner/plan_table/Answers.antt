-- The plan is of the columns of all leaves, which have the rows of the table.
use Rattle.std.proofs.{Common.subst, lemmas.Result.IfOk-weaker}
use Rattle.hlc_columns.specs.Table.{columns_in}
use Rattle.hlc_vacuum_draft.specs.Plan.{IsPlanOf}
use Rattle.hlc_vacuum.{specs.Leaves.IsPieceOf, proofs.Planned.piece_plans}
use Rattle.hlc_vacuum.proofs.planner.plan_table.Goals as goal

pub returns-clause-made : goal.returns-clause-made
returns-clause-made c =
    let leaves = c.in_ok-leaves.ensures in
    let piece = c.in_ok-piece.piece in
    let points = c.args.points.now in
    let so = subst (λ leaves. IsPieceOf (columns_in leaves) points piece) c.as_slice.ensures.value
    c.in_ok-piece.ensures in
    IfOk-weaker c.plan_of.result _ (λ plan. IsPlanOf plan c.args.table.now)
    (λ plan made. piece_plans (columns_in c.in_ok-leaves.leaves.items) points c.args.table.now c.requires leaves.ascend
    leaves.rows leaves.row_set piece plan so made) c.plan_of.ensures
