-- The tally is of the columns of all leaves, which have the rows of the table.
use Rattle.std.proofs.{Common.subst, lemmas.Result.IfOk-weaker}
use Rattle.hlc_columns.specs.Table.{columns_in}
use Rattle.hlc_vacuum_draft.specs.{Plan.IsTallyOf, KeyPlan.IsDraftOf}
use Rattle.hlc_vacuum.proofs.Planned.{draft_is_tally}
use Rattle.hlc_vacuum.proofs.planner.tally_table.Goals as goal

pub returns-clause-made : goal.returns-clause-made
returns-clause-made c =
    let leaves = c.in_ok-leaves.ensures in
    let draft = c.in_ok-draft.draft in
    let points = c.args.points.now in
    let so = subst (λ leaves. IsDraftOf (columns_in leaves) points draft) c.as_slice.ensures.value
    c.in_ok-draft.ensures.draft in
    IfOk-weaker c.tally_of.result _ (λ tally. IsTallyOf tally c.args.table.now)
    (λ tally made. draft_is_tally (columns_in c.in_ok-leaves.leaves.items) points c.args.table.now c.requires
    leaves.ascend leaves.rows leaves.row_set draft tally so made) c.tally_of.ensures
