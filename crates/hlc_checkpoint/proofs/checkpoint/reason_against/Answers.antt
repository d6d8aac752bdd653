-- Nothing was against the parts, nor against the rows.
use Rattle.std.proofs.{Common.All, Common.rules, lemmas.Grind.common_steps}
use Rattle.hlc_witness.specs.{Certificate.RowsAscend, Cost.AreInLimits}
use Rattle.hlc_checkpoint.specs.{StoreView.IsUnderHead, Checkpoint.IsStoreHead}
use Rattle.hlc_checkpoint.proofs.CheckpointLemmas.{head-checkpoint}
use Rattle.hlc_checkpoint.proofs.checkpoint.reason_against.Goals as goal

pub returns : goal.returns
returns c =
    let head : IsStoreHead c.args.checkpoint.now = search (rules, common_steps) in
    let ascend : RowsAscend c.args.checkpoint.now.rows = search (rules, common_steps) in
    let under : All (IsUnderHead c.args.checkpoint.now.links) c.args.checkpoint.now.rows =
    search (rules, common_steps) in
    let limits : AreInLimits c.args.checkpoint.now.rows = search (rules, common_steps) in
    head-checkpoint c.args.checkpoint.now head ascend under limits
