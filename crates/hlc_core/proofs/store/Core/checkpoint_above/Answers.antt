-- The parts are the state with its rows above the stamp, so they are a checkpoint.
use Rattle.std.proofs.Common.{subst}
use Rattle.hlc_core.specs.{StoreView.StoreView, Checkpoint.IsCopyAbove}
use Rattle.hlc_checkpoint.specs.Sorted.{AreRowsAbove}
use Rattle.hlc_checkpoint.proofs.CheckpointLemmas.{listed-above, store-above}
use Rattle.hlc_core.proofs.store.Core.checkpoint_above.Goals.{In_ok-with_rows}
use Rattle.hlc_core.proofs.store.Core.checkpoint_above.Goals as goal

is_copy : (c : In_ok-with_rows) → IsCopyAbove c.args.since c.args.self.now c.in_ok-with_rows.field-0
is_copy c =
    listed-above c.args.since c.args.self.now c.lent.result c.in_ok-with_rows.field-0 c.in_ok-rows.rows.items
    c.lent.ensures.same c.in_ok-with_rows.ensures.same c.in_ok-with_rows.ensures.rows
    (subst (λ (k : StoreView). AreRowsAbove k.rows c.args.since c.in_ok-rows.rows.items) c.self.view_is
    c.in_ok-rows.ensures)

pub returns-clause-kept : goal.returns-clause-kept
returns-clause-kept c = is_copy c

pub returns-clause-sound : goal.returns-clause-sound
returns-clause-sound c =
    store-above c.args.since c.args.self.now c.in_ok-with_rows.field-0 c.lent.ensures.sound (is_copy c)
