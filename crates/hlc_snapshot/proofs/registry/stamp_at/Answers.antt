-- Ids ascend, so the snapshot at the position is the only one with its id.
use Rattle.std.proofs.Common.{sym, ltb-true}
use Rattle.hlc_snapshot.proofs.Found.{stamp_in-found}
use Rattle.hlc_snapshot.proofs.registry.stamp_at.Goals as goal

pub returns-then-snapshot-id : goal.returns-then-snapshot-id
returns-then-snapshot-id c =
    stamp_in-found c.args.snapshots.now c.args.id c.args.place c.in_ok-snapshot.snapshot.now c.requires
    (ltb-true _ _ (sym c.in_ok-snapshot.ensures.lookup.0)) c.in_ok-snapshot.ensures.lookup.1 c.if-snapshot-id.true
