-- One more is written.
use Rattle.std.{proofs.Common.length, specs.Int.w16, specs.Int.to_be_bytes}
use Rattle.hlc_body.{specs.Spelling.snapshot_bytes, proofs.ListLemmas.list_on}
use Rattle.hlc_body.proofs.writing.put_snapshots.Goals as goal

pub loop-snapshot-preserved : goal.loop-snapshot-preserved
loop-snapshot-preserved c =
    list_on snapshot_bytes c.args.snapshots.now c.loop-snapshot.snapshot-index c.snapshot-item.result
    c.args.out.now.items
    (to_be_bytes w16 (length c.args.snapshots.now)) c.loop-snapshot.out.items c.put_snapshot.new.out.items
    c.loop-snapshot-test.true
    c.snapshot-item.is c.loop-snapshot.invariant c.in_ok-put_snapshot.ensures
