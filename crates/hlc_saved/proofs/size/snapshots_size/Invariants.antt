-- The size of those so far, which fit.
use Rattle.std.proofs.Common.{◌≡◌, ℕ, ◌+◌, ◌*◌, ◌<◌, get_or}
use Rattle.hlc_snapshot.specs.declared.snapshot.Snapshot.{Snapshot}
use Rattle.hlc_body.specs.Spelling.{SnapshotFits}
use Rattle.hlc_saved.proofs.size.snapshots_size.Given as goal

abbrev pub invariant-loop-snapshot : goal.invariant-loop-snapshot
invariant-loop-snapshot l = record {
  size : l.size ≡ 2 + 16 * l.snapshot-index;
  fits : (k : ℕ) (d : Snapshot) → k < l.snapshot-index → SnapshotFits (get_or l.snapshots k d);
}
