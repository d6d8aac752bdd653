-- Those so far are written.
use Rattle.std.proofs.Common.{◌≡◌, ◌++◌, length, take}
use Rattle.std.specs.{List.flat_map, Int.w16, Int.to_be_bytes}
use Rattle.hlc_body.specs.Spelling.{snapshot_bytes}
use Rattle.hlc_body.proofs.writing.put_snapshots.Given as goal

abbrev pub invariant-loop-snapshot : goal.invariant-loop-snapshot
invariant-loop-snapshot l =
    l.out.items ≡ l.fn.out.items
    ++ (to_be_bytes w16 (length l.snapshots) ++ flat_map snapshot_bytes (take l.snapshot-index l.snapshots))
