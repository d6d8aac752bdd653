-- None of the snapshots so far was closed.
use Rattle.std.proofs.Common.{All, take}
use Rattle.hlc_increment.specs.Increment.{IsOpenOrNew}
use Rattle.hlc_increment.proofs.later.are_open_or_new.Given as goal

abbrev pub invariant-loop-snapshot : goal.invariant-loop-snapshot
invariant-loop-snapshot l = All (IsOpenOrNew l.older) (take l.snapshot-index l.snapshots)
