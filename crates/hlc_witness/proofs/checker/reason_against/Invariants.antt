-- What is known of the witnesses that were checked.
use Rattle.std.proofs.Common.{take, All}
use Rattle.hlc_witness.specs.Changes.{ChangesAscend, IsChange}
use Rattle.hlc_witness.proofs.checker.reason_against.Given as goal

-- the witnesses so far are changes, ascending
abbrev pub invariant-loop-i : goal.invariant-loop-i
invariant-loop-i l = record {
  ascend : ChangesAscend (take l.i l.witnesses);
  each : All (IsChange l.rows l.points) (take l.i l.witnesses);
}
