-- The items so far were taken.
use Rattle.std.proofs.Common.{◌+◌, ◌≤◌, List, length}
use Rattle.hlc_core.specs.{Past.Step, StoreView.Represents}
use Rattle.hlc_calls.proofs.Logs.{TakenSoFar}
use Rattle.hlc_calls.proofs.log.take_all.Given as goal

abbrev pub invariant-loop-rest : goal.invariant-loop-rest
invariant-loop-rest l = record {
  within : l.taken + length l.rest ≤ length l.fn.bytes;
  taken : (past : List Step) → Represents l.fn.core past
      → TakenSoFar l.core l.fn.bytes l.rest past l.taken;
}

abbrev pub decreases-loop-rest : goal.decreases-loop-rest
decreases-loop-rest l = length l.rest
