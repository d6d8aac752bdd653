-- The records so far were applied.
use Rattle.std.proofs.Common.{◌≡◌, ◌+◌, ◌≤◌, List, length}
use Rattle.hlc_core.specs.{Past.Step, StoreView.Represents}
use Rattle.hlc_log.proofs.LogLemmas.{AppliedSoFar}
use Rattle.hlc_log.proofs.apply.apply_records.Given as goal

abbrev pub invariant-loop-rest : goal.invariant-loop-rest
invariant-loop-rest l = record {
  none : l.records ≡ 0 → l.core ≡ l.fn.core;
  within : l.records + length l.rest ≤ length l.fn.bytes;
  applied : (past : List Step) → Represents l.fn.core past
      → AppliedSoFar l.core l.fn.bytes l.rest past l.fn.threshold l.records l.greatest;
}

abbrev pub decreases-loop-rest : goal.decreases-loop-rest
decreases-loop-rest l = length l.rest
