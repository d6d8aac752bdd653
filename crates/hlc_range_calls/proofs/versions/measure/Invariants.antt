-- The versions so far are measured.
use Rattle.hlc_range_calls.proofs.Rowing.{Measured}
use Rattle.hlc_range_calls.proofs.versions.measure.Given as goal

abbrev pub invariant-loop-value : goal.invariant-loop-value
invariant-loop-value l = Measured l.fn.versions l.value-iterator l.len l.count
