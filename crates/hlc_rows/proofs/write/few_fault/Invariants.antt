-- The writes that are left decide whether two are of one key, and, after the reason so far, why one is refused.
use Rattle.std.proofs.Common.{◌≡◌, length}
use Rattle.hlc_rows.specs.Writes.{first_of, writes_refusal, writes_twice}
use Rattle.hlc_rows.proofs.write.few_fault.Given as goal

abbrev pub invariant-loop-first : goal.invariant-loop-first
invariant-loop-first l = record {
  twice : writes_twice l.fn.writes ≡ writes_twice l.rest;
  fault : writes_refusal l.fn.writes ≡ first_of l.fault (writes_refusal l.rest);
}

abbrev pub decreases-loop-first : goal.decreases-loop-first
decreases-loop-first l = length l.rest
