-- The writes before are of different keys, and the mark of each of their keys is set; the reason so far is their first.
use Rattle.std.proofs.Common.{◌≡◌, length}
use Rattle.hlc_rows.{specs.Writes.first_of, specs.Writes.writes_refusal, proofs.TwiceLemmas.Passed}
use Rattle.hlc_rows.proofs.write.many_fault.Given as goal

abbrev pub invariant-loop-first : goal.invariant-loop-first
invariant-loop-first l = record {
  passed : Passed l.fn.writes l.marks l.rest;
  fault : writes_refusal l.fn.writes ≡ first_of l.fault (writes_refusal l.rest);
}

abbrev pub decreases-loop-first : goal.decreases-loop-first
decreases-loop-first l = length l.rest
