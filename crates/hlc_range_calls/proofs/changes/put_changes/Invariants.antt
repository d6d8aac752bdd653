-- The items so far are at the start of the buffer.
use Rattle.hlc_range_calls.{specs.Changes.change_bytes, proofs.ScanLemmas.PutSoFar}
use Rattle.hlc_range_calls.proofs.changes.put_changes.Given as goal

abbrev pub invariant-loop-key : goal.invariant-loop-key
invariant-loop-key l = PutSoFar change_bytes l.fn.changes l.key-iterator l.at l.index l.fn.out l.out
