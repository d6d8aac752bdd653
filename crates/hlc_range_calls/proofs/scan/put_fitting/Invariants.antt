-- The items so far are at the start of the buffer.
use Rattle.hlc_range_calls.{specs.Scan.part_bytes, proofs.ScanLemmas.PutSoFar}
use Rattle.hlc_range_calls.proofs.scan.put_fitting.Given as goal

abbrev pub invariant-loop-key : goal.invariant-loop-key
invariant-loop-key l = PutSoFar (part_bytes l.fn.alone) l.fn.answers l.key-iterator l.at l.index l.fn.out l.out
