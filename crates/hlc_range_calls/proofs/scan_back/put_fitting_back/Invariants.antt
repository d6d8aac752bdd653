-- The items so far are at the start of the buffer.
use Rattle.hlc_range_calls.{specs.Listing.pair_bytes, proofs.ScanLemmas.PutSoFar}
use Rattle.hlc_range_calls.proofs.scan_back.put_fitting_back.Given as goal

abbrev pub invariant-loop-key : goal.invariant-loop-key
invariant-loop-key l = PutSoFar pair_bytes l.fn.answers l.key-iterator l.at l.index l.fn.out l.out
