-- The bytes contain the keys so far, and their answers are at the start of the buffer.
use Rattle.std.proofs.Common.{◌-◌, length}
use Rattle.hlc_calls.proofs.Readings.{AnsweredSoFar}
use Rattle.hlc_calls.proofs.reads.put_answers.Given as goal

abbrev pub invariant-loop-index : goal.invariant-loop-index
invariant-loop-index l = AnsweredSoFar l.fn.view.rows l.fn.view.stamp l.fn.places l.fn.bytes l.index l.at l.fn.out l.out

abbrev pub decreases-loop-index : goal.decreases-loop-index
decreases-loop-index l = length l.places - l.index
