-- Where memory has not run out so far, each writer that was joined had been started.
use Rattle.std.proofs.Common.{◌≡◌, ◌≢◌, false, None, All}
use Rattle.hlc_storm.proofs.joining.join_writers.Given as goal

abbrev pub invariant-loop-writer : goal.invariant-loop-writer
invariant-loop-writer g l = l.out_of_memory ≡ false → All (λ writer. writer ≢ None) l.yielded
