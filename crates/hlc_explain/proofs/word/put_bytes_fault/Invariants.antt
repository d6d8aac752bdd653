-- The rest gets shorter.
use Rattle.std.proofs.Common.{length}
use Rattle.hlc_explain.proofs.word.put_bytes_fault.Given as goal

abbrev pub decreases-loop-rest : goal.decreases-loop-rest
decreases-loop-rest l = length l.rest
