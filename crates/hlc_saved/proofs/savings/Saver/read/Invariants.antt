-- The bytes in the buffer are the next ones.
use Rattle.hlc_saved.proofs.Savers.{Reads}
use Rattle.hlc_saved.proofs.savings.Saver.read.Given as goal

abbrev pub invariant-loop : goal.invariant-loop
invariant-loop l = Reads l.core l.fn.self l.self l.fn.out l.out l.len l.room l.counter
