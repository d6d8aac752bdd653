-- The flagged items so far are at the front, and the later ones are as they were.
use Rattle.hlc_table_column.proofs.Chosen.{MovesInPlace}
use Rattle.hlc_table_column.proofs.flags.move_flagged.Given as goal

abbrev pub invariant-loop-i : goal.invariant-loop-i
invariant-loop-i g l = MovesInPlace l.keep l.fn.items l.items l.kept l.i
