-- The leaves that are kept so far are at the front, with the heads of their first keys, and the later ones are as
-- before.
use Rattle.hlc_table_index.proofs.Kept.{KeepsInPlace}
use Rattle.hlc_table_index.proofs.leaves.move_filled.Given as goal

abbrev pub invariant-loop-i : goal.invariant-loop-i
invariant-loop-i g l = KeepsInPlace (λ e. g.V.Filled.is_filled e.1) l.fn.leaves l.leaves l.tops l.kept l.i
