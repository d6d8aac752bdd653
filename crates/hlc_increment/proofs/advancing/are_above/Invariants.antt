-- The rows so far are above the stamp.
use Rattle.std.proofs.Common.{All, take, ◌<◌}
use Rattle.hlc_increment.proofs.advancing.are_above.Given as goal

abbrev pub invariant-loop-row : goal.invariant-loop-row
invariant-loop-row l = All (λ row. l.since < row.stamp) (take l.row-index l.rows)
