-- The best is the newest of the positions so far.
use Rattle.hlc_table_order.specs.Newest.{IsNewestBelow}
use Rattle.hlc_table_order.proofs.newest.newest_of_few.Given as goal

abbrev pub invariant-loop-place : goal.invariant-loop-place
invariant-loop-place l = IsNewestBelow l.stamps l.nodes l.bound l.place l.best
