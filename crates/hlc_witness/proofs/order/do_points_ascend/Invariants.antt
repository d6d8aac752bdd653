-- What is known of the points that were checked.
use Rattle.std.proofs.Common.{ℕ, ◌<◌, ◌+◌, get_or}
use Rattle.hlc_witness.proofs.order.do_points_ascend.Given as goal

-- each of the points so far is below the next
abbrev pub invariant-loop-i : goal.invariant-loop-i
invariant-loop-i l = (k : ℕ) → k + 1 < l.i → get_or l.points k 0 < get_or l.points (k + 1) 0
