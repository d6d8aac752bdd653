-- The greatest, where each stamp above the bound counts as 0, is the newest if it is not 0. If it is 0, no stamp except
-- 0 is at or below the bound, and 0 is the newest if it is there.
use Rattle.std.proofs.Common.{sym, arith}
use Rattle.hlc_lanes.proofs.Lanes.{newest_found, newest_zero, newest_none}
use Rattle.hlc_lanes.proofs.newest.newest_at.Goals as goal

pub returns-then-best-gt0 : goal.returns-then-best-gt0
returns-then-best-gt0 c = newest_found c.args.bound c.args.stamps.now c.greatest_within-best.result
    c.greatest_within-best.ensures c.if-best-gt0.true

pub returns-then-contains : goal.returns-then-contains
returns-then-contains c = newest_zero c.args.bound c.args.stamps.now c.greatest_within-best.result
    c.greatest_within-best.ensures (omega (arith, c.if-best-gt0.false)) (sym c.if-contains.ensures.value)

pub returns : goal.returns
returns c = newest_none c.args.bound c.args.stamps.now c.greatest_within-best.result c.greatest_within-best.ensures
    (omega (arith, c.if-best-gt0.false)) (sym c.if-contains.ensures.value)
