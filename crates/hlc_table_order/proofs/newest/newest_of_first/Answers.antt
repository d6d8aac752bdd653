-- Stamps ascend along the index, so the rows at or below the bound come first, and the last of them is above all
-- others.
use Rattle.std.proofs.Common.{arith}
use Rattle.hlc_table_order.proofs.PlaceLemmas.{none_indexed, last_indexed}
use Rattle.hlc_table_order.proofs.newest.newest_of_first.Goals as goal

pub returns-then-count-eq0 : goal.returns-then-count-eq0
returns-then-count-eq0 c =
    none_indexed c.args.stamps.now c.args.nodes.now c.args.order.now c.args.bound c.requires.index
    (rw c.if-count-eq0.true at c.requires.point)

pub returns : goal.returns
returns c =
    last_indexed c.args.stamps.now c.args.nodes.now c.args.order.now c.args.bound c.args.count
    c.requires.index (let differs = c.if-count-eq0.false in omega (arith, differs)) c.requires.few
    c.requires.point
