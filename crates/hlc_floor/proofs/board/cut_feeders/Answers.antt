-- A split preserves the rule: the first seat still owns the number that is split off, since the loop has not come to
-- the last node.
use Rattle.std.proofs.Common.{◌≡◌, ◌<◌, arith, ap}
use Rattle.hlc_floor.proofs.Fresh.{cuts_feeder}
use Rattle.hlc_floor.proofs.board.cut_feeders.Goals as goal

pub split_seat-seat-requires : goal.split_seat-seat-requires
split_seat-seat-requires c =
    let v = c.loop-node.first.me.0 in
    let from : v.from ≡ c.loop-node.node = ap (λ m. m.0.from) c.loop-node.invariant.view in
    let to : v.to ≡ c.args.nodes = ap (λ m. m.0.to) c.loop-node.invariant.view in
    let some_left : v.from < v.to = let t = c.loop-node-test.true in omega arith in (
      c.loop-node.invariant.board,
      (let w = c.requires.table.1 in let p = c.requires.table.2 in omega arith),
      cuts_feeder _ _ v some_left,
    )
