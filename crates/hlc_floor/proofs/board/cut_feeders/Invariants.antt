-- This many numbers were split off the first seat, and each has its feeder.
use Rattle.std.proofs.Common.{◌≡◌, []}
use Rattle.hlc_floor.specs.{Views.posts, Board.uncut}
use Rattle.hlc_floor.proofs.board.cut_feeders.Given as goal

abbrev pub invariant-loop-node : goal.invariant-loop-node
invariant-loop-node l = record {
  board : l.first.table_id ≡ l.table.shared.table_id;
  view : l.first.me ≡ (uncut l.nodes l.node, []);
  made : l.feeders.items ≡ posts l.table.shared.table_id l.node;
}
