-- The first seat owns no number, and this many passes were split off it.
use Rattle.std.proofs.Common.{◌≡◌, [], replicate}
use Rattle.hlc_floor.specs.{Views.blind, Board.uncut}
use Rattle.hlc_floor.proofs.board.cut_passes.Given as goal

abbrev pub invariant-loop-pass : goal.invariant-loop-pass
invariant-loop-pass l = record {
  board : l.first.table_id ≡ l.table.shared.table_id;
  view : l.first.me ≡ (uncut l.nodes l.nodes, []);
  made : l.all.items ≡ replicate l._pass (blind l.table.shared.table_id);
}
