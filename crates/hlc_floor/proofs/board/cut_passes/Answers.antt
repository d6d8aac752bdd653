-- A split preserves the rule: a pass owns no number, and saw what the first seat saw.
use Rattle.std.proofs.Common.{arith}
use Rattle.hlc_floor.proofs.Fresh.{cuts_pass}
use Rattle.hlc_floor.proofs.board.cut_passes.Goals as goal

pub split_seat-seat-requires : goal.split_seat-seat-requires
split_seat-seat-requires c = (
  c.loop-pass.invariant.board,
  (let w = c.requires.table.1 in let p = c.requires.table.2 in omega arith),
  cuts_pass _ _ _,
)
