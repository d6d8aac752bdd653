-- The nodes below this one were loaded once, and the least is theirs.
use Rattle.hlc_floor.proofs.Looks.{HasLooked}
use Rattle.hlc_floor.proofs.board.Board.floor.Given as goal

abbrev pub invariant-loop-node : goal.invariant-loop-node
invariant-loop-node l = HasLooked l.fn.pass l.pass l.node l.least
