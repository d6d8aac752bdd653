-- The words are 0 and the first seat owns all numbers, so the rule is true at the start.
use Rattle.std.proofs.Common.{arith}
use Rattle.hlc_heads.specs.declared.heads.TheConstants.{MAX_INITIAL_NODES}
use Rattle.hlc_floor.proofs.Fresh.{begins_as}
use Rattle.hlc_floor.proofs.board.Board.new.Goals as goal

pub of_words-requires : goal.of_words-requires
of_words-requires c = begins_as MAX_INITIAL_NODES _ _ c.from-about.ensures (omega arith)
