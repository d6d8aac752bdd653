-- The pieces so far are joined.
use Rattle.std.{proofs.Common.◌≡◌, proofs.Common.◌++◌, specs.Vec.Iter.into_iter_items}
use Rattle.hlc_vacuum.proofs.Pieces.{JoinsPieces}
use Rattle.hlc_vacuum.proofs.parallel.join_pieces.Given as goal

abbrev pub invariant-loop-piece : goal.invariant-loop-piece
invariant-loop-piece l = record {
  all' : l.yielded ++ into_iter_items l.piece-iterator ≡ l.fn.pieces.items;
  joined : JoinsPieces l.yielded l.whole;
}
