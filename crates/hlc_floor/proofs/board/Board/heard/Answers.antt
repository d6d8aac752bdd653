-- A load preserves the rule: what is seen is the word. The pass is of this board, and the board has that word.
use Rattle.std.proofs.Common.{sym, ap, ◌∙◌, subst, ◌<◌}
use Rattle.atomic_table.specs.Seated.{TableId}
use Rattle.hlc_floor.proofs.Fresh.{looks_as}
use Rattle.hlc_floor.proofs.board.Board.heard.Goals as goal

pub load-requires : goal.load-requires
load-requires c = (
  ap (λ p. p.board) c.pass.view_is ∙ c.requires.board ∙ sym c.self.view_is,
  subst (λ (b : TableId). c.args.node < b.words) (sym c.self.view_is) c.requires.node,
  looks_as _ _ _ _ _ _ _ c.pass.invariant.0,
)
