-- One more load: the least is now that of one more node.
use Rattle.std.proofs.Common.{◌≡◌, ℕ, ◌+◌, min, sym, ap, subst, ◌∙◌}
use Rattle.hlc_floor.proofs.Looks.{HasLooked, looks_next}
use Rattle.hlc_floor.proofs.board.Board.floor.Goals as goal

pub loop-node-preserved : goal.loop-node-preserved
loop-node-preserved c =
    let is : c.min-least.result ≡ min c.loop-node.least c.heard-in-loop-node.result =
    c.min-least.ensures ∙ ap (min c.loop-node.least) c.bits.ensures.value in
    subst (λ (n : ℕ). HasLooked c.args.pass.now c.heard-in-loop-node.new.pass (c.loop-node.node + 1) n) (sym is)
    (looks_next c.args.pass.now c.loop-node.pass c.heard-in-loop-node.new.pass c.loop-node.node c.loop-node.least
    c.heard-in-loop-node.result c.loop-node.invariant c.heard-in-loop-node.ensures)
