-- A raise preserves the rule: the feeder owns the node's number, and what it stores is above the word, which is what it
-- raised last.
use Rattle.std.proofs.Common.{◌≡◌, sym, ap, ◌∙◌, subst, ◌<◌, arith}
use mathlib.Core.Option.{none}
use Rattle.atomic_table.specs.{Table.step, Seated.TableId}
use Rattle.hlc_floor.proofs.Fresh.{raises_as}
use Rattle.hlc_floor.proofs.board.Board.raise.Goals as goal

pub store-requires : goal.store-requires
store-requires c =
    let same = ap (λ p. p.board) c.feeder.view_is ∙ c.requires.board ∙ sym c.self.view_is in
    let below : c.feeder.inside.node < c.self.inside.table.shared.table_id.words =
    subst (λ (b : TableId). c.feeder.inside.node < b.words) same c.feeder.invariant.1 in
    let was : c.feeder.inside.raised ≡ c.args.feeder.now.raised = ap (λ p. p.raised) c.feeder.view_is in
    let above : c.feeder.inside.raised < c.bits.result =
    let a = c.requires.above in let b = c.bits.ensures in let d = c.word_of-word.ensures.above in omega arith in
    let within : c.feeder.inside.node < c.self.inside.nodes = let n = c.self.invariant.1 in omega arith in
    let taken = step c.self.inside.table.shared.table_id.slots c.feeder.inside.node c.bits.result 0 none in
    (same, below, raises_as _ _ _ _ _ _ _ _ taken c.feeder.invariant.0 c.self.invariant.0 above within)
