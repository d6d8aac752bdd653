-- Each turn reads the bytes that it made.
use Rattle.std.proofs.Common.{subst, ℕ, List}
use Rattle.hlc_core.specs.StoreView.{StoreView}
use Rattle.hlc_saved.{specs.Saver.HasMade, proofs.Savers.takes_first, proofs.Savers.takes_more, proofs.Savers.of_ok}
use Rattle.hlc_saved.proofs.savings.Saver.read.Goals as goal

pub loop-init : goal.loop-init
loop-init c =
    takes_first c.args.core.now c.args.self.now c.take-len.new.self c.args.out.now c.take-len.new.out c.take-len.result
    c.take-len.ensures.len c.take-len.ensures.copied c.take-len.ensures.passed

pub loop-preserved : goal.loop-preserved
loop-preserved c =
    takes_more c.args.core.now c.args.self.now c.loop.self c.make.new.self c.take-len-in-loop.new.self c.args.out.now
    c.loop.out c.take-len-in-loop.new.out c.loop.len c.take-len-in-loop.result c.loop.counter c.loop.invariant
    c.if-len-room.false
    (of_ok c.make.result c.is_err.result c.is_err.ensures.value c.if-is_err.false c.make.ensures.some)
    (subst (λ (core : StoreView). (tag : ℕ) (read : List ℕ) → HasMade c.loop.self tag core read
    → HasMade c.make.new.self tag core read) c.lent-store.ensures.same
    (of_ok c.make.result c.is_err.result c.is_err.ensures.value c.if-is_err.false c.make.ensures.made))
    c.take-len-in-loop.ensures.len c.take-len-in-loop.ensures.copied c.take-len-in-loop.ensures.passed
