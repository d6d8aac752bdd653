-- The last pass is the board's, and so are the passes before it.
use Rattle.std.proofs.Common.{List, subst}
use Rattle.hlc_floor.specs.Views.{FloorPassView, PassesOf}
use Rattle.hlc_floor.proofs.PlaceLemmas.{passes_last}
use Rattle.bench_calls.proofs.posts.looking_all.Goals as goal

pub invariant_of-push : goal.invariant_of-push
invariant_of-push c =
    let h = passes_last c.args.board.now c.pop.new.self.items c.in-Some.pass
    (subst (λ (l : List FloorPassView). PassesOf c.args.board.now l) c.in-Some.ensures.items c.loop.invariant) in
    record { of_board = h.1 }

pub loop-preserved : goal.loop-preserved
loop-preserved c =
    let h = passes_last c.args.board.now c.pop.new.self.items c.in-Some.pass
    (subst (λ (l : List FloorPassView). PassesOf c.args.board.now l) c.in-Some.ensures.items c.loop.invariant) in
    h.0
