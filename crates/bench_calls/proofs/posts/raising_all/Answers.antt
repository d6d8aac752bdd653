-- The last feeder is the board's, and so are those before it.
use Rattle.std.proofs.Common.{List, subst}
use Rattle.hlc_floor.specs.Views.{FeederView, FeedersOf}
use Rattle.hlc_floor.proofs.PlaceLemmas.{feeders_last}
use Rattle.bench_calls.proofs.posts.raising_all.Goals as goal

pub invariant_of-push : goal.invariant_of-push
invariant_of-push c =
    let h = feeders_last c.args.board.now c.pop.new.self.items c.in-Some.feeder
    (subst (λ (l : List FeederView). FeedersOf c.args.board.now l) c.in-Some.ensures.items c.loop.invariant) in
    record { of_board = h.1 }

pub loop-preserved : goal.loop-preserved
loop-preserved c =
    let h = feeders_last c.args.board.now c.pop.new.self.items c.in-Some.feeder
    (subst (λ (l : List FeederView). FeedersOf c.args.board.now l) c.in-Some.ensures.items c.loop.invariant) in
    h.0
