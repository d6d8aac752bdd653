-- Each turn takes one feeder from the end of those that are left, and puts one thread into each list.
use Rattle.std.proofs.Common.{List, subst, arith}
use Rattle.hlc_floor.specs.Views.{FeederView, FeedersOf}
use Rattle.hlc_floor.proofs.PlaceLemmas.{feeders_last}
use Rattle.hlc_storm.proofs.Lengths.{last_off}
use Rattle.hlc_storm.proofs.starting.Crew.start_nodes.Goals as goal

pub start_node-writer-requires-after_bounds : goal.start_node-writer-requires-after_bounds
start_node-writer-requires-after_bounds g c κs within =
    (feeders_last c.args.board.now c.pop.new.self.items c.in-Some.feeder
    (subst (λ (l : List FeederView). FeedersOf c.args.board.now l) c.in-Some.ensures.items
    c.loop-place.invariant.board)).1

pub loop-place-preserved : goal.loop-place-preserved
loop-place-preserved g c =
    let h = feeders_last c.args.board.now c.pop.new.self.items c.in-Some.feeder
    (subst (λ (l : List FeederView). FeedersOf c.args.board.now l) c.in-Some.ensures.items
    c.loop-place.invariant.board) in
    let one = last_off _ _ _ c.in-Some.ensures.items in
    record {
      board = h.0;
      left = omega (arith, one, c.loop-place.invariant.left);
      kept = λ none.
          let worker = c.is_one_lost-out_of_memory-in-loop-place.ensures none in
          let writer = c.is_one_lost-out_of_memory.ensures worker.0 in
          let kept = c.loop-place.invariant.kept writer.0 in
          omega (arith, worker.1, kept);
    }
