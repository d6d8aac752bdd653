-- Each turn takes one pass from the end of those that are left, and puts one thread into the list.
use Rattle.std.proofs.Common.{List, subst, arith}
use Rattle.hlc_floor.specs.Views.{FloorPassView, PassesOf}
use Rattle.hlc_floor.proofs.PlaceLemmas.{passes_last}
use Rattle.hlc_storm.proofs.Lengths.{last_off}
use Rattle.hlc_storm.proofs.starting.Crew.start_readers.Goals as goal

pub start_reader-reader-requires-after_bounds : goal.start_reader-reader-requires-after_bounds
start_reader-reader-requires-after_bounds g c κs within =
    (passes_last c.args.board.now c.pop.new.self.items c.in-Some.pass
    (subst (λ (l : List FloorPassView). PassesOf c.args.board.now l) c.in-Some.ensures.items
    c.loop-place.invariant.board)).1

pub loop-place-preserved : goal.loop-place-preserved
loop-place-preserved g c =
    let h = passes_last c.args.board.now c.pop.new.self.items c.in-Some.pass
    (subst (λ (l : List FloorPassView). PassesOf c.args.board.now l) c.in-Some.ensures.items
    c.loop-place.invariant.board) in
    let one = last_off _ _ _ c.in-Some.ensures.items in
    record {
      board = h.0;
      left = omega (arith, one, c.loop-place.invariant.left);
      kept = λ none.
          let reader = c.is_one_lost-out_of_memory.ensures none in
          let kept = c.loop-place.invariant.kept reader.0 in
          omega (arith, reader.1, kept);
    }
