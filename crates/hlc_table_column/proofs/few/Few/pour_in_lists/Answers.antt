-- The row at the position is the next to move; after the last one all have moved.
use Rattle.std.proofs.Common.{◌++◌, ◌∷◌, [], List, ap, ◌∙◌, arith, length, length-append, length-take-le, take_all}
use Rattle.hlc_table_column.specs.Cells.{Cell, CellsWithRoom}
use Rattle.hlc_table_column.proofs.Moved.{at_same, rest_same, moved_more, with_room}
use Rattle.hlc_table_column.proofs.few.Few.pour_in_lists.Goals as goal

pub push_reserved-requires : goal.push_reserved-requires
push_reserved-requires g c =
    let long = ap length c.loop-place.invariant.moved ∙ length-append c.args.to.now.cells _ in
    let before = c.loop-place-test.true in
    let count = c.len-place-end.ensures.count in
    let part = length-take-le c.loop-place.place c.args.self (omega (arith, count, before)) in
    let room = c.loop-place.invariant.room in
    let few = c.len-place-end.ensures.few in
    let fits = c.requires in
    (omega arith, omega (arith, long, part, fits, count, few, before, room))

pub loop-place-preserved : goal.loop-place-preserved
loop-place-preserved g c =
    let place = c.loop-place.place in
    let past = c.loop-place.invariant in
    let took = c.take_row.ensures in
    let here = at_same c.loop-place.from c.args.self place c.take_row.result past.later took.row in record {
      moved = ap (λ (l : CellsWithRoom). l.cells) c.push_reserved.ensures
          ∙ ap (λ (l : List Cell). l ++ c.take_row.result ∷ []) past.moved
          ∙ moved_more c.args.to.now.cells c.args.self place c.take_row.result here;
      room = ap (λ (l : CellsWithRoom). l.room) c.push_reserved.ensures ∙ past.room;
      later = took.after ∙ rest_same c.loop-place.from c.args.self place past.later;
      long = took.long ∙ past.long;
    }

pub returns-clause-rows : goal.returns-clause-rows
returns-clause-rows g c =
    let after = c.loop-place-test.false in
    let count = c.len-place-end.ensures.count in
    with_room _ _ _ _ (c.loop-place.invariant.moved ∙ ap (λ (l : List Cell). c.args.to.now.cells ++ l)
    (take_all c.loop-place.place c.args.self (omega (arith, count, after)))) c.loop-place.invariant.room
