-- The row at the position is the next to move; after the last one all have moved.
use Rattle.std.proofs.Common.{◌++◌, ◌∷◌, [], List, ap, ◌∙◌, arith, length, length-append, length-take-le, take_all}
use Rattle.hlc_table_column.{specs.Cells.Cell, proofs.Moved.at_same, proofs.Moved.rest_same, proofs.Moved.moved_more}
use Rattle.hlc_table_column.proofs.few.Few.pour.Goals as goal

pub push-requires : goal.push-requires
push-requires g c =
    let long = ap length c.loop-place.invariant.moved ∙ length-append c.args.to.now _ in
    let before = c.loop-place-test.true in
    let count = c.len-place-end.ensures.count in
    let part = length-take-le c.loop-place.place c.args.self (omega (arith, count, before)) in
    let few = c.len-place-end.ensures.few in
    let fits = c.requires in
    (omega arith, omega (arith, long, part, fits, count, few, before))

pub loop-place-preserved : goal.loop-place-preserved
loop-place-preserved g c =
    let place = c.loop-place.place in
    let past = c.loop-place.invariant in
    let took = c.take_row.ensures in
    let here = at_same c.loop-place.from c.args.self place c.take_row.result past.later took.row in record {
      moved = c.push.ensures ∙ ap (λ (l : List Cell). l ++ c.take_row.result ∷ []) past.moved
          ∙ moved_more c.args.to.now c.args.self place c.take_row.result here;
      later = took.after ∙ rest_same c.loop-place.from c.args.self place past.later;
      long = took.long ∙ past.long;
    }

pub returns-clause-rows : goal.returns-clause-rows
returns-clause-rows g c =
    let after = c.loop-place-test.false in
    let count = c.len-place-end.ensures.count in
    c.loop-place.invariant.moved ∙ ap (λ (l : List Cell). c.args.to.now ++ l)
    (take_all c.loop-place.place c.args.self (omega (arith, count, after)))
