-- One more column.
use Rattle.std.proofs.Common.{◌∙◌, ap, sym, arith}
use Rattle.hlc_columns.specs.{Table.keyed, Answers.entries_left}
use Rattle.hlc_columns.proofs.Listed.{listed_all, listed_more}
use Rattle.hlc_columns.proofs.above.take_columns.Goals as goal

pub returns-in_default : goal.returns-in_default
returns-in_default c =
    c.loop.invariant.list ∙ ap keyed (listed_all (entries_left c.args.walk.now) c.loop.counter c.args.limit
    (let lt = c.loop-test.true in omega (arith, lt)) (sym c.loop.invariant.left ∙ c.in_default.ensures.0))

pub loop-preserved : goal.loop-preserved
loop-preserved c =
    let one = c.new.ensures ∙ ap (λ k. record { key = k; cells = c.in-Some.next.now.1 }) c.as_slice.ensures in
    let h = listed_more c.loop.list.items c.push.new.self.items (entries_left c.args.walk.now)
    (entries_left c.loop.walk) (entries_left c.next.new.self) c.loop.counter c.in-Some.next.now c.new.result
    c.loop.invariant.list c.loop.invariant.left c.in-Some.ensures c.in_ok-push.ensures.items one in
    record { list = h.0; left = h.1 }
