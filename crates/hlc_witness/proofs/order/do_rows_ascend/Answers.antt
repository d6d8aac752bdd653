-- If neighbours are in order, the rows are in order.
use Rattle.std.proofs.Common.{true≢false, sym, ap, ◌∙◌, refl, arith, is_lt}
use Rattle.hlc_witness.proofs.Ascending.{rows_from_neighbours, neighbours}
use Rattle.hlc_witness.proofs.order.do_rows_ascend.Goals as goal

pub returns-then-not-is_row_before : goal.returns-then-not-is_row_before
returns-then-not-is_row_before c = (
  λ h. absurd (true≢false (sym h)),
  λ up.
      absurd (true≢false (sym (c.if-not-is_row_before.ensures
      ∙ ap is_lt (neighbours c.args.rows.now c.loop-i.i c.index-rows-i.result c.index-rows-i-in-loop-i.result
      (omega arith) c.loop-i-test.true c.index-rows-i.is c.index-rows-i-in-loop-i.is up)))),
)

pub returns : goal.returns
returns c = (λ _. rows_from_neighbours c.args.rows.now (λ k d l. c.loop-i.invariant k d (omega arith)), λ _. refl)
