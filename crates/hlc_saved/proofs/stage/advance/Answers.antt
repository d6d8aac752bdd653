-- The part before the rows is read, or is not; then the rows are.
use Rattle.std.proofs.Common.{[], ℕ, arith, sym, subst}
use Rattle.hlc_checkpoint.specs.{Growing.HasGrown, StoreView.with_rows}
use Rattle.hlc_saved.specs.Blocks.{RowsLeave, Leaves}
use Rattle.hlc_saved.proofs.Stages.{begun_rows, preamble_back, back_again}
use Rattle.hlc_saved.proofs.stage.advance.Goals as goal

pub returns-in-Ok-clause-back : goal.returns-in-Ok-clause-back
returns-in-Ok-clause-back c =
    back_again c.args.bytes.now c.in-Ok.rest.now c.advance_rows.result.rest.now
    (preamble_back c.args.bytes.now c.in-Ok.preamble c.in-Ok.rest.now
    (λ i. omega (arith, c.type_inv.bytes i)) c.in-Ok.ensures)
    c.advance_rows.ensures.back

pub returns-in-Ok-clause-same : goal.returns-in-Ok-clause-same
returns-in-Ok-clause-same c = λ read has.
    c.advance_rows.ensures.same read
    (subst (λ (n : ℕ). RowsLeave c.new-in-Ok.result n c.in-Ok.rest.now read) (sym c.count-count.ensures)
    (begun_rows c.new-in-Ok.result c.in-Ok.preamble c.args.bytes.now c.in-Ok.rest.now read c.in-Ok.ensures
    (subst (λ head. HasGrown c.new-in-Ok.result (with_rows head [])) c.with_rows-head.ensures c.new-in-Ok.ensures)
    (subst (λ s. Leaves s c.args.bytes.now read) c.in-Start.is has)))
