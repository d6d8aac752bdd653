-- A row is read and added, or none is.
use Rattle.std.proofs.Common.{◌≡◌, ◌-◌, sym, subst, arith, ℕ}
use Rattle.hlc_saved.specs.Blocks.{RowsLeave}
use Rattle.hlc_saved.proofs.Stages.{one_row, row_back, back_again, back_fits, less_again}
use Rattle.hlc_saved.proofs.stage.advance_rows.Goals as goal

pub halted-requires : goal.halted-requires
halted-requires c = (omega (arith, c.loop-done-test.true), c.in-Err.ensures)

pub loop-done-preserved : goal.loop-done-preserved
loop-done-preserved c = record {
  same = λ read has.
      subst (λ (n : ℕ). RowsLeave c.add.new.self n c.in-Ok.after.now read) (less_again c.args.left c.loop-done.done)
      (one_row c.loop-done.growing c.add.new.self (c.args.left - c.loop-done.done) c.in-Ok.row c.loop-done.rest.now
      c.in-Ok.after.now read (omega (arith, c.loop-done-test.true)) c.in-Ok.ensures c.in-Ok-add.ensures.ok
      (c.loop-done.invariant.same read has));
  back = back_again c.args.bytes.now c.loop-done.rest.now c.in-Ok.after.now c.loop-done.invariant.back
      (row_back c.loop-done.rest.now c.in-Ok.row c.in-Ok.after.now
      (back_fits c.args.bytes.now c.loop-done.rest.now c.loop-done.invariant.back
      (λ i. omega (arith, c.type_inv.bytes i)))
      c.in-Ok.ensures);
}

pub returns-in-Err-add-clause-same : goal.returns-in-Err-add-clause-same
returns-in-Err-add-clause-same c = λ read has.
    subst (λ g. RowsLeave g (c.args.left - c.loop-done.done) c.loop-done.rest.now read)
    (sym c.in-Err-add.ensures.unchanged)
    (c.loop-done.invariant.same read has)

pub returns-clause-same : goal.returns-clause-same
returns-clause-same c = λ read has.
    let none : c.args.left - c.loop-done.done ≡ 0 = omega (arith, c.loop-done-test.false) in
    subst (λ (n : ℕ). RowsLeave c.loop-done.growing n c.loop-done.rest.now read) none
    (c.loop-done.invariant.same read has)
