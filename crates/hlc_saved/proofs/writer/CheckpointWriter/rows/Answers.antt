-- One more row is written.
use Rattle.std.proofs.{Common.[], Common.take, Common.subst, lemmas.List.take_all}
use Rattle.hlc_body.specs.Spelling.{row_bytes}
use Rattle.hlc_saved.{specs.Writing.HasWritten, proofs.Pieces.row_more}
use Rattle.hlc_body.proofs.ListLemmas.{list_on}
use Rattle.hlc_saved.proofs.writer.CheckpointWriter.rows.Goals as goal

pub loop-row-preserved : goal.loop-row-preserved
loop-row-preserved c = record {
  written = λ tag kept has.
      subst (λ rows. HasWritten c.row.new.self tag kept rows)
      (row_more c.args.rows.now c.loop-row.row-index c.row-item.result c.loop-row-test.true c.row-item.is)
      (c.in_ok-row.ensures.written tag kept (take c.loop-row.row-index c.args.rows.now)
      (c.loop-row.invariant.written tag kept has));
  returned = list_on row_bytes c.args.rows.now c.loop-row.row-index c.row-item.result c.args.out.now.items []
      c.loop-row.out.items
      c.row.new.out.items c.loop-row-test.true c.row-item.is c.loop-row.invariant.returned c.in_ok-row.ensures.ok;
}

pub returns-clause-written : goal.returns-clause-written
returns-clause-written c = λ tag kept has.
    subst (λ rows. HasWritten c.loop-row.self tag kept rows)
    (take_all c.loop-row.row-index c.args.rows.now c.loop-row-test.false) (c.loop-row.invariant.written tag kept has)
