-- What was there is unchanged.
use Rattle.std.{proofs.Common.take, proofs.Common.◌∙◌, specs.List.flat_map}
use Rattle.hlc_body.specs.Spelling.{row_bytes}
use Rattle.hlc_saved.{specs.Writing.HasMore, proofs.StorePieces.on_err}
use Rattle.hlc_saved.proofs.leaf.append_rows.Goals as goal

pub returns-in_err-append_row-clause-err : goal.returns-in_err-append_row-clause-err
returns-in_err-append_row-clause-err c =
    on_err (HasMore c.args.out.now.items c.append_row.new.out.items) c.from_residual.result (
      flat_map row_bytes (take c.loop-row.row-index c.args.rows.now),
      c.in_err-append_row.ensures.unchanged ∙ c.loop-row.invariant,
    )
