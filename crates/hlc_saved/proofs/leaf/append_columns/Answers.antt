-- Each column is written after those before it.
use Rattle.std.proofs.Common.{◌∙◌, ◌++◌, ℕ, List, ap, refl, append_assoc}
use Rattle.std.{specs.List.flat_map, proofs.lemmas.Option.slice_get_read}
use Rattle.hlc_body.specs.Spelling.{row_bytes}
use Rattle.hlc_saved.{specs.Writing.HasMore, proofs.StorePieces.on_err, proofs.StorePieces.column_on}
use Rattle.hlc_saved.proofs.leaf.append_columns.Goals as goal

pub returns-in_err-append_column-clause-err : goal.returns-in_err-append_column-clause-err
returns-in_err-append_column-clause-err c =
    let so = c.loop-one.invariant in
    let more = c.in_err-append_column.ensures.err in
    on_err (HasMore c.args.out.now.items c.append_column.new.out.items) c.from_residual.result (
      flat_map row_bytes so.0 ++ more.0,
      more.1 ∙ ap (λ (l : List ℕ). l ++ more.0) so.2
          ∙ append_assoc c.args.out.now.items (flat_map row_bytes so.0) more.0,
    )

pub loop-one-preserved : goal.loop-one-preserved
loop-one-preserved c =
    let at = slice_get_read c.args.columns.now _ c.loop-one.one-index c.one-item.result refl c.loop-one-test.true
    c.one-item.is in
    column_on c.args.columns.now c.loop-one.one-index c.one-item.result c.args.out.now.items c.loop-one.out.items
    c.append_column.new.out.items at c.loop-one.invariant c.in_ok-append_column.ensures.ok
