-- The tally is of the columns listed.
use Rattle.std.proofs.Common.{◌∙◌, ap, refl, subst}
use Rattle.hlc_rows.specs.Rows.{IsRowSet}
use Rattle.hlc_table_column.proofs.FlagLemmas.{filter-IsRowSet}
use Rattle.hlc_columns.specs.Answers.{in_part, part_end}
use Rattle.hlc_table_column.specs.Rows.{keys_in, rows_in}
use Rattle.hlc_vacuum_draft.specs.KeyPlan.{IsDraftOf}
use Rattle.hlc_vacuum.proofs.Planned.{draft_is_tally}
use Rattle.hlc_vacuum.proofs.part.tally_part.Goals as goal

pub returns-clause-made : goal.returns-clause-made
returns-clause-made c =
    let columns = c.in_ok-columns.columns.items in
    let next = c.in_ok-columns.ensures.next in
    let keys = c.in_ok-keys.ensures ∙ ap keys_in c.as_slice-2.ensures.value in
    let of = draft_is_tally columns c.args.points.now (rows_in columns) c.requires next.ascend refl
    (subst IsRowSet next.exact
    (filter-IsRowSet (λ row. in_part c.args.after.now (part_end c.args.after.now c.args.limit columns) row.key)
    c.args.table.now c.in_ok-columns.ensures.row_set))
    c.in_ok-draft.draft c.in_ok-tally.tally
    (subst (λ columns. IsDraftOf columns c.args.points.now c.in_ok-draft.draft) c.as_slice.ensures.value
    c.in_ok-draft.ensures.draft)
    c.in_ok-tally.ensures in
    record {
      plan = of.plan;
      made = record {
        columns = columns;
        next = next;
        row_set = c.in_ok-columns.ensures.row_set;
        keys = keys;
        plan = of.made;
        end = c.in_ok-end.ensures columns (c.as_slice-3.ensures.value ∙ keys);
      };
      is = of.is;
    }
