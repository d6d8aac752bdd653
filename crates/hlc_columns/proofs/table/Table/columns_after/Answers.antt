-- The columns listed are the first of those above the key.
use Rattle.std.proofs.{Common.subst, lemmas.Result.IfOk-weaker}
use Rattle.hlc_table_index.specs.Entries.{entries_in}
use Rattle.hlc_columns.{specs.Answers.AreNext, proofs.Next.are_next}
use Rattle.hlc_columns.proofs.table.Table.columns_after.Goals as goal

pub returns-clause-next : goal.returns-clause-next
returns-clause-next c =
    IfOk-weaker c.columns_above.result _ _
    (λ list h. subst (λ rows. AreNext rows c.args.key.now c.args.limit list.items) c.self.view_is
    (are_next (entries_in c.self.inside.columns) c.args.key.now h.0 h.1 c.args.limit list.items h.2
    c.columns_above.ensures.ascend c.self.invariant.0))
    c.columns_above.ensures.list
