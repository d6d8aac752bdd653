-- One more column.
use Rattle.std.proofs.Common.{◌≡◌, ◌+◌, ◌∙◌, ap, arith, List, length, filter}
use Rattle.hlc_table_column.specs.Rows.{rows_of}
use Rattle.hlc_columns.specs.{Answers.entries_left, Table.indexed_rows, Table.table_rows}
use Rattle.hlc_columns.proofs.Ranged.{all_lead}
use Rattle.hlc_columns.proofs.WalkLemmas.{Entry, within, few, all_from_first, count_next}
use Rattle.hlc_columns.proofs.walks.count_rows_at.Goals as goal

pub loop-entry-init : goal.loop-entry-init
loop-entry-init c =
    let all = ap (λ (es : List Entry). length (filter (within c.args.bound) (table_rows es)))
    (c.from_slot-walk.ensures.exact ∙ all_lead _ ∙ all_from_first c.args.columns.now) in
    omega (arith, all)

one_more : (c : goal.After-count_at) → c.loop-entry.total + c.count_at.result
    + length (filter (within c.args.bound) (table_rows (entries_left c.next.new.self)))
    ≡ length (filter (within c.args.bound) (indexed_rows c.args.columns.now))
one_more c =
    let entry = c.in-Some.entry.now in
    count_next c.args.bound (entries_left c.loop-entry.walk) (entries_left c.next.new.self) entry c.loop-entry.total
    c.count_at.result _ c.in-Some.ensures c.loop-entry.invariant
    (c.count_at.ensures entry.0
    ∙ ap (λ cells. length (filter (within c.args.bound) (rows_of entry.0 cells))) c.lanes.ensures)

pub overflow_add-total : goal.overflow_add-total
overflow_add-total c =
    omega (arith, one_more c, few c.args.bound (indexed_rows c.args.columns.now), c.requires)

pub loop-entry-preserved : goal.loop-entry-preserved
loop-entry-preserved c = one_more c

pub returns : goal.returns
returns c =
    let all = c.loop-entry.invariant in
    let none = ap (λ (es : List Entry). length (filter (within c.args.bound) (table_rows es))) c.in_default.ensures.0 in
    omega (arith, all, none)
