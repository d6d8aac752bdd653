-- If all flags of the column are set, nothing changes; otherwise its rows are dropped.
use Rattle.std.proofs.Common.{◌≡◌, ◌∙◌, [], ap, sym, length, take, drop, get_or}
use Rattle.std.{specs.List.items_where_true, proofs.lemmas.List.get_or-map}
use Rattle.hlc_table_index.specs.Entries.{with_value_in}
use Rattle.hlc_columns.{specs.Table.cells_at, proofs.dropping.keep_at.Goals.After-split_at-first}
use Rattle.hlc_columns.proofs.{WalkLemmas.Entry, Dropped.same_value, Dropped.all_set}
use Rattle.hlc_columns.proofs.dropping.keep_at.Goals as goal

its_many : (c : After-split_at-first) → c.len.result ≡ length (cells_at c.args.columns.now c.args.at c.args.slot)
its_many c =
    c.len.ensures ∙ ap length (ap (λ leaf. (get_or leaf c.args.slot c.index-leaf-slot.result).1) c.leaf.ensures
    ∙ sym (get_or-map (λ (e : Entry). e.1) (get_or c.args.columns.now c.args.at []) c.args.slot
    c.index-leaf-slot.result [] c.requires.inside))

first_many : (c : After-split_at-first)
    → length c.split_at-first.result.0 ≡ length (cells_at c.args.columns.now c.args.at c.args.slot)
first_many c = c.split_at-first.ensures.many ∙ its_many c

first_is : (c : After-split_at-first) → c.split_at-first.result.0
    ≡ take (length (cells_at c.args.columns.now c.args.at c.args.slot)) c.args.flags
first_is c = c.split_at-first.ensures.first ∙ ap (λ n. take n c.args.flags) (its_many c)

rest_is : (c : After-split_at-first) → c.split_at-first.result.1
    ≡ drop (length (cells_at c.args.columns.now c.args.at c.args.slot)) c.args.flags
rest_is c = c.split_at-first.ensures.others ∙ ap (λ n. drop n c.args.flags) (its_many c)

pub returns-then-are_set-clause-kept : goal.returns-then-are_set-clause-kept
returns-then-are_set-clause-kept c =
    let at = (goal.at.returns-then-are_set-clause-kept c).After-split_at-first in
    let cells = cells_at c.args.columns.now c.args.at c.args.slot in
    sym (same_value c.args.columns.now c.args.at c.args.slot c.requires.leaf c.requires.inside)
    ∙ ap (with_value_in c.args.columns.now c.args.at c.args.slot)
    (sym (all_set c.split_at-first.result.0 cells (first_many at) (sym c.are_set.ensures ∙ c.if-are_set.true))
    ∙ ap (λ flags. items_where_true flags cells) (first_is at))

pub returns-then-are_set-clause-left : goal.returns-then-are_set-clause-left
returns-then-are_set-clause-left c = rest_is ((goal.at.returns-then-are_set-clause-left c).After-split_at-first)

pub drop_at-requires-clause-many : goal.drop_at-requires-clause-many
drop_at-requires-clause-many c = first_many ((goal.at.drop_at-requires-clause-many c).After-split_at-first)

pub returns-clause-kept : goal.returns-clause-kept
returns-clause-kept c =
    let at = (goal.at.returns-clause-kept c).After-split_at-first in
    let cells = cells_at c.args.columns.now c.args.at c.args.slot in
    c.drop_at.ensures.kept
    ∙ ap (λ flags. with_value_in c.args.columns.now c.args.at c.args.slot (items_where_true flags cells)) (first_is at)

pub returns-clause-left : goal.returns-clause-left
returns-clause-left c = rest_is ((goal.at.returns-clause-left c).After-split_at-first)
