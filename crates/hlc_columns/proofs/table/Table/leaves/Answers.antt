-- The leaves listed are those of the index.
use Rattle.std.proofs.Common.{◌≡◌, ◌<◌, ◌∙◌, List, All, length, map, ap, sym, subst}
use Rattle.std.proofs.lemmas.{List.Elements.All-map, Result.IfOk-weaker}
use Rattle.hlc_rows.specs.Rows.{newest}
use Rattle.hlc_table_index.specs.Entries.{entries_in}
use Rattle.hlc_table_column.specs.Rows.{KeyCells, KeysAscend, AreAlone, rows_in}
use Rattle.hlc_columns.specs.Table.{columns_in, keyed}
use Rattle.hlc_columns.proofs.{FoundLemmas.newest_alone, table.Table.leaves.Goals.After-list_leaves}
use Rattle.hlc_columns.proofs.Keys.{rows_keyed, keys_keyed, leaves_keyed}
use Rattle.hlc_columns.proofs.table.Table.leaves.Goals as goal

-- the columns of the leaves listed are those of all entries
all_listed : (c : After-list_leaves) (list : List (List KeyCells)) → list ≡ map keyed c.self.inside.columns
    → columns_in list ≡ keyed (entries_in c.self.inside.columns)
all_listed c list is = ap columns_in is ∙ leaves_keyed c.self.inside.columns

pub returns-clause-rows : goal.returns-clause-rows
returns-clause-rows c =
    let at = (goal.at.returns-clause-rows c).After-list_leaves in
    IfOk-weaker c.list_leaves.result _ _
    (λ list is. ap rows_in (all_listed at list.items is) ∙ rows_keyed (entries_in c.self.inside.columns)
    ∙ c.self.view_is)
    c.list_leaves.ensures.list

pub returns-clause-ascend : goal.returns-clause-ascend
returns-clause-ascend c =
    let at = (goal.at.returns-clause-ascend c).After-list_leaves in
    IfOk-weaker c.list_leaves.result _ _
    (λ list is. subst KeysAscend (sym (all_listed at list.items is))
    (keys_keyed (entries_in c.self.inside.columns) c.list_leaves.ensures.ascend))
    c.list_leaves.ensures.list

pub returns-clause-filled : goal.returns-clause-filled
returns-clause-filled c =
    let at = (goal.at.returns-clause-filled c).After-list_leaves in
    IfOk-weaker c.list_leaves.result _ _
    (λ list is. subst (All (λ (one : KeyCells). 0 < length one.cells)) (sym (all_listed at list.items is))
    (All-map (λ (one : KeyCells). 0 < length one.cells) _ (entries_in c.self.inside.columns) c.self.invariant.0))
    c.list_leaves.ensures.list

pub returns-clause-alone : goal.returns-clause-alone
returns-clause-alone c =
    let at = (goal.at.returns-clause-alone c).After-list_leaves in
    IfOk-weaker c.list_leaves.result _ _
    (λ list is. subst AreAlone (sym (all_listed at list.items is))
    (λ one i bound.
    ap (λ rows. newest rows one.key bound) (rows_keyed (entries_in c.self.inside.columns))
    ∙ newest_alone (entries_in c.self.inside.columns) c.list_leaves.ensures.ascend one i bound))
    c.list_leaves.ensures.list
