-- The row goes to the end of the column of the key at that position; all others stay.
use Rattle.std.proofs.Common.{◌<◌, ◌≤◌, refl, sym, subst, length, arith, All, List, ℕ, [], get_or, ap, ◌∙◌}
use Rattle.std.{specs.Map.set_value, proofs.lemmas.Result.on_ok_weaker, proofs.lemmas.Result.on_err_weaker}
use Rattle.hlc_table_index.specs.Entries.{entries_in, keys_in, with_value_in, IsEntryAt}
use Rattle.hlc_table_index.proofs.EntryLemmas.{entry_found, entry_written}
use Rattle.hlc_columns.{specs.Table.indexed_rows, proofs.FoundLemmas.test, proofs.SizeLemmas.sizes_pushed}
use Rattle.hlc_columns.proofs.Inserted.{all_set, found_some, pushed_as, kept_as, same_set}
use Rattle.hlc_columns.proofs.putting.push_at.Goals as goal

-- the key at the position
abbrev own : goal.After-columns-1 → List ℕ
own c = get_or (keys_in (get_or c.args.columns.now c.args.at [])) c.args.slot []

place : (c : goal.After-columns-1) → IsEntryAt c.args.columns.now (own c) c.args.at c.args.slot
place c = (c.requires.leaf, c.requires.inside, refl)

pub returns-clause-ok : goal.returns-clause-ok
returns-clause-ok c key there =
    on_ok_weaker c.push.result
    (λ more. pushed_as (record { key = key; stamp = c.args.stamp; node = c.args.node; value = c.args.value })
    (entries_in c.args.columns.now)
    (entries_in (with_value_in c.args.columns.now c.args.at c.args.slot c.push.new.self))
    (indexed_rows c.args.columns.now) refl c.value_mut-column.ensures.ascend key c.value_mut-column.result.now
    c.push.new.self refl
    (sym (entry_found c.args.columns.now key c.args.at c.args.slot there c.value_mut-column.ensures.ascend
    c.value_mut-column.result.now c.value_mut-column.ensures.value))
    (entry_written c.args.columns.now key c.args.at c.args.slot there c.value_mut-column.ensures.ascend
    c.push.new.self) more) c.push.ensures.ok

pub returns-clause-unchanged : goal.returns-clause-unchanged
returns-clause-unchanged c =
    on_err_weaker c.push.result
    (λ stays. kept_as (record { key = own c; stamp = c.args.stamp; node = c.args.node; value = c.args.value })
    (entries_in c.args.columns.now)
    (entries_in (with_value_in c.args.columns.now c.args.at c.args.slot c.push.new.self))
    (indexed_rows c.args.columns.now) refl (own c) c.value_mut-column.result.now c.push.new.self
    (sym (entry_found c.args.columns.now (own c) c.args.at c.args.slot (place c) c.value_mut-column.ensures.ascend
    c.value_mut-column.result.now c.value_mut-column.ensures.value))
    (entry_written c.args.columns.now (own c) c.args.at c.args.slot (place c) c.value_mut-column.ensures.ascend
    c.push.new.self) stays) c.push.ensures.unchanged

pub returns-clause-filled : goal.returns-clause-filled
returns-clause-filled c =
    let found = sym (entry_found c.args.columns.now (own c) c.args.at c.args.slot (place c)
    c.value_mut-column.ensures.ascend
    c.value_mut-column.result.now c.value_mut-column.ensures.value) in
    let some : 0 < length c.value_mut-column.result.now =
    found_some (test (own c)) (entries_in c.args.columns.now) c.value_mut-column.result.now c.requires.filled found in
    let grows : length c.value_mut-column.result.now ≤ length c.push.new.self = c.push.ensures.grows in
    subst (All (λ e. 0 < length e.1))
    (sym (entry_written c.args.columns.now (own c) c.args.at c.args.slot (place c) c.value_mut-column.ensures.ascend
    c.push.new.self))
    (all_set (test (own c)) (entries_in c.args.columns.now) c.push.new.self c.requires.filled
    (omega (arith, some, grows)))

pub returns-clause-sizes : goal.returns-clause-sizes
returns-clause-sizes c =
    on_ok_weaker c.push.result
    (λ more. sizes_pushed (own c) (record { stamp = c.args.stamp; node = c.args.node; value = c.args.value })
    c.value_mut-column.result.now c.push.new.self (entries_in c.args.columns.now)
    (entries_in (with_value_in c.args.columns.now c.args.at c.args.slot c.push.new.self))
    (entry_found c.args.columns.now (own c) c.args.at c.args.slot (place c) c.value_mut-column.ensures.ascend
    c.value_mut-column.result.now c.value_mut-column.ensures.value) more
    (entry_written c.args.columns.now (own c) c.args.at c.args.slot (place c) c.value_mut-column.ensures.ascend
    c.push.new.self)) c.push.ensures.ok

pub returns-clause-same : goal.returns-clause-same
returns-clause-same c =
    on_err_weaker c.push.result
    (λ stays. entry_written c.args.columns.now (own c) c.args.at c.args.slot (place c)
    c.value_mut-column.ensures.ascend c.push.new.self
    ∙ ap (set_value (test (own c)) (entries_in c.args.columns.now)) stays
    ∙ same_set (own c) c.value_mut-column.result.now (entries_in c.args.columns.now)
    (entry_found c.args.columns.now (own c) c.args.at c.args.slot (place c) c.value_mut-column.ensures.ascend
    c.value_mut-column.result.now c.value_mut-column.ensures.value)) c.push.ensures.unchanged
