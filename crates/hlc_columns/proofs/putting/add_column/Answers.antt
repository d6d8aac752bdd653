-- The row goes into a column of its own; all others stay.
use Rattle.std.proofs.Common.{◌≡◌, ◌<◌, refl, sym, ap, subst, length, arith, All, None}
use Rattle.std.specs.Map.{lookup}
use Rattle.hlc_table_index.specs.Entries.{entries_in}
use Rattle.hlc_columns.specs.{Parts.new_row, Table.indexed_rows, Sizes.sizes_of, Sizes.with_row, Sizes.with_key}
use Rattle.hlc_table_column.specs.Cells.{value_bytes}
use Rattle.hlc_columns.proofs.{FoundLemmas.test, SizeLemmas.sizes_added, Inserted.all_inserted, Inserted.added_as}
use Rattle.hlc_columns.proofs.putting.add_column.Goals as goal

pub returns-clause-ok : goal.returns-clause-ok
returns-clause-ok c =
    added_as (new_row c.args.row) (entries_in c.args.columns.now) (entries_in c.insert_at.new.self)
    (indexed_rows c.args.columns.now) refl c.args.row.key.now c.in_ok-key.key c.of_row-column.result refl
    c.in_ok-key.ensures.bytes (sym c.requires.new) c.in_ok-insert_at.ensures.ok c.of_row-column.ensures

pub returns-clause-filled : goal.returns-clause-filled
returns-clause-filled c =
    let one = ap length c.of_row-column.ensures in
    subst (All (λ e. 0 < length e.1)) (sym c.in_ok-insert_at.ensures.ok)
    (all_inserted _ (entries_in c.args.columns.now) c.in_ok-key.key c.of_row-column.result c.requires.filled
    (omega (arith, one)))

pub returns-clause-sizes : goal.returns-clause-sizes
returns-clause-sizes c =
    subst (λ k. sizes_of (entries_in c.insert_at.new.self)
    ≡ with_key (with_row (sizes_of (entries_in c.args.columns.now)) (value_bytes c.args.row.value)) (length k))
    c.in_ok-key.ensures.bytes
    (sizes_added c.in_ok-key.key
    (record { stamp = c.args.row.stamp; node = c.args.row.node; value = c.args.row.value })
    c.of_row-column.result (entries_in c.args.columns.now) (entries_in c.insert_at.new.self)
    (subst (λ k. lookup (test k) (entries_in c.args.columns.now) ≡ None) (sym c.in_ok-key.ensures.bytes)
    c.requires.new) c.of_row-column.ensures c.in_ok-insert_at.ensures.ok)
