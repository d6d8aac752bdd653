-- Rows of the key go, or the key has none.
use Rattle.std.proofs.Common.{◌≡◌, ◌∙◌, List, [], ap, sym, subst, length, arith, take, drop, get_or, length-take-le}
use Rattle.std.proofs.lemmas.List.{length-map, get_or-map}
use Rattle.hlc_rows.specs.{declared.row.Row.Row, Rows.IsRowSet}
use Rattle.hlc_table_index.specs.Entries.{entries_in}
use Rattle.hlc_table_column.specs.Rows.{row_of, rows_with}
use Rattle.hlc_columns.specs.Table.{rows_kept, cells_at}
use Rattle.hlc_columns.proofs.{WalkLemmas.Entry, FoundLemmas.absent_rows}
use Rattle.hlc_columns.proofs.KeptOf.{rows_there, rows_left, filled_left, kept_row_set, none_of, kept_none}
use Rattle.hlc_columns.proofs.table.Table.keep_of.Goals.{After-len, In_default}
use Rattle.hlc_columns.proofs.table.Table.keep_of.Goals as goal

-- the number of rows of the key
its_many : (c : After-len) → length (rows_with c.args.key.now c.args.self.now)
    ≡ length (cells_at c.self.inside.columns c.in-Some.at c.in-Some.slot)
its_many c =
    ap (λ (rows : List Row). length (rows_with c.args.key.now rows)) (sym c.self.view_is)
    ∙ ap length (rows_there c.self.inside.columns c.args.key.now c.in-Some.at c.in-Some.slot c.in-Some.ensures.place
    c.in-Some.ensures.ascend)
    ∙ length-map (cells_at c.self.inside.columns c.in-Some.at c.in-Some.slot) (row_of c.args.key.now)

read_many : (c : After-len) → c.len.result ≡ length (cells_at c.self.inside.columns c.in-Some.at c.in-Some.slot)
read_many c =
    c.len.ensures ∙ ap length (ap (λ leaf. (get_or leaf c.in-Some.slot c.index-leaf-slot.result).1) c.leaf.ensures
    ∙ sym (get_or-map (λ (e : Entry). e.1) (get_or c.self.inside.columns c.in-Some.at []) c.in-Some.slot
    c.index-leaf-slot.result [] c.in-Some.ensures.place.1))

same_many : (c : After-len) → c.len.result ≡ length (rows_with c.args.key.now c.args.self.now)
same_many c = read_many c ∙ sym (its_many c)

pub split_at-first-requires : goal.split_at-first-requires
split_at-first-requires c =
    omega (arith, same_many ((goal.at.split_at-first-requires c).After-len), c.requires)

pub keep_column-requires-clause-many : goal.keep_column-requires-clause-many
keep_column-requires-clause-many c =
    let at = (goal.at.keep_column-requires-clause-many c).After-len in
    let e = same_many at in
    let le = c.requires in
    ap length c.split_at-first.ensures.first ∙ length-take-le c.len.result c.args.flags (omega (arith, e, le))
    ∙ read_many at

pub invariant_of-self : goal.invariant_of-self
invariant_of-self c =
    let at = (goal.at.invariant_of-self c).After-len in
    let e = same_many at in
    let le = c.requires in
    let long = ap length c.split_at-first.ensures.first
    ∙ length-take-le c.len.result c.args.flags (omega (arith, e, le)) ∙ read_many at in (
      filled_left c.self.inside.columns c.args.key.now c.in-Some.at c.in-Some.slot c.in-Some.ensures.place
          c.in-Some.ensures.ascend c.split_at-first.result.0 (entries_in c.keep_column.new.columns)
          c.keep_column.ensures.entries c.self.invariant.0,
      subst IsRowSet (sym (rows_left c.self.inside.columns c.args.key.now c.in-Some.at c.in-Some.slot
          c.in-Some.ensures.place c.in-Some.ensures.ascend c.split_at-first.result.0
          (entries_in c.keep_column.new.columns) long c.keep_column.ensures.entries))
          (kept_row_set c.args.key.now c.split_at-first.result.0 _ c.self.invariant.1),
      c.keep_column.ensures.sizes,
      c.keep_column.ensures.fit,
    )

pub returns-clause-kept : goal.returns-clause-kept
returns-clause-kept c =
    let at = (goal.at.returns-clause-kept c).After-len in
    let e = same_many at in
    let le = c.requires in
    let long = ap length c.split_at-first.ensures.first
    ∙ length-take-le c.len.result c.args.flags (omega (arith, e, le)) ∙ read_many at in
    rows_left c.self.inside.columns c.args.key.now c.in-Some.at c.in-Some.slot
    c.in-Some.ensures.place c.in-Some.ensures.ascend c.split_at-first.result.0
    (entries_in c.keep_column.new.columns) long c.keep_column.ensures.entries
    ∙ ap (λ (rows : List Row). rows_kept c.args.key.now c.split_at-first.result.0 rows) c.self.view_is
    ∙ ap (λ flags. rows_kept c.args.key.now flags c.args.self.now)
    (c.split_at-first.ensures.first ∙ ap (λ n. take n c.args.flags) e)

pub returns-clause-left : goal.returns-clause-left
returns-clause-left c =
    c.split_at-first.ensures.others
    ∙ ap (λ n. drop n c.args.flags) (same_many ((goal.at.returns-clause-left c).After-len))

-- a key without rows
its_none : (c : In_default) → rows_with c.args.key.now c.args.self.now ≡ []
its_none c =
    ap (rows_with c.args.key.now) (sym c.self.view_is)
    ∙ absent_rows c.args.key.now (entries_in c.self.inside.columns) c.in_default.ensures.place

pub returns-in_default-clause-kept : goal.returns-in_default-clause-kept
returns-in_default-clause-kept c =
    sym (kept_none c.args.key.now
    (take (length (rows_with c.args.key.now c.args.self.now)) c.args.flags) c.args.self.now
    (none_of c.args.key.now c.args.self.now (its_none c)))

pub returns-in_default-clause-left : goal.returns-in_default-clause-left
returns-in_default-clause-left c = ap (λ rows. drop (length rows) c.args.flags) (sym (its_none c))
