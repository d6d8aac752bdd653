-- The rows of the columns follow those that were made.
use Rattle.std.proofs.Common.{refl, ◌∙◌, ◌++◌, ap, subst, List, ℕ, length, length-append, arith, flat_map}
use Rattle.hlc_body.specs.Spelling.{row_bytes}
use Rattle.hlc_table_column.specs.Rows.{KeyCells}
use Rattle.hlc_frame.specs.Writing.{HasPut}
use Rattle.hlc_saved.{specs.Writing.HasColumns, proofs.Makes.some_bytes, proofs.Makes.last_at, proofs.Savers.rows_made}
use Rattle.hlc_saved.proofs.savings.Saver.make_rows.Goals as goal

pub returns-clause-made : goal.returns-clause-made
returns-clause-made c = λ tag kept read next has.
    let columns : List KeyCells = c.args.columns.now in
    rows_made c.args.self.now _ tag kept read 32 columns c.requires.read c.requires.more refl refl
    (c.in_ok-last.ensures.items ∙ c.key.ensures
    ∙ last_at c.args.self.now.last.items columns c.index-columns-columns.result c.requires.some
    c.index-columns-columns.is)
    refl c.requires.some next
    (subst (λ l. HasColumns columns l c.append_columns.new.out.items) c.new-made.ensures.items
    c.in_ok-append_columns.ensures.ok)
    (λ front body put.
    subst (λ (l : List ℕ). HasPut c.put.new.self front (body ++ l)) c.as_slice.ensures.value
    (c.put.ensures front body put))
    has

pub returns-clause-some : goal.returns-clause-some
returns-clause-some c = λ filled.
    let has = c.in_ok-append_columns.ensures.ok in
    let some = some_bytes c.args.columns.now has.0 c.requires.some filled has.1 in
    let long = ap length has.2 in
    let both = length-append c.new-made.result.items (flat_map row_bytes has.0) in
    (refl, omega (arith, some, long, both))
