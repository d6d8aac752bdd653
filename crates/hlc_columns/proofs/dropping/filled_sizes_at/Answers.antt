-- A column without rows has no part in the sizes.
use Rattle.std.proofs.Common.{◌≡◌, ◌∙◌, [], ap, sym, arith, length}
use Rattle.std.proofs.lemmas.List.Sums.{sum_by-cons}
use Rattle.hlc_columns.specs.{Table.key_at, Table.cells_at, Sizes.sizes_of, Sizes.Sizes}
use Rattle.hlc_columns.proofs.{WalkLemmas.Entry, KeptOf.filled_some, KeptOf.filled_none}
use Rattle.hlc_columns.proofs.dropping.filled_sizes_at.Goals.{After-sizes_at-sizes}
use Rattle.hlc_columns.proofs.dropping.filled_sizes_at.Goals as goal

-- the column at the position
abbrev own : After-sizes_at-sizes → Entry
own c = (key_at c.args.columns.now c.args.at c.args.slot, cells_at c.args.columns.now c.args.at c.args.slot)

its_rows : (c : After-sizes_at-sizes) → c.sizes_at-sizes.result.rows ≡ length (own c).1
its_rows c =
    ap (λ (s : Sizes). s.rows) c.sizes_at-sizes.ensures
    ∙ sum_by-cons (λ (e : Entry). length e.1) (own c) [] ∙ omega arith

pub returns-then-sizes-eq0 : goal.returns-then-sizes-eq0
returns-then-sizes-eq0 c =
    let at = (goal.at.returns-then-sizes-eq0 c).After-sizes_at-sizes in
    c.none.ensures ∙ ap sizes_of (sym (filled_none (own at) (sym (its_rows at) ∙ c.if-sizes-eq0.true)))

pub returns : goal.returns
returns c =
    let at = (goal.at.returns c).After-sizes_at-sizes in
    c.sizes_at-sizes.ensures
    ∙ ap sizes_of (sym (filled_some (own at) (λ none. c.if-sizes-eq0.false (its_rows at ∙ none))))
