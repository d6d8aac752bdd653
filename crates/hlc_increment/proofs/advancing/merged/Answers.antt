-- The rows up to the stamp, with those above it, are a row set.
use Rattle.std.proofs.Common.{◌++◌, ◌∙◌, ap, sym, subst, List, IsPermutation}
use Rattle.hlc_rows.specs.{declared.row.Row.Row, Rows.IsRowSet}
use Rattle.hlc_increment.proofs.AdvanceLemmas.{merged-row_set}
use Rattle.hlc_increment.proofs.advancing.merged.Goals as goal

pub sort-requires : goal.sort-requires
sort-requires c = subst IsRowSet (sym (c.in_ok-append.ensures.items
    ∙ ap (λ (rows : List Row). rows ++ c.args.upper.items) c.keep_up_to.ensures))
    (merged-row_set c.args.since c.args.lower.items c.args.upper.items c.requires.lower c.requires.upper
    c.requires.above)

pub returns-clause-rows : goal.returns-clause-rows
returns-clause-rows c = subst (λ rows. IsPermutation rows c.sort.new.rows.items)
    (c.in_ok-append.ensures.items ∙ ap (λ (rows : List Row). rows ++ c.args.upper.items) c.keep_up_to.ensures)
    c.sort.ensures.same
