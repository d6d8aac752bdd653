-- The rows of the later writes go out first, and then that of the first one.
use Rattle.std.proofs.Common.{◌≡◌, ◌∙◌, ◌∷◌, ◌-◌, refl, ap, subst, take}
use Rattle.hlc_rows.proofs.TwiceLemmas.{take-more}
use Rattle.hlc_rows.specs.{Spelled.write_seen, Writes.row_written, Writes.rows_written}
use Rattle.hlc_columns.{specs.Table.AllInserted, proofs.Removed.first-left}
use Rattle.hlc_columns.proofs.table.Table.+remove_first.Goals as goal

pub returns : goal.returns
returns t c old node stamp all' =
    let write = write_seen c.in-Some.first in
    let row = row_written node stamp write in
    let fewer = c.args.count - 1 in
    let is : take c.args.count c.args.writes ≡ write ∷ take fewer c.in-Some.others =
    ap (take c.args.count) c.in-Some.ensures ∙ take-more c.args.count write c.in-Some.others c.if-count-eq0.false in
    c.remove_last.ensures old row refl
    (first-left old row (rows_written node stamp (take fewer c.in-Some.others)) c.args.self.now
    c.remove_first.new.self
    (subst (λ writes. AllInserted old (rows_written node stamp writes) c.args.self.now) is all')
    (λ one rest. c.remove_first.ensures one node stamp rest))
