-- If no flag is unset, the flagged rows are all rows.
use Rattle.std.proofs.Common.{◌≡◌, count_by, not, sym, arith}
use Rattle.hlc_vacuum_draft.proofs.ChosenLemmas.{all_chosen}
use Rattle.hlc_vacuum.proofs.applying.drop_rows.Goals as goal

pub returns-else-dropped-gt0 : goal.returns-else-dropped-gt0
returns-else-dropped-gt0 c =
    let none : count_by not c.args.keep ≡ 0 = omega arith in
    sym (all_chosen c.args.keep c.args.table.now c.requires.each none)
