-- A candidate would be found.
use Rattle.hlc_rows.proofs.NewestLemmas.{no_newest_no_row}
use Rattle.hlc_rows.proofs.laws.no_newest_no_row.Goals as goal

pub returns : goal.returns
returns c = no_newest_no_row
