-- A row that is a candidate at one stamp is a candidate at the other.
use Rattle.hlc_rows.proofs.NewestLemmas.{newest_stays}
use Rattle.hlc_rows.proofs.laws.newest_stays.Goals as goal

pub returns : goal.returns
returns c = newest_stays
