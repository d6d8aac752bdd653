-- Two greatest rows of a row set are one row.
use Rattle.hlc_rows.proofs.NewestLemmas.{newest_is_unique}
use Rattle.hlc_rows.proofs.laws.newest_is_unique.Goals as goal

pub returns : goal.returns
returns c = newest_is_unique
