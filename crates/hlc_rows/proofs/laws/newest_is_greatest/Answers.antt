-- The newest row is what `newest` finds by going down the list.
use Rattle.hlc_rows.proofs.NewestLemmas.{newest_is_greatest}
use Rattle.hlc_rows.proofs.laws.newest_is_greatest.Goals as goal

pub returns : goal.returns
returns c = newest_is_greatest
