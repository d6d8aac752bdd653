-- A row of another key is no candidate.
use Rattle.hlc_rows.proofs.NewestLemmas.{newest_after_others, newest_before_others}
use Rattle.hlc_rows.proofs.laws.other_keys_do_not_count.Goals as goal

pub returns : goal.returns
returns c = record { before = newest_after_others; after = newest_before_others }
