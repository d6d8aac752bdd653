-- Rows of accepted items have keys of their store.
use Rattle.hlc_ranges.proofs.NewestWrites.{other-none}
use Rattle.hlc_ranges.proofs.keys_stay_in_their_store.Goals as goal

pub returns : goal.returns
returns c = other-none
