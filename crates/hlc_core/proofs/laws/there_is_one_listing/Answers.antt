-- Both list the same pairs in the one order of their keys.
use Rattle.hlc_core.proofs.ListingLemmas.{one-listing}
use Rattle.hlc_core.proofs.laws.there_is_one_listing.Goals as goal

pub returns : goal.returns
returns c = one-listing
