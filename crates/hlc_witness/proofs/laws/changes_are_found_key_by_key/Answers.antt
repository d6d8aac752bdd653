-- The changes of one key ascend with the points, and each key is above the ones before it.
use Rattle.hlc_witness.proofs.ChangeLemmas.{changes_are_found_key_by_key}
use Rattle.hlc_witness.proofs.laws.changes_are_found_key_by_key.Goals as goal

pub returns : goal.returns
returns c = changes_are_found_key_by_key
