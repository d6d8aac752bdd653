-- What refuses an item or a join depends on the log alone.
use Rattle.hlc_replicas.proofs.PlaceLemmas.{can-meet}
use Rattle.hlc_replicas.proofs.places_of_one_log_can_meet.Goals as goal

pub returns : goal.returns
returns c = can-meet
