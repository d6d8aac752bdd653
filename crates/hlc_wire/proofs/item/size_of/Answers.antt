-- A batch that is not refused has an encoding.
use Rattle.hlc_wire.proofs.BatchLemmas.{batch_fits}
use Rattle.hlc_wire.proofs.item.size_of.Goals as goal

pub writes_size-requires-clause-fits : goal.writes_size-requires-clause-fits
writes_size-requires-clause-fits c =
    (batch_fits c.in-Many.writes (rw c.in-Many.ensures at c.requires)).2
