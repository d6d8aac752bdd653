-- Each call of itself has one write less to go.
use Rattle.std.specs.Prelude.{length}
use Rattle.hlc_wire.proofs.batch.+writes_size.Given as goal

abbrev pub decreases-writes_size : goal.decreases-writes_size
decreases-writes_size l = length l.writes
