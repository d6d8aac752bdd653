-- Each call of itself has one write less to go.
use Rattle.std.specs.Prelude.{length}
use Rattle.hlc_wire.proofs.batch.+put_writes.Given as goal

abbrev pub decreases-put_writes : goal.decreases-put_writes
decreases-put_writes l = length l.writes
