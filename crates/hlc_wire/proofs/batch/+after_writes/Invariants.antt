-- Each call of itself has one write less to go.
use Rattle.hlc_wire.proofs.batch.+after_writes.Given as goal

abbrev pub decreases-after_writes : goal.decreases-after_writes
decreases-after_writes l = l.count
