-- Each call of itself has one write less to go.
use Rattle.hlc_wire.proofs.batch.+are_writes.Given as goal

abbrev pub decreases-are_writes : goal.decreases-are_writes
decreases-are_writes l = l.count
