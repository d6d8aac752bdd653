-- The rows of the writes before are in, and those of the writes that are left are new.
use Rattle.std.proofs.Common.{length}
use Rattle.hlc_columns.proofs.Removed.{Begun}
use Rattle.hlc_columns.proofs.table.Table.insert_writes.Given as goal

abbrev pub invariant-loop-first : goal.invariant-loop-first
invariant-loop-first l = Begun l.fn.self l.fn.node l.fn.stamp l.fn.writes l.self l.rest

abbrev pub decreases-loop-first : goal.decreases-loop-first
decreases-loop-first l = length l.rest
