-- The counts of the nodes so far are there.
use Rattle.std.{proofs.Common.◌≡◌, proofs.Common.List, proofs.Common.map, specs.List.range_with_len}
use Rattle.hlc_core.specs.{Past.Step, Past.count, StoreView.Represents}
use Rattle.hlc_storm_report.proofs.found.counts_of.Given as goal

abbrev pub invariant-loop-node : goal.invariant-loop-node
invariant-loop-node l =
    (past : List Step) → Represents l.core past
    → l.counts.items ≡ map (λ node. count node past) (range_with_len 0 l.node)
