-- No head that was looked at is below the least so far, which is one of them; if there is none, all nodes that were
-- looked at have retired.
use Rattle.hlc_heads.specs.Groups.{IsLeastIn}
use Rattle.hlc_heads.proofs.groups.least_in.Given as goal

abbrev pub invariant-loop-node : goal.invariant-loop-node
invariant-loop-node l = record {
  found : IsLeastIn l.links l.first l.node l.least;
}
