-- This many new nodes are made.
use Rattle.std.proofs.Common.{◌≡◌}
use Rattle.hlc_world.specs.WorldView.{fresh_issuers}
use Rattle.hlc_world.proofs.world.fresh_nodes.Given as goal

abbrev pub invariant-loop-id : goal.invariant-loop-id
invariant-loop-id l = l.made.items ≡ fresh_issuers l.id
