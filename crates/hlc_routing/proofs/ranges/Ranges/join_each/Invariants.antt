-- The node has joined each store so far.
use Rattle.std.proofs.Common.{◌≡◌, ◌≤◌, List, length, vec_capacity}
use Rattle.hlc_ranges.specs.Run.{Layout, Turn}
use Rattle.hlc_routing.{specs.Ranges.Represents, proofs.Joining.HaveJoinedTo}
use Rattle.hlc_routing.proofs.ranges.Ranges.join_each.Given as goal

abbrev pub invariant-loop-store : goal.invariant-loop-store
invariant-loop-store l = record {
  division : l.self.division ≡ l.initial.self.division;
  many : length l.made.items ≡ l.store;
  room : l.stores ≤ vec_capacity l.made;
  joined : (layout : Layout) (run : List Turn) → Represents layout l.initial.self run
      → HaveJoinedTo layout l.self run l.made.items l.store;
}
