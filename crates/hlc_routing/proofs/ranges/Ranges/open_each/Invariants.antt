-- Each store so far has opened the snapshot.
use Rattle.std.proofs.Common.{◌≡◌, ◌≤◌, List, length, vec_capacity}
use Rattle.hlc_ranges.specs.Run.{Layout, Turn}
use Rattle.hlc_routing.specs.{Ranges.Represents, All.HasOpenedTo}
use Rattle.hlc_routing.proofs.ranges.Ranges.open_each.Given as goal

abbrev pub invariant-loop-store : goal.invariant-loop-store
invariant-loop-store l = record {
  division : l.self.division ≡ l.initial.self.division;
  counted : length l.ids.items ≡ l.store;
  room : l.many ≤ vec_capacity l.ids;
  opened : (layout : Layout) (run : List Turn) → Represents layout l.initial.self run
      → HasOpenedTo layout l.self l.stamp run l.ids.items l.store;
}
