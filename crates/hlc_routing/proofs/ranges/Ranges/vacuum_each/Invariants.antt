-- Each store so far was vacuumed.
use Rattle.std.proofs.Common.{◌≡◌, ◌≤◌, List, length, vec_capacity}
use Rattle.hlc_ranges.specs.Run.{Layout, Turn}
use Rattle.hlc_routing.{specs.Ranges.Represents, proofs.Vacuuming.AreVacuumedTo}
use Rattle.hlc_routing.proofs.ranges.Ranges.vacuum_each.Given as goal

abbrev pub invariant-loop-store : goal.invariant-loop-store
invariant-loop-store l = record {
  division : l.self.division ≡ l.initial.self.division;
  many : length l.reports.items ≡ l.store;
  room : l.stores ≤ vec_capacity l.reports;
  vacuumed : (layout : Layout) (run : List Turn) → Represents layout l.initial.self run
      → AreVacuumedTo layout l.self l.at run l.reports.items l.store;
}
