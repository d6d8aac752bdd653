-- Each snapshot so far was closed where it was open, and all were or not.
use Rattle.std.{proofs.Common.◌≡◌, proofs.Common.List, specs.Prelude.IsTrue, specs.Prelude.◌↔◌}
use Rattle.hlc_ranges.specs.Run.{Layout, Turn}
use Rattle.hlc_routing.specs.{Ranges.Represents, All.each_closed, All.AreOpenUpto}
use Rattle.hlc_routing.proofs.ranges.Ranges.close_each.Given as goal

abbrev pub invariant-loop-store : goal.invariant-loop-store
invariant-loop-store l = record {
  division : l.self.division ≡ l.initial.self.division;
  closed : (layout : Layout) (run : List Turn) → Represents layout l.initial.self run
      → Represents layout l.self (each_closed layout l.ids l.store run);
  open' : (layout : Layout) (run : List Turn) → Represents layout l.initial.self run
      → IsTrue l.open ↔ AreOpenUpto layout run l.ids l.store;
}
