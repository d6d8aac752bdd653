-- Each store so far has the snapshot open.
use Rattle.std.proofs.Common.{List}
use Rattle.hlc_ranges.specs.Run.{Layout, Turn}
use Rattle.hlc_routing.{specs.Ranges.Represents, proofs.OpenAll.IsOpenUpto}
use Rattle.hlc_routing.proofs.ranges.Ranges.is_open_all.Given as goal

abbrev pub invariant-loop-store : goal.invariant-loop-store
invariant-loop-store l =
    (layout : Layout) (run : List Turn) → Represents layout l.self run → IsOpenUpto layout l.snapshot run l.store
