-- The pairs of the stores so far.
use Rattle.std.{proofs.Common.List, specs.Prelude.option_copied}
use Rattle.hlc_ranges.specs.Run.{Layout, Turn}
use Rattle.hlc_routing.specs.{Ranges.Represents, All.IsOpenAll, Listing.ArePairsOf}
use Rattle.hlc_routing.proofs.ranges.Ranges.gather.Given as goal

abbrev pub invariant-loop-store : goal.invariant-loop-store
invariant-loop-store l =
    (layout : Layout) (run : List Turn) → Represents layout l.self run → IsOpenAll layout l.snapshot run
    → ArePairsOf layout run l.snapshot.stamp l.from (option_copied l.to) l.store l.pairs.items
