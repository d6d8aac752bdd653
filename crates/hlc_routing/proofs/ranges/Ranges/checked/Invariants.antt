-- The stores so far have rows of their keys.
use Rattle.std.{proofs.Common.◌≡◌, proofs.Common.ℕ, proofs.Common.◌<◌, proofs.Common.Some, specs.Prelude.slice_get}
use Rattle.hlc_core.specs.StoreView.{StoreView}
use Rattle.hlc_routing.specs.Placing.{ArePlaced}
use Rattle.hlc_routing.proofs.ranges.Ranges.checked.Given as goal

abbrev pub invariant-loop-store : goal.invariant-loop-store
invariant-loop-store l =
    (t : ℕ) (other : StoreView) → t < l.store → slice_get l.stores.items t ≡ Some other
    → ArePlaced l.fn.division t other.rows
