-- The boundaries so far are at or below the key, and the others are left.
use Rattle.std.proofs.Common.{◌≡◌, ◌+◌, drop}
use Rattle.hlc_routing.specs.Division.{store_between}
use Rattle.hlc_routing.proofs.division.store_between.Given as goal

abbrev pub invariant-loop-boundary : goal.invariant-loop-boundary
invariant-loop-boundary l = record {
  so_far : l.store ≡ l.boundary-index;
  left : l.store + store_between (drop l.boundary-index l.boundaries) l.key ≡ store_between l.boundaries l.key;
}
