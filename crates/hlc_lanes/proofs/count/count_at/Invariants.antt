-- The stamps before the position are counted.
use Rattle.std.proofs.Common.{◌≡◌, ◌-◌, ◌≤◌, length, take, leb, count_by}
use Rattle.hlc_lanes.proofs.count.count_at.Given as goal

abbrev pub invariant-loop-at : goal.invariant-loop-at
invariant-loop-at l = record {
  counted : l.count ≡ count_by (λ s. leb s l.bound) (take l.at l.stamps);
  at_most : l.count ≤ l.at;
  inside : l.at ≤ length l.stamps;
}

abbrev pub decreases-loop-at : goal.decreases-loop-at
decreases-loop-at l = length l.stamps - l.at
