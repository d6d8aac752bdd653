-- The last position has the last point.
use Rattle.std.proofs.Common.{◌≡◌, ◌<◌, ◌≤◌, true≢false, sym, ap, refl, arith, get_or}
use Rattle.hlc_rows.specs.declared.row.Row.{Row}
use Rattle.hlc_clock.specs.Points.{last_point}
use Rattle.hlc_witness.proofs.{PlaceLemmas.last_point-is, Ascending.is_gt-above}
use Rattle.hlc_witness.proofs.order.is_none_above.Goals as goal

pub returns-then-gt : goal.returns-then-gt
returns-then-gt c = (
  λ h. absurd (true≢false (sym h)),
  λ all.
      let below : (get_or c.args.rows.now c.loop-row.row-index c.row-item.result).stamp ≤ last_point c.args.points.now =
      all c.loop-row.row-index c.row-item.result c.loop-row-test.true in
      let own : c.row-item.result.stamp ≡ (get_or c.args.rows.now c.loop-row.row-index c.row-item.result).stamp =
      ap (λ (row : Row). row.stamp) c.row-item.is in
      let last = last_point-is c.args.points.now c.index-points-points.result c.requires c.index-points-points.is in
      let above : c.index-points-points.result < c.row-item.result.stamp =
      is_gt-above c.row-item.result.stamp c.index-points-points.result (sym c.if-gt.ensures) in
      absurd (omega arith),
)

pub returns : goal.returns
returns c = (
  λ _ k d lt.
      let last = last_point-is c.args.points.now c.index-points-points.result c.requires c.index-points-points.is in
      let below = c.loop-row.invariant k d (omega arith) in
      omega arith,
  λ _. refl,
)
