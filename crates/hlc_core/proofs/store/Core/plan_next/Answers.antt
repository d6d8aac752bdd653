-- The plan is of the next stored keys, at the points of the open snapshots up to the stamp.
use Rattle.hlc_core.proofs.store.Core.plan_next.Goals as goal

pub returns : goal.returns
returns c = rw (← c.self.view_is) (record {
  made = c.in_ok-plan_part.ensures.made;
  points = rw (c.in_ok-plan_part.ensures.points, c.as_slice.ensures.value) c.in_ok-points.ensures.points;
})
