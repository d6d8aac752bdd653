-- The tally is of the next stored keys, at the points of the open snapshots up to the stamp.
use Rattle.std.proofs.Common.{ap, sym, ◌∙◌}
use Rattle.hlc_vacuum_draft.specs.Plan.{TallyView}
use Rattle.hlc_core.proofs.store.Core.tally_next.Goals as goal

pub returns : goal.returns
returns c =
    let made = c.in_ok-tally_part.ensures.made in
    let points = sym (ap (λ (tally : TallyView). tally.points) made.is)
    ∙ c.in_ok-tally_part.ensures.points ∙ c.as_slice.ensures.value in
    rw (← c.self.view_is) (record {
      plan = made.plan;
      planned = record { made = made.made; points = rw points c.in_ok-points.ensures.points };
      is = made.is;
    })
