-- The last position has the last point.
use Rattle.hlc_witness.proofs.PlaceLemmas.{last_point-is}
use Rattle.hlc_vacuum_draft.proofs.points.last_of.Goals as goal

pub returns : goal.returns
returns c = last_point-is c.args.points.now c.index-points-points.result c.requires c.index-points-points.is
