-- It is true for each of those so far.
use Rattle.std.proofs.Common.{ℕ, ◌<◌, get_or}
use Rattle.hlc_intake.specs.IntakeView.{IntakeView}
use Rattle.hlc_checkpoint.specs.StoreView.{HasLastItem}
use Rattle.hlc_checkpoint.proofs.checkpoint.did_retired_issue.Given as goal

abbrev pub invariant-loop-link : goal.invariant-loop-link
invariant-loop-link l = (k : ℕ) (d : IntakeView) → k < l.link-index → HasLastItem (get_or l.links k d)
