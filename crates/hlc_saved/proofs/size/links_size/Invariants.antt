-- The size of those so far, which fit.
use Rattle.std.proofs.Common.{◌≡◌, ℕ, ◌+◌, ◌*◌, ◌<◌, get_or}
use Rattle.hlc_intake.specs.IntakeView.{IntakeView}
use Rattle.hlc_body.specs.Spelling.{LinkFits}
use Rattle.hlc_saved.proofs.size.links_size.Given as goal

abbrev pub invariant-loop-link : goal.invariant-loop-link
invariant-loop-link l = record {
  size : l.size ≡ 2 + 17 * l.link-index;
  fits : (k : ℕ) (d : IntakeView) → k < l.link-index → LinkFits (get_or l.links k d);
}
