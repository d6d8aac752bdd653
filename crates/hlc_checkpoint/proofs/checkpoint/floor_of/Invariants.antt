-- The least of those so far that have not retired.
use Rattle.std.proofs.Common.{◌≡◌}
use Rattle.hlc_heads.specs.{Low.least_left, Heads.link_at}
use Rattle.hlc_checkpoint.proofs.checkpoint.floor_of.Given as goal

abbrev pub invariant-loop-link : goal.invariant-loop-link
invariant-loop-link l =
    l.least ≡ least_left (λ k. (link_at l.links k).head) (λ k. (link_at l.links k).retired) l.link-index
