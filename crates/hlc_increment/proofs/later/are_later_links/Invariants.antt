-- Each of the links so far may be the older one later on.
use Rattle.std.proofs.Common.{ℕ, ◌<◌, length}
use Rattle.hlc_heads.specs.Heads.{link_at}
use Rattle.hlc_increment.specs.Increment.{IsLaterLink}
use Rattle.hlc_increment.proofs.later.are_later_links.Given as goal

abbrev pub invariant-loop-link : goal.invariant-loop-link
invariant-loop-link l = (k : ℕ) → k < length l.yielded → IsLaterLink (link_at l.older k) (link_at l.newer k)
