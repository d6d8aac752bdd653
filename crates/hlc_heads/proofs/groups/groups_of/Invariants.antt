-- Each group that was looked at has its least head.
use Rattle.std.proofs.Common.{ℕ, ◌<◌, ◌*◌, ◌+◌}
use Rattle.hlc_heads.specs.{Groups.IsLeastIn, Groups.group_at, declared.groups.TheConstants.GROUP}
use Rattle.hlc_heads.proofs.groups.groups_of.Given as goal

abbrev pub invariant-loop-group : goal.invariant-loop-group
invariant-loop-group l = record {
  found : (other : ℕ) → other < l.group
      → IsLeastIn l.links (other * GROUP) (other * GROUP + GROUP) (group_at l.groups other);
}
