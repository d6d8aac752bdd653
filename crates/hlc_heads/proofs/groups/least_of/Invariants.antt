-- No group that was looked at is below the least so far, which is one of them; if there is none, no group has one.
use Rattle.hlc_heads.specs.Groups.{IsLeastOf}
use Rattle.hlc_heads.proofs.groups.least_of.Given as goal

abbrev pub invariant-loop-group : goal.invariant-loop-group
invariant-loop-group l = record {
  found : IsLeastOf l.group-index l.groups l.least;
}
