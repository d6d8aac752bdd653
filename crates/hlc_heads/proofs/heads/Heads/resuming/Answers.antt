-- The least of all groups is the floor.
use Rattle.std.proofs.Common.{List, subst, sym}
use Rattle.hlc_intake.specs.IntakeView.{IntakeView}
use Rattle.hlc_heads.specs.{Heads.HeadsView, Heads.IsFloor, Groups.AreGroups}
use Rattle.hlc_heads.proofs.LeastGroups.{found_floor}
use Rattle.hlc_heads.proofs.heads.Heads.resuming.Goals as goal

pub invariant_of-result : goal.invariant_of-result
invariant_of-result c =
    let marks : HeadsView = record { links = c.args.links.items; top = c.args.top } in
    let grouped : AreGroups marks.links c.groups_of-groups.result =
    subst (λ (links : List IntakeView). AreGroups links c.groups_of-groups.result) c.deref.ensures.value
    c.groups_of-groups.ensures in (
      c.requires,
      subst (λ floor. IsFloor marks floor) (sym c.unwrap_or-floor.ensures)
          (found_floor marks c.groups_of-groups.result c.least_of.result c.requires.few grouped c.least_of.ensures),
      grouped,
    )
