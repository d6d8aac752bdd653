-- The least of all groups is the floor, which does not change if the node's head was above it.
use Rattle.std.proofs.{Common.rules, Common.◌≢◌, Common.List, Common.subst, lemmas.Grind.common_steps}
use Rattle.hlc_intake.specs.IntakeView.{IntakeView}
use Rattle.hlc_heads.specs.{Heads.HeadsView, Heads.IsSized, Heads.advanced, Heads.link_at, Groups.AreGroups}
use Rattle.hlc_heads.proofs.LeastGroups.{found_floor, floor-stays}
use Rattle.hlc_heads.proofs.heads.Heads.advance.Goals as goal

pub invariant_of-self : goal.invariant_of-self
invariant_of-self c =
    let was : HeadsView = record { links = c.self.inside.links.items; top = c.self.inside.top } in
    let marks : HeadsView = advanced was c.args.node c.args.link in
    let sized : IsSized marks = search (rules, common_steps) in
    let grouped : AreGroups marks.links c.regroup.new.groups =
    subst (λ (links : List IntakeView). AreGroups links c.regroup.new.groups) c.deref.ensures.value c.regroup.ensures in
    rw (c.unwrap_or-self-inside.ensures, c.greater-self-inside.ensures, c.head.ensures) (
      sized,
      found_floor marks c.regroup.new.groups c.least_of.result sized.few grouped c.least_of.ensures,
      grouped,
    )

pub invariant_of-self-else-eq : goal.invariant_of-self-else-eq
invariant_of-self-else-eq c =
    let was : HeadsView = record { links = c.self.inside.links.items; top = c.self.inside.top } in
    let sized : IsSized (advanced was c.args.node c.args.link) = search (rules, common_steps) in
    let apart : (link_at was.links c.args.node).head ≢ c.self.inside.floor = search (rules, common_steps) in
    rw (c.greater-self-inside.ensures, c.head.ensures) (
      sized,
      floor-stays was c.args.node c.self.inside.floor c.args.link (rw (← c.self.view_is) at c.requires.node)
          (rw (← c.self.view_is) at c.requires.open) (rw (← c.self.view_is) at c.requires.rising) apart
          c.self.invariant.1,
      subst (λ (links : List IntakeView). AreGroups links c.regroup.new.groups) c.deref.ensures.value c.regroup.ensures,
    )
