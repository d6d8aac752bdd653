-- There is one more link, at the floor, so the core represents the join too.
use Rattle.std.proofs.Common.{◌≡◌, ◌≤◌, ◌∙◌, Ok, subst, arith, rules}
use Rattle.std.proofs.lemmas.Grind.{common_steps}
use Rattle.hlc_heads.specs.Heads.{Joins, floor_of}
use Rattle.hlc_heads.proofs.LowLemmas.{floor-is}
use Rattle.hlc_core.proofs.{CheckpointLemmas.floor-in, Sound.sound-joined, Consistent.consistent-joined}
use Rattle.hlc_core.proofs.Joining.{joins, joins-none, both}
use Rattle.hlc_core.proofs.store.Core.join.Goals as goal

pub invariant_of-self-2 : goal.invariant_of-self-2
invariant_of-self-2 c =
    let same : c.in_ok-join.field-0 ≡ Ok c.in_ok-branch.field-0 = search (rules, common_steps) in
    let made = subst (λ r. Joins c.self.inside.heads c.join.new.self (Ok r)) same c.in_ok-join.ensures in
    let at = floor-is _ _ made.2 in
    let up : floor_of c.self.inside.heads ≤ c.in_ok-branch.field-0.1 = omega (arith, at) in
    rw made.3 (
      consistent-joined _ _ _ _ c.self.invariant.0 up,
      sound-joined _ c.self.inside.heads _ _ _ c.self.invariant.1 made.0 up,
    )

pub returns-clause-represents : goal.returns-clause-represents
returns-clause-represents c = λ past h.
    let h' = rw (← c.self.view_is) at h in
    let same : c.in_ok-join.field-0 ≡ Ok c.in_ok-branch.field-0 = search (rules, common_steps) in
    let made = subst (λ r. Joins c.self.inside.heads c.join.new.self (Ok r)) same c.in_ok-join.ensures in
    let is = made.1 ∙ h'.links.many in
    let at = floor-is _ _ made.2 ∙ floor-in _ past h' in
    let none = joins-none past _ made.0 h'.links.many in
    rw made.3 (
      none,
      both c.in_ok-branch.field-0 _ _ is at,
      joins _ past c.in_ok-branch.field-0.0 c.in_ok-branch.field-0.1 h' none is (omega (arith, at)),
    )
