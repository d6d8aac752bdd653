-- There is one more link, at the start, so the core represents the join too.
use Rattle.std.proofs.Common.{◌≡◌, ◌≤◌, ◌∙◌, Ok, Err, subst, arith, rules}
use Rattle.std.proofs.lemmas.{Grind.common_steps, Result.err_from_is_err_and}
use Rattle.hlc_heads.specs.Heads.{JoinsAt}
use Rattle.hlc_core.specs.Past.{floor}
use Rattle.hlc_core.proofs.{CheckpointLemmas.floor-in, Sound.sound-joined, Consistent.consistent-joined}
use Rattle.hlc_core.proofs.Joining.{joins, joins-none, joins-at_none, refused, shortage}
use Rattle.hlc_core.proofs.store.Core.join_at.Goals as goal

pub invariant_of-self-2 : goal.invariant_of-self-2
invariant_of-self-2 c =
    let same : c.in_ok-join_at.field-0 ≡ Ok c.in_ok-branch.field-0 = search (rules, common_steps) in
    let made = subst (λ r. JoinsAt c.self.inside.heads c.join_at.new.self c.args.start (Ok r)) same
    c.in_ok-join_at.ensures in
    rw made.3 (
      consistent-joined _ _ _ _ c.self.invariant.0 made.1,
      sound-joined _ c.self.inside.heads _ _ _ c.self.invariant.1 made.0 made.1,
    )

pub returns-in_err-join_at-clause-represents : goal.returns-in_err-join_at-clause-represents
returns-in_err-join_at-clause-represents c = λ past h.
    let h' = rw (← c.self.view_is) at h in
    let p = err_from_is_err_and c.from_residual.result c.from_residual.ensures.1 in
    rw (p.1, p.2)
    (shortage past _ c.join_at.new.self c.args.start c.in_err-join_at.field-0.0 h'.links.many (floor-in _ past h')
    c.in_err-join_at.ensures)

pub returns-in_err-branch-clause-represents : goal.returns-in_err-branch-clause-represents
returns-in_err-branch-clause-represents c = λ past h.
    let h' = rw (← c.self.view_is) at h in
    let p = err_from_is_err_and c.from_residual-in_err-branch.result c.from_residual-in_err-branch.ensures.1 in
    let same : c.in_ok-join_at.field-0 ≡ Err c.in_err-branch.field-0.0 = search (rules, common_steps) in
    rw (p.1, p.2)
    (refused past _ c.join_at.new.self c.args.start c.in_err-branch.field-0.0 h'.links.many (floor-in _ past h')
    (subst (λ r. JoinsAt c.self.inside.heads c.join_at.new.self c.args.start (Ok r)) same c.in_ok-join_at.ensures))

pub returns-clause-represents : goal.returns-clause-represents
returns-clause-represents c = λ past h.
    let h' = rw (← c.self.view_is) at h in
    let same : c.in_ok-join_at.field-0 ≡ Ok c.in_ok-branch.field-0 = search (rules, common_steps) in
    let made = subst (λ r. JoinsAt c.self.inside.heads c.join_at.new.self c.args.start (Ok r)) same
    c.in_ok-join_at.ensures in
    let is = made.2 ∙ h'.links.many in
    let none = joins-none past _ made.0 h'.links.many in
    let at = floor-in _ past h' in
    let low = made.1 in
    let up : floor past ≤ c.args.start = omega (arith, low, at) in
    rw made.3
    (joins-at_none past c.args.start none up, is, joins _ past c.in_ok-branch.field-0 c.args.start h' none is up)
