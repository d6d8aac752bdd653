-- The intake is called with the item's own number and stamp.
use Rattle.std.proofs.Common.{◌≡◌, ◌∙◌, ◌<◌, ap, subst, sym, rules, slice_get, Some, None, ℕ, List, length, get_or}
use Rattle.hlc_intake.specs.IntakeView.{IntakeView}
use Rattle.std.specs.Prelude.{Ok, Err}
use Rattle.std.proofs.lemmas.{Option.slice_get-get_or, Result.err_from_is_err_and}
use Rattle.hlc_node.specs.Items.{body_refusal}
use Rattle.hlc_events.specs.declared.fault.CoreFault.TheVariants.{Link, Body}
use Rattle.hlc_core.{specs.Past.of_body, proofs.Admits.refused_first, proofs.Admits.next_admitted, proofs.Links.LooksUp}
use Rattle.hlc_core.proofs.link.check.Goals as goal

-- the link of the item's node
link_at : (links : List IntakeView) (n node : ℕ) (link : IntakeView) → n ≡ node → n < length links
    → link ≡ get_or links n link → slice_get links node ≡ Some link
link_at links n node link same within is = rw (← same) (slice_get-get_or links n link within ∙ ap Some (sym is))

pub returns-in_err-admit : goal.returns-in_err-admit
returns-in_err-admit c =
    let found = link_at c.args.intakes.now c.node.result c.args.item.now.node c.in-Some.intake.now c.node.ensures
    c.in-Some.ensures.lookup.3.0 c.in-Some.ensures.lookup.1 in
    let p = err_from_is_err_and c.from_residual.result c.from_residual.ensures.1 in
    rw (p.1, p.2)
    (subst (λ o. LooksUp o c.args.item.now (Err (Link c.in_err-admit.field-0.0))) (sym found)
    (refused_first c.in-Some.intake.now c.args.item.now c.in_err-admit.field-0.0
    (rw (c.number.ensures, c.stamp.ensures) at c.in_err-admit.ensures.0)))

pub returns-in-Some-body_fault : goal.returns-in-Some-body_fault
returns-in-Some-body_fault c =
    let found = link_at c.args.intakes.now c.node.result c.args.item.now.node c.in-Some.intake.now c.node.ensures
    c.in-Some.ensures.lookup.3.0 c.in-Some.ensures.lookup.1 in
    let bad : body_refusal c.args.item.now.body ≡ Some c.in-Some-body_fault.fault = search rules in
    subst (λ o. LooksUp o c.args.item.now (Err (Body c.in-Some-body_fault.fault))) (sym found)
    (next_admitted c.in-Some.intake.now c.args.item.now
    (rw (c.number.ensures, c.stamp.ensures) at c.in_ok-admit.ensures.0) ∙ ap of_body bad)

pub returns-in-None : goal.returns-in-None
returns-in-None c =
    let found = link_at c.args.intakes.now c.node.result c.args.item.now.node c.in-Some.intake.now c.node.ensures
    c.in-Some.ensures.lookup.3.0 c.in-Some.ensures.lookup.1 in
    let good : body_refusal c.args.item.now.body ≡ None = search rules in
    subst (λ o. LooksUp o c.args.item.now (Ok _)) (sym found)
    (next_admitted c.in-Some.intake.now c.args.item.now
    (rw (c.number.ensures, c.stamp.ensures) at c.in_ok-admit.ensures.0) ∙ ap of_body good)
