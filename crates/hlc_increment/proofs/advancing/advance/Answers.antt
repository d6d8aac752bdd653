-- What the older checkpoint becomes represents the past of the newer store, but that its vacuums dropped nothing.
use Rattle.std.proofs.Common.{◌≡◌, ◌≤◌, ◌++◌, refl, subst, ◌∙◌, rules}
use Rattle.std.proofs.lemmas.Grind.{common_steps}
use Rattle.hlc_core.specs.Past.{floor}
use Rattle.hlc_replicas.proofs.AlikeLemmas.{floors-alike}
use Rattle.hlc_core.proofs.CheckpointLemmas.{floor-in}
use Rattle.hlc_increment.specs.Increment.{AreFitting, IsAdvanced, without_drops}
use Rattle.hlc_increment.proofs.{AgreeLemmas.drops-agree, BackLemmas.same-represents}
use Rattle.hlc_increment.proofs.AdvanceLemmas.{advanced-represents, chained-represents, fits-unless_above}
use Rattle.hlc_increment.proofs.advancing.advance.Goals as goal

pub returns-clause-represents : goal.returns-clause-represents
returns-clause-represents c = λ past more newer h g of.
    let fit : AreFitting c.args.older c.args.increment = c.in_default.ensures.none refl in
    let is : IsAdvanced c.args.older c.args.increment c.of.result = search (rules, common_steps) in
    advanced-represents c.args.older newer c.of.result c.args.increment past more h g of
    (subst (λ f. c.args.increment.since ≤ f) (floor-in c.args.older past h) fit.low) is

pub returns-clause-chained : goal.returns-clause-chained
returns-clause-chained c = λ past mid more newer h g of.
    let fit : AreFitting c.args.older c.args.increment = c.in_default.ensures.none refl in
    let is : IsAdvanced c.args.older c.args.increment c.of.result = search (rules, common_steps) in
    let low : floor (without_drops mid ++ past) ≡ floor (mid ++ past) =
    floors-alike (without_drops mid ++ past) (mid ++ past) (drops-agree mid past).alike in
    chained-represents c.args.older newer c.of.result c.args.increment past mid more h g of
    (subst (λ f. c.args.increment.since ≤ f) (floor-in c.args.older (without_drops mid ++ past) h ∙ low) fit.low) is

pub returns-clause-back : goal.returns-clause-back
returns-clause-back c = λ past mid more earlier h g of.
    let fit : AreFitting c.args.older c.args.increment = c.in_default.ensures.none refl in
    let is : IsAdvanced c.args.older c.args.increment c.of.result = search (rules, common_steps) in
    same-represents c.args.older earlier c.of.result c.args.increment past mid more h g of fit is

pub returns-in-Some-clause-only : goal.returns-in-Some-clause-only
returns-in-Some-clause-only c = λ past more newer h is g of is'.
    fits-unless_above c.args.older newer c.args.increment past more h is g of is' c.in-Some.fault
    c.in-Some.ensures.some
