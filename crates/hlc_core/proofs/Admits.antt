-- The result of an intake for an item is what the item's link is expected to return.
use Rattle.std.proofs.Common.{◌≡◌, ◌∙◌, ◌<◌, sym, ap, arith, Some, not, le-leb, eq-eqb, ne_eqb}
use Rattle.std.proofs.lemmas.Bool.{cond-true, cond-false, lt-leb}
use Rattle.hlc_values.specs.declared.bounds.TheConstants.{NUMBER_BOUND}
use Rattle.hlc_node.specs.{declared.item.Item.Item, Items.body_refusal}
use Rattle.hlc_intake.specs.IntakeView.{IntakeView, IsNextItem, IsFirstRefusal}
use Rattle.hlc_intake.specs.declared.intake.LinkFault.{LinkFault}
use Rattle.hlc_intake.specs.declared.intake.LinkFault.TheVariants.{Retired, NotNext, NumbersSpent, StampNotRising}
use Rattle.hlc_events.specs.declared.fault.CoreFault.TheVariants.{Link}
use Rattle.hlc_core.specs.Past.{link_refusal, of_body}

pub refused_first : (link : IntakeView) (item : Item) (fault : LinkFault)
    → IsFirstRefusal link item.number item.stamp fault
    → link_refusal link.retired link.next link.head item ≡ Some (Link fault)
refused_first link item Retired is = cond-true _ _ _ is
refused_first link item (NotNext next) (here, same, other) =
    cond-false _ _ _ here ∙ cond-true _ _ _ (ap not (ne_eqb _ _ other)) ∙ ap (λ n. Some (Link (NotNext n))) (sym same)
refused_first link item NumbersSpent (here, next, spent) =
    cond-false _ _ _ here ∙ cond-false _ _ _ (ap not (eq-eqb _ _ next)) ∙ cond-true _ _ _ (eq-eqb _ _ spent)
refused_first link item (StampNotRising head) (here, same, next, left, falls) =
    cond-false _ _ _ here
    ∙ cond-false _ _ _ (ap not (eq-eqb _ _ next))
    ∙ cond-false _ _ _ (ne_eqb _ _ left)
    ∙ cond-true _ _ _ (le-leb _ _ falls)
    ∙ ap (λ h. Some (Link (StampNotRising h))) (sym same)

pub next_admitted : (link : IntakeView) (item : Item) → IsNextItem link item.number item.stamp
    → link_refusal link.retired link.next link.head item ≡ of_body (body_refusal item.body)
next_admitted link item is =
    let left : item.number < NUMBER_BOUND = is.left in
    cond-false _ _ _ is.unretired
    ∙ cond-false _ _ _ (ap not (eq-eqb _ _ is.in_turn))
    ∙ cond-false _ _ _ (ne_eqb item.number NUMBER_BOUND (λ (e : item.number ≡ NUMBER_BOUND). omega (arith, e, left)))
    ∙ cond-false _ _ _ (lt-leb item.stamp link.head is.rising)
