-- A retirement has no content that could be refused, like a report.
use Rattle.std.proofs.Common.{sym, ap, subst}
use Rattle.hlc_node.specs.declared.item.{Item.Item, Body.TheVariants.Retire as a_retire}
use Rattle.hlc_node.specs.Items.{an_item, body_refusal}
use Rattle.hlc_calls.specs.Answers.{ReturnsChecked}
use Rattle.hlc_calls.proofs.items.check_plain.Goals as goal

pub returns-clause-retire : goal.returns-clause-retire
returns-clause-retire c = λ past h.
    subst
    (λ (item : Item). ReturnsChecked (an_item item.node item.number item.stamp a_retire) past
    c.check.result c.check.new.word) c.report.ensures
    (c.check.ensures.alike a_retire (ap (λ (item : Item). body_refusal item.body) (sym c.report.ensures)) past h)
