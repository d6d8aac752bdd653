-- An expected refusal is returned as such, and so is the result of a call that was made.
use Rattle.std.proofs.Common.{◌≡◌, ◌∙◌, ℕ, List, refl, sym, ap, subst, inl, inr}
use Rattle.std.specs.Prelude.{Option, Some, None, ◌==◌, not, nat_le, if◌then◌else◌}
use Rattle.hlc_values.specs.declared.bounds.TheConstants.{NUMBER_BOUND}
use Rattle.hlc_intake.specs.declared.intake.LinkFault.TheVariants.{Retired, NotNext, NumbersSpent, StampNotRising}
use Rattle.hlc_rows.specs.declared.limits.BodyFault.{BodyFault}
use Rattle.hlc_events.specs.declared.fault.CoreFault.{TheVariants.NoNode, TheVariants.Link, CoreFault}
use Rattle.hlc_node.specs.{declared.item.Item.Item, declared.item.Body.Body, Items.an_item, Items.body_refusal}
use Rattle.hlc_core.specs.Past.{Step, numbered, retired, count, head, item_refusal, of_body}
use Rattle.hlc_core.specs.Calls.{IsRefusal}
use Rattle.hlc_events.specs.Faults.{core_word}
use Rattle.hlc_calls.specs.Outcome.{IsAnswered, answer_code}

pub refused_returns : (expected : Option CoreFault) (MayGrow Made : Type 0) (fault : CoreFault)
    → IsRefusal expected MayGrow fault
    → IsAnswered expected MayGrow Made (answer_code fault) (core_word fault)
refused_returns expected MayGrow Made fault (inl is) =
    subst (λ (d : Option CoreFault). IsAnswered d MayGrow Made (answer_code fault) (core_word fault)) (sym is)
    (refl, refl)
refused_returns expected MayGrow Made fault (inr (none, is, may)) =
    subst (λ (d : Option CoreFault). IsAnswered d MayGrow Made (answer_code fault) (core_word fault)) (sym none)
    (subst (λ (f : CoreFault). IsAnswered None MayGrow Made (answer_code f) (core_word f)) (sym is)
    (inr (refl, refl, may)))

pub made_returns : (expected : Option CoreFault) (MayGrow Made : Type 0) (returned : ℕ) → expected ≡ None → Made
    → IsAnswered expected MayGrow Made 0 returned
made_returns expected MayGrow Made returned none made =
    subst (λ (d : Option CoreFault). IsAnswered d MayGrow Made 0 returned) (sym none) (inl (refl, made))

pub lack_returns : (expected : Option CoreFault) (MayGrow Made : Type 0) → expected ≡ None → MayGrow
    → IsAnswered expected MayGrow Made 15 0
lack_returns expected MayGrow Made none may =
    subst (λ (d : Option CoreFault). IsAnswered d MayGrow Made 15 0) (sym none) (inr (refl, refl, may))

pub expected_returns : (expected : Option CoreFault) (MayGrow Made : Type 0) (fault : CoreFault) → expected ≡ Some fault
    → IsAnswered expected MayGrow Made (answer_code fault) (core_word fault)
expected_returns expected MayGrow Made fault is = refused_returns expected MayGrow Made fault (inl is)

-- items of the same node, number and stamp are refused in the same way if their bodies are
refused_alike : (past : List Step) (item : Item) (body : Body)
    → body_refusal body ≡ body_refusal item.body
    → item_refusal past (an_item item.node item.number item.stamp body) ≡ item_refusal past item
refused_alike past item body same =
    ap (λ (refusal : Option BodyFault).
    if nat_le (numbered past) item.node then Some NoNode
    else if retired item.node past then Some (Link Retired)
    else if not (item.number == count item.node past) then Some (Link (NotNext (count item.node past)))
    else if item.number == NUMBER_BOUND then Some (Link NumbersSpent)
    else if nat_le item.stamp (head item.node past) then Some (Link (StampNotRising (head item.node past)))
    else of_body refusal) same

pub alike_returns : (past : List Step) (item : Item) (body : Body) (MayGrow Made : Type 0)
    (fault : CoreFault)
    → body_refusal body ≡ body_refusal item.body → item_refusal past item ≡ Some fault
    → IsAnswered (item_refusal past (an_item item.node item.number item.stamp body)) MayGrow Made
    (answer_code fault) (core_word fault)
alike_returns past item body MayGrow Made fault same is =
    expected_returns _ MayGrow Made fault (refused_alike past item body same ∙ is)

pub alike_made_returns : (past : List Step) (item : Item) (body : Body) (MayGrow Made : Type 0)
    (returned : ℕ)
    → body_refusal body ≡ body_refusal item.body → item_refusal past item ≡ None → Made
    → IsAnswered (item_refusal past (an_item item.node item.number item.stamp body)) MayGrow Made 0 returned
alike_made_returns past item body MayGrow Made returned same none made =
    made_returns _ MayGrow Made returned (refused_alike past item body same ∙ none) made
