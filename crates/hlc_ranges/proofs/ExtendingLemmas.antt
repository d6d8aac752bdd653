-- The calls of nodes and of stores extend a legal run.
use Rattle.std.proofs.Common.{◌≡◌, ℕ, Bool, true, false, ◌+◌, ◌<◌, ◌≤◌, List, ◌∷◌, length, Ok, Result, refl, ap, sym}
use Rattle.std.proofs.Common.{◌∙◌, inl, inr, arith}
use Rattle.std.proofs.lemmas.Bool.{cases_eq}
use Rattle.hlc_node.specs.Node.{NodeView, next_item, expected_issue, unless_retired}
use Rattle.hlc_node.specs.declared.{item.Body.Body, item.Item.Item, node.NodeFault.NodeFault}
use Rattle.hlc_core.specs.{Past.Step, Past.count, Past.retired, Past.floor, StoreView.StoreView, StoreView.Represents}
use Rattle.hlc_ranges.specs.Run.{Layout, Turn, Issued, Stepped, past_of, issued, ends_with, last_stamp, IsRouted}
use Rattle.hlc_ranges.specs.Run.{IsIssuedStep, IsLegal, Sent, Received, Observed, IsMessage}
use Rattle.hlc_ranges.specs.Calls.{IsNodeOf, HasClock, Extends}
use Rattle.hlc_ranges.proofs.Turns.{raised-same, issued-same, issued-other, issued-other_node}

here : (has_retired : Bool) (rest : Result ℕ NodeFault) (stamp : ℕ) → unless_retired has_retired rest ≡ Ok stamp
    → has_retired ≡ false
here true rest stamp e = absurd (cc)
here false rest stamp e = refl

pub node-extends : (layout : Layout) (run : List Turn) (s : ℕ) (node : NodeView) (body : Body) (reading stamp : ℕ)
    → IsLegal layout run → s < layout.stores → IsNodeOf layout run s node → HasClock layout run s node
    → IsRouted layout s body → expected_issue node body reading ≡ Ok stamp → node.last < stamp
    → Extends layout run s node body stamp
node-extends layout run s node body reading stamp legal within is clock routed expected up =
    let item : Item = next_item node body stamp in
    let clock' : last_stamp layout (layout.machine s node.id) run ≤ node.last = clock in
    let active : node.retired ≡ false = here node.retired _ stamp expected in
    let one = issued-same s s node.id item run refl refl in
    let at = raised-same (layout.machine s node.id) (layout.machine s node.id, stamp)
    (last_stamp layout (layout.machine s node.id) run) refl in
    record {
      legal = ((within, is.inside, sym is.retired ∙ active, is.next, omega arith, routed), legal);
      after = record {
        inside = is.inside;
        next =
            (let old : node.next ≡ count node.id (layout.begun s) + length (issued s node.id run) = is.next in
            let longer : length (issued s node.id (Issued s item ∷ run)) ≡ length (item ∷ issued s node.id run) =
            ap length one in
            let goal : node.next + 1
            ≡ count node.id (layout.begun s) + length (issued s node.id (Issued s item ∷ run)) = omega arith in goal);
        retired = sym (ap (ends_with (retired node.id (layout.begun s))) one);
      };
      clock = omega (arith, at);
    }

pub other-stays : (layout : Layout) (run : List Turn) (s t : ℕ) (item : Item) (node : NodeView)
    → IsNodeOf layout run s node → ((t ≡ s) → (item.node ≡ node.id) → ⊥) → IsNodeOf layout (Issued t item ∷ run) s node
other-stays layout run s t item node is apart =
    let same : issued s node.id (Issued t item ∷ run) ≡ issued s node.id run =
    elim (cases_eq t s) [
      | inr other ↦ issued-other s t node.id item run other
      | inl one ↦ issued-other_node s t node.id item run one (apart one)
    ] in
    record {
      inside = is.inside;
      next = is.next ∙ sym (ap (λ xs. count node.id (layout.begun s) + length xs) same);
      retired = is.retired ∙ sym (ap (ends_with (retired node.id (layout.begun s))) same);
    }

pub step-extends : (layout : Layout) (run : List Turn) (s : ℕ) (step : Step) (core : StoreView) → IsLegal layout run
    → s < layout.stores → Represents core (step ∷ past_of layout s run)
    → IsIssuedStep s step run → IsLegal layout (Stepped s step ∷ run)
step-extends layout run s step core legal within represents issued' =
    ((within, represents.legal, issued'), legal)

pub sent-extends : (layout : Layout) (run : List Turn) (s : ℕ) (node : NodeView) (stamp : ℕ) → IsLegal layout run
    → HasClock layout run s node → node.last < stamp → IsLegal layout (Sent (layout.machine s node.id) stamp ∷ run)
sent-extends layout run s node stamp legal clock up =
    let clock' : last_stamp layout (layout.machine s node.id) run ≤ node.last = clock in
    let goal : last_stamp layout (layout.machine s node.id) run < stamp = omega arith in (goal, legal)

pub received-extends : (layout : Layout) (run : List Turn) (s : ℕ) (node : NodeView) (message stamp : ℕ)
    → IsLegal layout run → HasClock layout run s node → node.last < stamp → IsMessage run message stamp
    → IsLegal layout (Received (layout.machine s node.id) message stamp ∷ run)
received-extends layout run s node message stamp legal clock up is =
    let clock' : last_stamp layout (layout.machine s node.id) run ≤ node.last = clock in
    let goal : last_stamp layout (layout.machine s node.id) run < stamp = omega arith in ((goal, is), legal)

pub observed-extends : (layout : Layout) (run : List Turn) (s t : ℕ) (node : NodeView) (at stamp : ℕ)
    → IsLegal layout run → HasClock layout run s node → node.last < stamp → t < layout.stores
    → at ≤ floor (past_of layout t run) → at < stamp
    → IsLegal layout (Observed (layout.machine s node.id) t at stamp ∷ run)
observed-extends layout run s t node at stamp legal clock up within low above =
    let clock' : last_stamp layout (layout.machine s node.id) run ≤ node.last = clock in
    let goal : last_stamp layout (layout.machine s node.id) run < stamp = omega arith in
    ((goal, within, low, above), legal)
