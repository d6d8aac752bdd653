-- The state of a node, and its reply to each event.
use Rattle.std.specs.Prelude.{ℕ, Bool, ◌+◌, List, [], ◌∷◌, ◌==◌, Option, Some, None, Result, Ok, Err, if◌then◌else◌}
use Rattle.hlc_values.specs.declared.bounds.TheConstants.{NUMBER_BOUND}
use Rattle.hlc_clock.specs.{NextStamp.expected_stamp, declared.clock.ClockFault.ClockFault}
use Rattle.hlc_node.specs.declared.item.{Item.Item, Body.Body}
use Rattle.hlc_rows.specs.declared.limits.BodyFault.{BodyFault}
use Rattle.hlc_node.specs.declared.node.NodeFault.{NodeFault, TheVariants.Retired, TheVariants.Body as bad_body}
use Rattle.hlc_node.specs.declared.node.NodeFault.{TheVariants.NumbersSpent, TheVariants.Clock as no_stamp}
use Rattle.hlc_node.specs.Items.{an_item, body_refusal, retires}

-- a node: its own number, the stamp of its last event or else of its start, the link number of its next item, and
-- whether it has retired
pub record NodeView : Type 0 where
  pub id : ℕ
  pub last : ℕ
  pub next : ℕ
  pub retired : Bool

-- the node after an event without an item, with this stamp
abbrev pub stamped : NodeView → ℕ → NodeView
stamped node stamp = record node { last = stamp }

-- the node after it issued an item with this body and this stamp
abbrev pub after_issue : NodeView → Body → ℕ → NodeView
after_issue node body stamp = record node { last = stamp; next = node.next + 1; retired = retires body }

-- the node's next item, if it has this body and this stamp
abbrev pub next_item : NodeView → Body → ℕ → Item
next_item node body stamp = an_item node.id node.next stamp body

-- the clock's result, as a node's
abbrev pub clocked : Result ℕ ClockFault → Result ℕ NodeFault
clocked (Ok stamp) = Ok stamp
clocked (Err fault) = Err (no_stamp fault)

-- a body that no item may have is refused before all else
abbrev pub unless_bad : Option BodyFault → Result ℕ NodeFault → Result ℕ NodeFault
unless_bad None rest = rest
unless_bad (Some fault) rest = Err (bad_body fault)

-- an event of a retired node is refused before all else
abbrev pub unless_retired : Bool → Result ℕ NodeFault → Result ℕ NodeFault
unless_retired has_retired rest = if has_retired then Err Retired else rest

-- the stamp of the node's next event without an item, above these stamps; or the first reason to refuse it
abbrev pub expected_event : NodeView → List ℕ → ℕ → Result ℕ NodeFault
expected_event node earlier reading = unless_retired node.retired (clocked (expected_stamp earlier reading))

-- the stamp of the node's next item, where its body is refused for this reason, if any; or the first reason to refuse
-- it
abbrev pub issue_after : Option BodyFault → NodeView → ℕ → Result ℕ NodeFault
issue_after refusal node reading =
    unless_retired node.retired
    (unless_bad refusal
    (if node.next == NUMBER_BOUND then Err NumbersSpent else clocked (expected_stamp (node.last ∷ []) reading)))

-- the stamp of the node's next item, if it has this body; or the first reason to refuse it
abbrev pub expected_issue : NodeView → Body → ℕ → Result ℕ NodeFault
expected_issue node body reading = issue_after (body_refusal body) node reading
