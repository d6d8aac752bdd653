-- What each call returns to C for a node.
use Rattle.std.specs.Prelude.{◌≡◌, ℕ, Result, Ok, Err}
use Rattle.hlc_node.specs.declared.{item.Body.Body, node.NodeFault.NodeFault}
use Rattle.hlc_node.specs.Faults.{node_code, node_word}
use Rattle.hlc_node.specs.Node.{NodeView, stamped, after_issue, expected_issue}

-- the event took place with the expected stamp, or got the expected refusal
abbrev pub ReturnsStamped : NodeView → NodeView → Result ℕ NodeFault → ℕ → ℕ → Type 0
ReturnsStamped old new (Ok stamp) code returned = (code ≡ 0) × (returned ≡ stamp) × (new ≡ stamped old stamp)
ReturnsStamped old new (Err fault) code returned = (code ≡ node_code fault) × (returned ≡ node_word fault) × (new ≡ old)

-- the item was issued with the expected stamp, or got the expected refusal
abbrev pub ReturnsOutcome : NodeView → NodeView → Body → Result ℕ NodeFault → ℕ → ℕ → ℕ → Type 0
ReturnsOutcome old new body (Ok stamp) code number returned =
    (code ≡ 0) × (number ≡ old.next) × (returned ≡ stamp) × (new ≡ after_issue old body stamp)
ReturnsOutcome old new body (Err fault) code number returned =
    (code ≡ node_code fault) × (number ≡ 0) × (returned ≡ node_word fault) × (new ≡ old)

-- the next item was issued with this body, and its number and its stamp are returned; or it was refused
abbrev pub ReturnsIssued : NodeView → NodeView → Body → ℕ → ℕ → ℕ → ℕ → Type 0
ReturnsIssued old new body reading code number returned =
    ReturnsOutcome old new body (expected_issue old body reading) code number returned
