-- A node of a store, as the run knows it: what a machine keeps for one of its links.
use Rattle.std.specs.Prelude.{◌≡◌, ℕ, ◌<◌, ◌≤◌, List, ◌∷◌}
use Rattle.hlc_node.specs.{Node.NodeView, Node.next_item, Node.after_issue, declared.item.Body.Body}
use Rattle.hlc_core.specs.Past.{numbered}
use Rattle.hlc_ranges.specs.Run.{Layout, Turn, Issued, past_of, next_number, has_ended, last_stamp, IsLegal}

-- the node has joined the store, has the next number of its link, and has retired if its last item was issued
pub record IsNodeOf (layout : Layout) (run : List Turn) (s : ℕ) (node : NodeView) : Type 0 where
  pub inside : node.id < numbered (past_of layout s run)
  pub next : node.next ≡ next_number layout s node.id run
  pub retired : node.retired ≡ has_ended layout s node.id run

-- the node's clock has reached its machine's: NodeCore::raise_to lets it
abbrev pub HasClock : Layout → List Turn → ℕ → NodeView → Type 0
HasClock layout run s node = last_stamp layout (layout.machine s node.id) run ≤ node.last

-- After the node issued an item with this body and this stamp, the run is legal, and the node is the one of the run.
-- The stamp is its machine's clock, to which the machine's other nodes are to be raised.
pub record Extends (layout : Layout) (run : List Turn) (s : ℕ) (node : NodeView) (body : Body)
    (stamp : ℕ) : Type 0 where
  pub legal : IsLegal layout (Issued s (next_item node body stamp) ∷ run)
  pub after : IsNodeOf layout (Issued s (next_item node body stamp) ∷ run) s (after_issue node body stamp)
  pub clock : last_stamp layout (layout.machine s node.id) (Issued s (next_item node body stamp) ∷ run) ≡ stamp
