-- An event of one machine leaves the others as they are.
use Rattle.std.proofs.Common.{◌≡◌, ℕ, ◌≤◌, List, ◌∷◌, Some, refl, ap, ap₂, ◌∙◌, arith}
use Rattle.std.proofs.lemmas.Bool.{cond-false, ne_eqb}
use Rattle.hlc_node.specs.{Node.NodeView, declared.item.Item.Item}
use Rattle.hlc_ranges.specs.Run.{Layout, Turn, Issued, Sent, Received, Observed, last_stamp, raised_by, mark_of}
use Rattle.hlc_ranges.specs.Calls.{IsNodeOf}
use Rattle.hlc_ranges.proofs.ExtendingLemmas.{other-stays}
use Rattle.hlc_routing.specs.Machine.{MachineView, IsMachineOf}

-- the clock of a machine stays at another machine's event
clock-stays : (layout : Layout) (run : List Turn) (m n stamp : ℕ) (turn : Turn) → mark_of layout turn ≡ Some (n, stamp)
    → (n ≡ m → ⊥) → last_stamp layout m (turn ∷ run) ≡ last_stamp layout m run
clock-stays layout run m n stamp turn mark other =
    ap (λ o. raised_by m o (last_stamp layout m run)) mark ∙ cond-false _ _ _ (ne_eqb n m other)

pub issued-apart : (layout : Layout) (run : List Turn) (m s : ℕ) (machine : MachineView) (item : Item)
    → IsMachineOf layout run m machine → (layout.machine s item.node ≡ m → ⊥)
    → IsMachineOf layout (Issued s item ∷ run) m machine
issued-apart layout run m s machine item h other =
    let same : last_stamp layout m (Issued s item ∷ run) ≡ last_stamp layout m run =
    clock-stays layout run m (layout.machine s item.node) item.stamp (Issued s item) refl other in
    record {
      many = h.many;
      nodes = λ t node there.
          other-stays layout run t s item node (h.nodes t node there) (λ store number.
          other (ap₂ layout.machine store number ∙ h.machines t node there));
      machines = h.machines;
      clock = (let reached : last_stamp layout m run ≤ machine.last = h.clock in omega (arith, same));
    }

-- an event without an item
event-apart : (layout : Layout) (run : List Turn) (m n stamp : ℕ) (machine : MachineView) (turn : Turn)
    → IsMachineOf layout run m machine → (n ≡ m → ⊥) → mark_of layout turn ≡ Some (n, stamp)
    → ((s : ℕ) (node : NodeView) → IsNodeOf layout run s node → IsNodeOf layout (turn ∷ run) s node)
    → IsMachineOf layout (turn ∷ run) m machine
event-apart layout run m n stamp machine turn h other mark keeps =
    let same : last_stamp layout m (turn ∷ run) ≡ last_stamp layout m run =
    clock-stays layout run m n stamp turn mark other in
    record {
      many = h.many;
      nodes = λ t node there. keeps t node (h.nodes t node there);
      machines = h.machines;
      clock = (let reached : last_stamp layout m run ≤ machine.last = h.clock in omega (arith, same));
    }

pub sent-apart : (layout : Layout) (run : List Turn) (m n stamp : ℕ) (machine : MachineView)
    → IsMachineOf layout run m machine → (n ≡ m → ⊥) → IsMachineOf layout (Sent n stamp ∷ run) m machine
sent-apart layout run m n stamp machine h other =
    event-apart layout run m n stamp machine (Sent n stamp) h other refl
    (λ s node is. record { inside = is.inside; next = is.next; retired = is.retired })

pub received-apart : (layout : Layout) (run : List Turn) (m n message stamp : ℕ) (machine : MachineView)
    → IsMachineOf layout run m machine → (n ≡ m → ⊥) → IsMachineOf layout (Received n message stamp ∷ run) m machine
received-apart layout run m n message stamp machine h other =
    event-apart layout run m n stamp machine (Received n message stamp) h other refl
    (λ s node is. record { inside = is.inside; next = is.next; retired = is.retired })

pub observed-apart : (layout : Layout) (run : List Turn) (m n s at stamp : ℕ) (machine : MachineView)
    → IsMachineOf layout run m machine → (n ≡ m → ⊥) → IsMachineOf layout (Observed n s at stamp ∷ run) m machine
observed-apart layout run m n s at stamp machine h other =
    event-apart layout run m n stamp machine (Observed n s at stamp) h other refl
    (λ t node is. record { inside = is.inside; next = is.next; retired = is.retired })
