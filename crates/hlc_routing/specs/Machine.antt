-- A machine that writes to several stores: one clock, and a node in each store.
use Rattle.std.specs.Prelude.{◌≡◌, ℕ, ◌+◌, ◌<◌, ◌≤◌, List, [], ◌∷◌, ◌++◌, length, max, set, Option, Some, None}
use Rattle.std.specs.Prelude.{slice_get, Ok, Err, false, ◌⊎◌, option_map}
use Rattle.hlc_rows.specs.declared.{write.Write.Write, limits.BodyFault.TheVariants.NoWrites}
use Rattle.hlc_node.specs.Node.{NodeView, stamped, next_item, after_issue, expected_issue}
use Rattle.hlc_node.specs.declared.item.{Item.Item, Body.Body, Body.TheVariants.Batch, Body.TheVariants.Report}
use Rattle.hlc_node.specs.declared.node.NodeFault.TheVariants.{Body as bad_body}
use Rattle.hlc_ranges.specs.{Run.Layout, Run.Turn, Run.Issued, Run.last_stamp, Run.IsLegal, Calls.IsNodeOf}
use Rattle.hlc_routing.specs.Division.{DivisionView, store_of, AreOfStore}
use Rattle.hlc_routing.specs.declared.machine.MachineFault.{MachineFault}
use Rattle.hlc_routing.specs.declared.machine.MachineFault.TheVariants.{NoStore, ManyStores, Node, NoMemory}

-- the stamp of the last event, and the nodes, that of the first store first
pub record MachineView : Type 0 where
  pub last : ℕ
  pub nodes : List NodeView

-- the node with its clock raised to the machine's
abbrev pub raised : ℕ → NodeView → NodeView
raised last node = stamped node (max node.last last)

-- the machine's node of a store, as it acts
abbrev pub acting : MachineView → ℕ → Option NodeView
acting machine s = option_map (raised machine.last) (slice_get machine.nodes s)

-- the machine after its node of a store became this one
abbrev pub moved : MachineView → ℕ → NodeView → MachineView
moved machine s node = record { last = node.last; nodes = set machine.nodes s node }

-- the machine issued an item with this body for a store
pub record Issues (old new : MachineView) (s : ℕ) (body : Body) (reading : ℕ) (item : Item) : Type 0 where
  pub node : NodeView
  pub acts : acting old s ≡ Some node
  pub expected : expected_issue node body reading ≡ Ok item.stamp
  pub rises : node.last < item.stamp
  pub item_is : item ≡ next_item node body item.stamp
  pub new_is : new ≡ moved old s (after_issue node body item.stamp)

-- why the machine issues no such item: it has no node in this store; or the node refuses it
abbrev pub IsRefusedIssue : MachineView → ℕ → Body → ℕ → MachineFault → Type 0
IsRefusedIssue old s body reading NoStore = acting old s ≡ None
IsRefusedIssue old s body reading ManyStores = ⊥
IsRefusedIssue old s body reading (Node fault) =
    (node : NodeView) × (acting old s ≡ Some node) × (expected_issue node body reading ≡ Err fault)
IsRefusedIssue old s body reading NoMemory = ⊥

-- there are writes, and each of them has its key in this store
abbrev pub HaveOneStore : DivisionView → List Write → ℕ → Type 0
HaveOneStore division writes s = (0 < length writes) × AreOfStore division s writes

-- why there is no such store: there are no writes; or their keys belong to different stores
abbrev pub HaveNoStore : DivisionView → List Write → MachineFault → Type 0
HaveNoStore division writes NoStore = ⊥
HaveNoStore division writes ManyStores = (0 < length writes) × ((s : ℕ) → AreOfStore division s writes → ⊥)
HaveNoStore division writes (Node fault) = (writes ≡ []) × (fault ≡ bad_body NoWrites)
HaveNoStore division writes NoMemory = ⊥

-- why the machine issues no item of these writes: they are not for one store; or the item is refused for that store
abbrev pub IsRefusedBatch : MachineView → DivisionView → List Write → ℕ → MachineFault → Type 0
IsRefusedBatch old division writes reading fault =
    HaveNoStore division writes fault
    ⊎ ((s : ℕ) × HaveOneStore division writes s × IsRefusedIssue old s (Batch writes) reading fault)

-- the machine reported to one store after another, and these are the reports
pub data Reports (old : MachineView) (reading : ℕ) : MachineView → List Item → Type 0 where
  none : Reports old reading old []
  one : {machine new : MachineView} {items : List Item} (item : Item) → Reports old reading machine items
      → Issues machine new (length items) Report reading item → Reports old reading new (items ++ item ∷ [])

-- the report for one of the stores is refused, after those for the stores before it
pub record IsRefusedReport (old : MachineView) (reading : ℕ) (fault : MachineFault) : Type 0 where
  pub machine : MachineView
  pub items : List Item
  pub inside : length items < length old.nodes
  pub before : Reports old reading machine items
  pub refused : IsRefusedIssue machine (length items) Report reading fault

-- The machine is the run's: it has a node in each store, and its clock has reached that of the run's machine.
pub record IsMachineOf (layout : Layout) (run : List Turn) (m : ℕ) (machine : MachineView) : Type 0 where
  pub many : length machine.nodes ≡ layout.stores
  pub nodes : (s : ℕ) (node : NodeView) → slice_get machine.nodes s ≡ Some node → IsNodeOf layout run s node
  pub machines : (s : ℕ) (node : NodeView) → slice_get machine.nodes s ≡ Some node → layout.machine s node.id ≡ m
  pub clock : last_stamp layout m run ≤ machine.last

-- after this turn the run is legal, and the machine the run's
abbrev pub GoesOn : Layout → Turn → List Turn → ℕ → MachineView → Type 0
GoesOn layout turn run m new = IsLegal layout (turn ∷ run) × IsMachineOf layout (turn ∷ run) m new

-- the layout's store of each key is the division's
abbrev pub IsDividedBy : Layout → DivisionView → Type 0
IsDividedBy layout division = (key : List ℕ) → layout.store_of key ≡ store_of division key

-- the run after these items were issued, each for the store after that of the one before it
abbrev pub issued_from : ℕ → List Item → List Turn → List Turn
issued_from s [] run = run
issued_from s (item ∷ items) run = issued_from (s + 1) items (Issued s item ∷ run)

-- a node that has issued nothing, with this number
pub record IsNewNode (number : ℕ) (node : NodeView) : Type 0 where
  pub id : node.id ≡ number
  pub next : node.next ≡ 0
  pub retired : node.retired ≡ false

-- a machine of new nodes, which joined the stores with these numbers, at these starts: its clock is not below them
pub record IsNewMachine (made : List (ℕ × ℕ)) (machine : MachineView) : Type 0 where
  pub many : length machine.nodes ≡ length made
  pub fresh : (s : ℕ) (node : NodeView) → slice_get machine.nodes s ≡ Some node
      → (joined : ℕ × ℕ) × (slice_get made s ≡ Some joined) × IsNewNode joined.0 node
  pub clock : (s : ℕ) (joined : ℕ × ℕ) → slice_get made s ≡ Some joined → joined.1 ≤ machine.last
