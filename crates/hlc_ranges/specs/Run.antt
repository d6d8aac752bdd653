-- A run of several stores and of the machines that write to them: what took place, in order, and what it says of each
-- store, each link and each clock.
use Rattle.std.specs.Prelude.{◌≡◌, ◌≢◌, ℕ, zero, suc, Bool, false, ◌+◌, ◌<◌, ◌≤◌, List, [], ◌∷◌, ◌++◌, length, max}
use Rattle.std.specs.Prelude.{Option, Some, None, ◌==◌, if◌then◌else◌, ⊤, Contains, All}
use Rattle.hlc_rows.specs.declared.row.Row.{Row}
use Rattle.hlc_node.specs.{declared.item.Item.Item, declared.item.Body.Body, Items.retires}
use Rattle.hlc_node.specs.declared.item.Body.TheVariants.{Write, Batch, Report, Retire}
use Rattle.hlc_core.specs.Past.{Step, Started, Took, Joined, numbered, count, head, retired, floor, writes, item_rows}
use Rattle.hlc_core.specs.Past.{IsLegal as IsLegalPast}

-- How nodes and keys are divided, and what the run begins with: the number of stores; the past that each of them begins
-- with, as that of new nodes or of a state; the clock of each machine at the beginning; the machine of each node of
-- each store, which may be a machine of several nodes; and the store of each key.
pub record Layout : Type 0 where
  pub stores : ℕ
  pub begun : ℕ → List Step
  pub clock : ℕ → ℕ
  pub machine : ℕ → ℕ → ℕ
  pub store_of : List ℕ → ℕ

-- What took place: an item was issued for a store; a machine sent a message with a stamp; a machine received the
-- message of the turn with this number, with a stamp of its own; a machine observed a store at a stamp, with a stamp of
-- its own; a step of a store took place.
pub data Turn : Type 0 where
  Issued : ℕ → Item → Turn
  Sent : ℕ → ℕ → Turn
  Received : ℕ → ℕ → ℕ → Turn
  Observed : ℕ → ℕ → ℕ → ℕ → Turn
  Stepped : ℕ → Step → Turn

-- Below, a run is the list of the turns, the last one first.

-- the past of a store, which begins as the layout says
abbrev pub past_of : Layout → ℕ → List Turn → List Step
past_of layout s [] = layout.begun s
past_of layout s (Stepped t step ∷ run) = if t == s then step ∷ past_of layout s run else past_of layout s run
past_of layout s (_ ∷ run) = past_of layout s run

-- the items of a link: those issued for a store by one of its nodes, the last one first
abbrev pub issued : ℕ → ℕ → List Turn → List Item
issued s n [] = []
issued s n (Issued t item ∷ run) =
    if t == s then (if item.node == n then item ∷ issued s n run else issued s n run) else issued s n run
issued s n (_ ∷ run) = issued s n run

-- the number of the next item of a link: of those before the run, and of those of the run
abbrev pub next_number : Layout → ℕ → ℕ → List Turn → ℕ
next_number layout s n run = count n (layout.begun s) + length (issued s n run)

-- the last of some items of a link, which had ended before them or not, ends it
abbrev pub ends_with : Bool → List Item → Bool
ends_with before [] = before
ends_with before (item ∷ items) = retires item.body

-- a node has issued its last item, before the run or in it
abbrev pub has_ended : Layout → ℕ → ℕ → List Turn → Bool
has_ended layout s n run = ends_with (retired n (layout.begun s)) (issued s n run)

-- the machine and the stamp of an event
abbrev pub stamping_of : Layout → Turn → Option (ℕ × ℕ)
stamping_of layout (Issued s item) = Some (layout.machine s item.node, item.stamp)
stamping_of layout (Sent machine stamp) = Some (machine, stamp)
stamping_of layout (Received machine message stamp) = Some (machine, stamp)
stamping_of layout (Observed machine s at stamp) = Some (machine, stamp)
stamping_of layout (Stepped s step) = None

-- a node that joins starts at a stamp, which its machine sees
abbrev pub start_of : Layout → ℕ → Step → Option (ℕ × ℕ)
start_of layout s (Joined node start) = Some (layout.machine s node, start)
start_of layout s _ = None

-- the machine whose clock a turn raises, and the stamp
abbrev pub mark_of : Layout → Turn → Option (ℕ × ℕ)
mark_of layout (Stepped s step) = start_of layout s step
mark_of layout turn = stamping_of layout turn

-- the greater of the last stamp and that of a mark of this machine
abbrev pub raised_by : ℕ → Option (ℕ × ℕ) → ℕ → ℕ
raised_by machine None last = last
raised_by machine (Some mark) last = if mark.0 == machine then max last mark.1 else last

-- the clock of a machine: the greatest of its clock at the beginning, the stamps of its events and the starts of its
-- nodes
abbrev pub last_stamp : Layout → ℕ → List Turn → ℕ
last_stamp layout machine [] = layout.clock machine
last_stamp layout machine (turn ∷ run) = raised_by machine (mark_of layout turn) (last_stamp layout machine run)

-- the turn that comes after this many turns
abbrev pub turn_at : List Turn → ℕ → Option Turn
turn_at [] number = None
turn_at (turn ∷ run) number = if number == length run then Some turn else turn_at run number

-- the write, or each write of the batch, has its key in this store
abbrev pub IsRouted : Layout → ℕ → Body → Type 0
IsRouted layout s (Write key value) = layout.store_of key ≡ s
IsRouted layout s (Batch writes) = All (λ write. layout.store_of write.key ≡ s) writes
IsRouted layout s Report = ⊤
IsRouted layout s Retire = ⊤

-- the message of the turn with this number was sent, with a lesser stamp
abbrev pub IsMessage : List Turn → ℕ → ℕ → Type 0
IsMessage run number stamp =
    (sender : ℕ) × (sent : ℕ) × (turn_at run number ≡ Some (Sent sender sent)) × (sent < stamp)

-- a store takes only items that were issued for it
abbrev pub IsIssuedStep : ℕ → Step → List Turn → Type 0
IsIssuedStep s (Took item) run = Contains (issued s item.node run) item
IsIssuedStep s _ run = ⊤

-- The turn follows the rules after a run. An item has the next number of its link, a stamp above its machine's clock,
-- and its store's keys; its node is one of the store's, and has not issued its last item. A message is received above
-- its own stamp, and a store is observed up to its floor, with a stamp above that at which it was observed. A step of a
-- store is legal, and takes only an issued item.
abbrev pub IsAllowed : Layout → Turn → List Turn → Type 0
IsAllowed layout (Issued s item) run =
    (s < layout.stores) × (item.node < numbered (past_of layout s run))
    × (has_ended layout s item.node run ≡ false) × (item.number ≡ next_number layout s item.node run)
    × (last_stamp layout (layout.machine s item.node) run < item.stamp) × IsRouted layout s item.body
IsAllowed layout (Sent machine stamp) run = last_stamp layout machine run < stamp
IsAllowed layout (Received machine message stamp) run =
    (last_stamp layout machine run < stamp) × IsMessage run message stamp
IsAllowed layout (Observed machine s at stamp) run =
    (last_stamp layout machine run < stamp) × (s < layout.stores)
    × (at ≤ floor (past_of layout s run)) × (at < stamp)
IsAllowed layout (Stepped s step) run =
    (s < layout.stores) × IsLegalPast (step ∷ past_of layout s run) × IsIssuedStep s step run

-- A run may begin so: each store with a legal past, in which no item is accepted, since a state represents its items;
-- no head above the clock of its machine; each row in the store of its key; and what is no store of the layout with
-- nodes alone.
pub record CanBegin (layout : Layout) : Type 0 where
  pub legal : (s : ℕ) → IsLegalPast (layout.begun s)
  pub some : (s : ℕ) → layout.begun s ≢ []
  pub untaken : (s : ℕ) (item : Item) → Contains (layout.begun s) (Took item) → ⊥
  pub reached : (s n : ℕ) → head n (layout.begun s) ≤ layout.clock (layout.machine s n)
  pub routed : (s : ℕ) (row : Row) → Contains (writes (layout.begun s)) row → layout.store_of row.key ≡ s
  pub none : (s : ℕ) → layout.stores ≤ s → (nodes : ℕ) × (layout.begun s ≡ Started nodes ∷ [])

-- it may begin as it did, and each turn followed the rules
abbrev pub IsLegal : Layout → List Turn → Type 0
IsLegal layout [] = CanBegin layout
IsLegal layout (turn ∷ run) = IsAllowed layout turn run × IsLegal layout run

-- the rows that the first stores begin with
abbrev pub begun_writes : Layout → ℕ → List Row
begun_writes layout zero = []
begun_writes layout (suc s) = begun_writes layout s ++ writes (layout.begun s)

-- the writes and deletions of all items that were issued in the run, of all machines and for all stores
abbrev pub issued_since : List Turn → List Row
issued_since [] = []
issued_since (Issued s item ∷ run) = issued_since run ++ item_rows item
issued_since (_ ∷ run) = issued_since run

-- those after the rows that the stores begin with
abbrev pub issued_writes : Layout → List Turn → List Row
issued_writes layout run = begun_writes layout layout.stores ++ issued_since run

-- the rows of an item that a step accepted
abbrev pub step_rows : Step → List Row
step_rows (Took item) = item_rows item
step_rows _ = []

-- all accepted writes and deletions, of all stores, after the rows that they begin with
abbrev pub accepted_writes : Layout → List Turn → List Row
accepted_writes layout [] = begun_writes layout layout.stores
accepted_writes layout (Stepped s step ∷ run) = accepted_writes layout run ++ step_rows step
accepted_writes layout (_ ∷ run) = accepted_writes layout run
