-- Happened before, over the turns of a run (Lamport 1978): on machines, through messages and through stores.
use Rattle.std.specs.Prelude.{◌≡◌, ℕ, ◌<◌, ◌≤◌, List, Some}
use Rattle.hlc_node.specs.declared.item.Item.{Item}
use Rattle.hlc_ranges.specs.Run.{Layout, Turn, Issued, Sent, Received, Observed, stamping_of, turn_at}

-- the event of this turn took place at this machine, and has this stamp
pub record IsStamped (layout : Layout) (run : List Turn) (number machine stamp : ℕ) : Type 0 where
  pub turn : Turn
  pub at : turn_at run number ≡ Some turn
  pub mark : stamping_of layout turn ≡ Some (machine, stamp)

-- the least transitive relation from an event of a machine to each later event of that machine, on whatever link; from
-- a send to each receipt of its message; and from each item for a store at or below a stamp to each observation of that
-- store at the stamp
pub data HappenedBefore (layout : Layout) (run : List Turn) : ℕ → ℕ → Type 0 where
  on_machine : {first later : ℕ} (m a b : ℕ) → first < later → IsStamped layout run first m a
      → IsStamped layout run later m b → HappenedBefore layout run first later
  on_message : {first later : ℕ} (n a m b : ℕ) → turn_at run first ≡ Some (Sent n a)
      → turn_at run later ≡ Some (Received m first b) → HappenedBefore layout run first later
  on_observation : {first later : ℕ} (s : ℕ) (item : Item) (m at b : ℕ) → turn_at run first ≡ Some (Issued s item)
      → item.stamp ≤ at → turn_at run later ≡ Some (Observed m s at b) → HappenedBefore layout run first later
  through : {first middle last : ℕ} → HappenedBefore layout run first middle → HappenedBefore layout run middle last
      → HappenedBefore layout run first last
