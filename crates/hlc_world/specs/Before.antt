-- Happened before, over the events of a schedule (Lamport 1978).
use Rattle.std.specs.Prelude.{◌≡◌, ℕ, ◌<◌, ◌≤◌, List, [], ◌∷◌, length, Option, Some, None, ◌==◌, if◌then◌else◌}
use Rattle.hlc_world_event.specs.declared.event.Event.TheVariants.{Write, Delete, Send, Receive, Observe}
use Rattle.hlc_world.specs.{declared.reply.Reply.Reply, Schedule.stamping_of}
use Rattle.hlc_world.specs.declared.reply.Reply.TheVariants.{Stamped, Sent, Received, Observed, Snapshot}
use Rattle.hlc_world_event.specs.Events.{Event}

-- the event that comes after this many events, with its reply
abbrev pub entry_at : List (Event × Reply) → ℕ → Option (Event × Reply)
entry_at [] turn = None
entry_at (entry ∷ schedule) turn = if turn == length schedule then Some entry else entry_at schedule turn

-- the event of this turn took place at this node, and has this stamp
pub record IsStamped (schedule : List (Event × Reply)) (turn node stamp : ℕ) : Type 0 where
  pub entry : Event × Reply
  pub at : entry_at schedule turn ≡ Some entry
  pub mark : stamping_of entry.0 entry.1 ≡ Some (node, stamp)

-- the stamp of a write or a deletion
abbrev pub write_stamp : Event → Reply → Option ℕ
write_stamp (Write node reading key value) (Stamped stamp number) = Some stamp
write_stamp (Delete node reading key) (Stamped stamp number) = Some stamp
write_stamp _ _ = None

-- the event of this turn is a write or a deletion, and has this stamp
pub record IsWritten (schedule : List (Event × Reply)) (turn stamp : ℕ) : Type 0 where
  pub entry : Event × Reply
  pub at : entry_at schedule turn ≡ Some entry
  pub written : write_stamp entry.0 entry.1 ≡ Some stamp

-- the snapshot of this id was opened at this stamp, by the event of some turn
pub record IsOpenedAt (schedule : List (Event × Reply)) (id stamp : ℕ) : Type 0 where
  pub turn : ℕ
  pub event : Event
  pub at : entry_at schedule turn ≡ Some (event, Snapshot id stamp)

-- the least transitive relation from an event of a node to each later event of that node, from a send to each receipt
-- of its message, and from a write or deletion at or below a stamp to each observation of a snapshot at that stamp
pub data HappenedBefore (schedule : List (Event × Reply)) : ℕ → ℕ → Type 0 where
  on_node : {first later : ℕ} (n a b : ℕ) → first < later → IsStamped schedule first n a → IsStamped schedule later n b
      → HappenedBefore schedule first later
  on_message : {first later : ℕ} (n r a number m q b : ℕ) → entry_at schedule first ≡ Some (Send n r, Sent a number)
      → entry_at schedule later ≡ Some (Receive m q number, Received b) → HappenedBefore schedule first later
  on_observation : {first later : ℕ} (a n r id at b : ℕ) → IsWritten schedule first a → IsOpenedAt schedule id at
      → a ≤ at → entry_at schedule later ≡ Some (Observe n r id, Observed b) → HappenedBefore schedule first later
  through : {first middle last : ℕ} → HappenedBefore schedule first middle → HappenedBefore schedule middle last
      → HappenedBefore schedule first last
