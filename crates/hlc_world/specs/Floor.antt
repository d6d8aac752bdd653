-- What the floor promises about a schedule, and what an open snapshot contains.
use Rattle.std.specs.Prelude.{◌≡◌, ℕ, ◌<◌, ◌≤◌, List, Contains, Some, false}
use Rattle.hlc_node.specs.declared.item.Item.{Item}
use Rattle.hlc_core.specs.Past.{Took, numbered, retired, floor, stamp_of}
use Rattle.hlc_world.specs.{declared.reply.Reply.Reply, Store.core_past, Before.entry_at, Before.HappenedBefore}
use Rattle.hlc_world.specs.Schedule.{item_made, issued, last_stamp}
use Rattle.hlc_world_event.specs.Events.{Event}

-- a node issued the item
abbrev pub IsIssued : Item → List (Event × Reply) → Type 0
IsIssued item schedule = (n : ℕ) × Contains (issued n schedule) item

-- the store accepted the item, in a world with this many nodes at the start
abbrev pub IsAccepted : ℕ → Item → List (Event × Reply) → Type 0
IsAccepted nodes item schedule = Contains (core_past nodes schedule) (Took item)

-- every issued item at or below the floor was accepted, so what is read there is final
abbrev pub IsComplete : ℕ → List (Event × Reply) → Type 0
IsComplete nodes schedule = (item : Item) → IsIssued item schedule → item.stamp ≤ floor (core_past nodes schedule)
    → IsAccepted nodes item schedule

-- no clock of a node whose last item was not yet accepted is below the floor
abbrev pub IsBelowClocks : ℕ → List (Event × Reply) → Type 0
IsBelowClocks nodes schedule =
    (n : ℕ) → n < numbered (core_past nodes schedule) → retired n (core_past nodes schedule) ≡ false
    → floor (core_past nodes schedule) ≤ last_stamp n schedule

-- the event of this turn issued the item
pub record IsIssuedAt (schedule : List (Event × Reply)) (turn : ℕ) (item : Item) : Type 0 where
  pub entry : Event × Reply
  pub at : entry_at schedule turn ≡ Some entry
  pub made : item_made entry.0 entry.1 ≡ Some item

-- The past of an open snapshot is whole: where an item is accepted and at or below the snapshot's stamp, every issued
-- item that happened before it is accepted and at or below that stamp as well.
abbrev pub IsClosed : ℕ → List (Event × Reply) → Type 0
IsClosed nodes schedule =
    (id stamp first later : ℕ) (item earlier : Item)
    → stamp_of id (core_past nodes schedule) ≡ Some stamp
    → IsIssuedAt schedule later item → IsAccepted nodes item schedule → item.stamp ≤ stamp
    → HappenedBefore schedule first later → IsIssuedAt schedule first earlier
    → IsAccepted nodes earlier schedule × (earlier.stamp ≤ stamp)
