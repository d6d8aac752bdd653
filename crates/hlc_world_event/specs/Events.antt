-- Events, and those of which a copy takes no memory.
use Rattle.std.specs.Prelude.{ℕ, List, ⊤}
use Rattle.hlc_world_event.specs.declared.event.Event.{Event as EventOf}
use Rattle.hlc_world_event.specs.declared.event.Event.TheVariants.{Write, Delete, Read}

-- an event whose keys and values are lists of bytes
abbrev pub Event : Type 0
Event = EventOf (List ℕ)

-- the event has no key
abbrev pub IsPlainEvent : Event → Type 0
IsPlainEvent (Write node reading key value) = ⊥
IsPlainEvent (Delete node reading key) = ⊥
IsPlainEvent (Read id key) = ⊥
IsPlainEvent _ = ⊤
