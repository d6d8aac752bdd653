-- The lines of a script, and the events that they spell.
use Rattle.std.specs.Prelude.{◌≡◌, ℕ, ◌<◌, ◌≤◌, ◌^◌, List, [], ◌∷◌, codes, decimal, ⊤}
use Rattle.hlc_clock.specs.Stamp.{stamp_text}
use Rattle.hlc_text.specs.{Text.bytes_token, Text.AreBytes, Lines.spaced}
use Rattle.hlc_world_event.specs.Events.{Event}
use Rattle.hlc_world_event.specs.declared.event.Event.TheVariants.{Write, Delete, Report, Retire, Join, Send, Receive}
use Rattle.hlc_world_event.specs.declared.event.Event.TheVariants.{Observe, Deliver, OpenAt, OpenFloor, Read}
use Rattle.hlc_world_event.specs.declared.event.Event.TheVariants.{List as ListAll, Close, Floor, Vacuum, Rows}

-- the words of an event
abbrev pub event_words : Event → List (List ℕ)
event_words (Write node reading key value) =
    codes "write" ∷ decimal node ∷ decimal reading ∷ bytes_token key ∷ bytes_token value ∷ []
event_words (Delete node reading key) = codes "delete" ∷ decimal node ∷ decimal reading ∷ bytes_token key ∷ []
event_words (Report node reading) = codes "report" ∷ decimal node ∷ decimal reading ∷ []
event_words (Retire node reading) = codes "retire" ∷ decimal node ∷ decimal reading ∷ []
event_words Join = codes "join" ∷ []
event_words (Send node reading) = codes "send" ∷ decimal node ∷ decimal reading ∷ []
event_words (Receive node reading message) = codes "receive" ∷ decimal node ∷ decimal reading ∷ decimal message ∷ []
event_words (Observe node reading id) = codes "observe" ∷ decimal node ∷ decimal reading ∷ decimal id ∷ []
event_words (Deliver node number) = codes "deliver" ∷ decimal node ∷ decimal number ∷ []
event_words (OpenAt stamp) = codes "open" ∷ stamp_text stamp ∷ []
event_words OpenFloor = codes "open" ∷ codes "floor" ∷ []
event_words (Read id key) = codes "read" ∷ decimal id ∷ bytes_token key ∷ []
event_words (ListAll id) = codes "list" ∷ decimal id ∷ []
event_words (Close id) = codes "close" ∷ decimal id ∷ []
event_words Floor = codes "floor" ∷ []
event_words Vacuum = codes "vacuum" ∷ []
event_words Rows = codes "rows" ∷ []

-- the only line of an event
abbrev pub event_line : Event → List ℕ
event_line event = spaced (event_words event)

-- what can be written as a line: a node below 2^16, numbers and stamps below 2^64, and bytes
abbrev pub HasLine : Event → Type 0
HasLine (Write node reading key value) = (node < 2 ^ 16) × (reading < 2 ^ 64) × AreBytes key × AreBytes value
HasLine (Delete node reading key) = (node < 2 ^ 16) × (reading < 2 ^ 64) × AreBytes key
HasLine (Report node reading) = (node < 2 ^ 16) × (reading < 2 ^ 64)
HasLine (Retire node reading) = (node < 2 ^ 16) × (reading < 2 ^ 64)
HasLine Join = ⊤
HasLine (Send node reading) = (node < 2 ^ 16) × (reading < 2 ^ 64)
HasLine (Receive node reading message) = (node < 2 ^ 16) × (reading < 2 ^ 64) × (message < 2 ^ 64)
HasLine (Observe node reading id) = (node < 2 ^ 16) × (reading < 2 ^ 64) × (id < 2 ^ 64)
HasLine (Deliver node number) = (node < 2 ^ 16) × (number < 2 ^ 64)
HasLine (OpenAt stamp) = stamp < 2 ^ 64
HasLine OpenFloor = ⊤
HasLine (Read id key) = (id < 2 ^ 64) × AreBytes key
HasLine (ListAll id) = id < 2 ^ 64
HasLine (Close id) = id < 2 ^ 64
HasLine Floor = ⊤
HasLine Vacuum = ⊤
HasLine Rows = ⊤

-- the event has a key, which may need memory
abbrev pub BearsBytes : Event → Type 0
BearsBytes (Write node reading key value) = ⊤
BearsBytes (Delete node reading key) = ⊤
BearsBytes (Read id key) = ⊤
BearsBytes _ = ⊥

-- the words of the first line
abbrev pub header_words : ℕ → List (List ℕ)
header_words nodes = codes "nodes" ∷ decimal nodes ∷ []

-- the first line
abbrev pub header_line : ℕ → List ℕ
header_line nodes = spaced (header_words nodes)

-- a script starts with 1 to 64 nodes
abbrev pub HasHeader : ℕ → Type 0
HasHeader nodes = (0 < nodes) × (nodes ≤ 64)

-- two events that have the same line are equal
abbrev pub OneEvent : Type 0
OneEvent = (event other : Event) → HasLine event → HasLine other → event_line event ≡ event_line other → event ≡ other
