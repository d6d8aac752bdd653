-- What a store is expected to return: the reply to an event after what took place, and the histories in which each
-- event got the expected reply.
use Rattle.std.specs.Prelude.{◌≡◌, ◌≢◌, ℕ, ◌+◌, List, [], ◌∷◌, Option, Some, None, Result, Ok, Err, ⊤}
use Rattle.hlc_rows.specs.{declared.row.Row.Row, Rows.answer}
use Rattle.hlc_columns.specs.Answers.{in_part}
use Rattle.hlc_node.specs.Items.{retires}
use Rattle.hlc_events.specs.declared.{fault.CoreFault.CoreFault, event.CoreEvent.CoreEvent}
use Rattle.hlc_events.specs.declared.event.CoreEvent.TheVariants.{Accept, Join, OpenAt, OpenFloor, Read}
use Rattle.hlc_events.specs.declared.event.CoreEvent.TheVariants.{List as ListAll, Close, Vacuum, JoinAt, VacuumTo}
use Rattle.hlc_events.specs.declared.event.CoreEvent.TheVariants.{VacuumPart}
use Rattle.hlc_core.specs.{declared.reply.CoreReply.CoreReply, Stored.IsReport, Stored.LeavesFewest}
use Rattle.hlc_core.specs.declared.reply.CoreReply.TheVariants.{Accepted, Joined, Opened, Answer, Listing, Closed}
use Rattle.hlc_core.specs.declared.reply.CoreReply.TheVariants.{Vacuumed, VacuumedPart, Refused}
use Rattle.hlc_core.specs.Past.{Step, Started, Took, Joined as JoinedAt, Opened as OpenedAt, Closed as ClosedOf}
use Rattle.hlc_core.specs.Past.{Vacuumed as VacuumedTo, PartVacuumed, numbered, floor, last_id, stamp_of, writes}
use Rattle.hlc_core.specs.Past.{item_refusal, join_refusal, join_at_refusal, room_refusal, open_refusal, vacuum_refusal}
use Rattle.hlc_core.specs.{StoreView.StoreView, StoreView.Represents, Calls.IsWrite, Calls.IsListed, Calls.list_refusal}
use Rattle.hlc_core.specs.Parts.{MayVacuumPart, VacuumsPart, rows_of_keys}

-- Below, a history is the list of the events with their replies, the last one first. Out of memory is no reply: an
-- event that is returned for it leaves no trace.

-- the step of an event, if its reply says that it took place and it was not just a read
abbrev pub step_of : CoreEvent → CoreReply → Option Step
step_of (Accept item) (Accepted accepted) = Some (Took item)
step_of Join (Joined node start) = Some (JoinedAt node start)
step_of (OpenAt at) (Opened id stamp) = Some (OpenedAt stamp)
step_of OpenFloor (Opened id stamp) = Some (OpenedAt stamp)
step_of (Close id) (Closed stamp) = Some (ClosedOf id)
step_of (JoinAt at) (Joined node start) = Some (JoinedAt node start)
step_of Vacuum (Vacuumed report) = Some (VacuumedTo report.floor)
step_of (VacuumTo at) (Vacuumed report) = Some (VacuumedTo at)
step_of (VacuumPart at after limit) (VacuumedPart report end) = Some (PartVacuumed at report.dropped)
step_of _ _ = None

-- the past, and this step after it
abbrev pub with_step : Option Step → List Step → List Step
with_step None past = past
with_step (Some step) past = step ∷ past

-- what took place in a store with this many nodes at the start, the last step first
abbrev pub past_of : ℕ → List (CoreEvent × CoreReply) → List Step
past_of nodes [] = Started nodes ∷ []
past_of nodes (entry ∷ history) = with_step (step_of entry.0 entry.1) (past_of nodes history)

-- the first expected refusal, apart from memory
abbrev pub expected_refusal : List Step → CoreEvent → Option CoreFault
expected_refusal past (Accept item) = item_refusal past item
expected_refusal past Join = join_refusal past
expected_refusal past (OpenAt stamp) = open_refusal past stamp
expected_refusal past OpenFloor = room_refusal past
expected_refusal past (Read id key) = list_refusal (stamp_of id past)
expected_refusal past (ListAll id) = list_refusal (stamp_of id past)
expected_refusal past (Close id) = list_refusal (stamp_of id past)
expected_refusal past Vacuum = None
expected_refusal past (JoinAt start) = join_at_refusal past start
expected_refusal past (VacuumTo at) = vacuum_refusal past at
expected_refusal past (VacuumPart at after limit) = vacuum_refusal past at

-- the value is that of these answers at the snapshot's stamp
abbrev pub IsAnswer : Option ℕ → (ℕ → Option (List ℕ)) → Option (List ℕ) → Type 0
IsAnswer None answers value = ⊥
IsAnswer (Some stamp) answers value = value ≡ answers stamp

-- the expected reply if no refusal is expected
abbrev pub IsExpectedReply : List Step → CoreEvent → CoreReply → Type 0
IsExpectedReply past (Accept item) (Accepted accepted) =
    accepted ≡ record { node = item.node; stamp = item.stamp; retires = retires item.body }
IsExpectedReply past Join (Joined node start) = (node ≡ numbered past) × (start ≡ floor past)
IsExpectedReply past (OpenAt at) (Opened id stamp) = (id ≡ last_id past + 1) × (stamp ≡ at)
IsExpectedReply past OpenFloor (Opened id stamp) = (id ≡ last_id past + 1) × (stamp ≡ floor past)
IsExpectedReply past (Read id key) (Answer value) = IsAnswer (stamp_of id past) (answer (writes past) key) value
IsExpectedReply past (ListAll id) (Listing pairs) = IsListed (stamp_of id past) (writes past) pairs
IsExpectedReply past (Close id) (Closed stamp) = stamp_of id past ≡ Some stamp
IsExpectedReply past Vacuum (Vacuumed report) = IsReport (floor past) past report
IsExpectedReply past (JoinAt at) (Joined node start) = (node ≡ numbered past) × (start ≡ at)
IsExpectedReply past (VacuumTo at) (Vacuumed report) = IsReport at past report
IsExpectedReply past (VacuumPart at after limit) (VacuumedPart report end) =
    MayVacuumPart at after limit past report end
IsExpectedReply past _ _ = ⊥

-- the reply is the expected refusal; or, if none is expected, an expected reply
abbrev pub IsExpected : List Step → CoreEvent → CoreReply → Type 0
IsExpected past event (Refused fault) = expected_refusal past event ≡ Some fault
IsExpected past event reply = (expected_refusal past event ≡ None) × IsExpectedReply past event reply

-- each reply was expected, in a store with this many nodes at the start
abbrev pub IsLegalHistory : ℕ → List (CoreEvent × CoreReply) → Type 0
IsLegalHistory nodes [] = ⊤
IsLegalHistory nodes (entry ∷ history) = IsExpected (past_of nodes history) entry.0 entry.1
    × IsLegalHistory nodes history

-- where part of a vacuum took place after this past, the fewest and cheapest rows of its keys are among these rows
abbrev pub LeavesPart : List Step → CoreEvent → CoreReply → List Row → Type 0
LeavesPart past (VacuumPart at after limit) (VacuumedPart report end) rows =
    LeavesFewest (rows_of_keys (in_part after end) rows) (rows_of_keys (in_part after end) (writes past)) report
LeavesPart past _ _ rows = ⊤

-- if the last event was part of a vacuum, these are the rows just after it
abbrev pub IsLeft : ℕ → List (CoreEvent × CoreReply) → List Row → Type 0
IsLeft nodes [] rows = ⊤
IsLeft nodes (entry ∷ history) rows = LeavesPart (past_of nodes history) entry.0 entry.1 rows

-- the core had this many nodes at the start and represents the history: each reply was expected, the core represents
-- what took place, and just after part of a vacuum it has the rows that this leaves
pub record RepresentsHistory (nodes : ℕ) (kept : StoreView) (history : List (CoreEvent × CoreReply)) : Type 0 where
  pub legal : IsLegalHistory nodes history
  pub core : Represents kept (past_of nodes history)
  pub left : IsLeft nodes history kept.rows

-- the answer is a value, which is copied out of the store
abbrev pub TakesValue : Option ℕ → (ℕ → Option (List ℕ)) → Type 0
TakesValue None answers = ⊥
TakesValue (Some stamp) answers = answers stamp ≢ None

-- the event may run out of memory: it stores a row, lets a node join, opens a snapshot, returns a value or a listing,
-- or is a vacuum or part of one
abbrev pub MayRunOutOfMemory : List Step → CoreEvent → Type 0
MayRunOutOfMemory past (Accept item) = IsWrite item.body
MayRunOutOfMemory past (Read id key) = TakesValue (stamp_of id past) (answer (writes past) key)
MayRunOutOfMemory past (Close id) = ⊥
MayRunOutOfMemory past _ = ⊤

-- where part of a vacuum took place, it was one of these very stored rows, and ended where the reply says
abbrev pub IsPartMade : StoreView → StoreView → List Step → CoreEvent → CoreReply → Type 0
IsPartMade old new past (VacuumPart at after limit) (VacuumedPart report end) =
    VacuumsPart old new at after limit past (Ok (report, end))
IsPartMade old new past _ _ = ⊤

-- after a past that the core represented, the reply is expected, the core represents the past with the event's step,
-- and just after part of a vacuum it has the rows that this leaves
abbrev pub IsMove : List Step → StoreView → StoreView → CoreEvent → CoreReply → Type 0
IsMove past old new event reply =
    IsExpected past event reply
    × Represents new (with_step (step_of event reply) past)
    × LeavesPart past event reply new.rows
    × IsPartMade old new past event reply

-- the event had its reply; or no refusal is expected, and it ran out of memory, which it may
abbrev pub Moves : {E : Type 0} → List Step → StoreView → StoreView → CoreEvent → Result CoreReply E → Type 0
Moves past old new event (Ok reply) = IsMove past old new event reply
Moves past old new event (Err shortage) =
    (expected_refusal past event ≡ None) × MayRunOutOfMemory past event

-- after a history that the core represented, the reply is expected, and the core represents the history with it
abbrev pub IsStep : ℕ → StoreView → StoreView → CoreEvent → List (CoreEvent × CoreReply) → CoreReply → Type 0
IsStep nodes old new event history reply =
    IsExpected (past_of nodes history) event reply
    × RepresentsHistory nodes new ((event, reply) ∷ history)
    × IsPartMade old new (past_of nodes history) event reply

-- the event had its step; or no refusal is expected, and it ran out of memory, which it may
abbrev pub Steps : {E : Type 0} → ℕ → StoreView → StoreView → CoreEvent → List (CoreEvent × CoreReply)
    → Result CoreReply E → Type 0
Steps nodes old new event history (Ok reply) = IsStep nodes old new event history reply
Steps nodes old new event history (Err shortage) =
    (expected_refusal (past_of nodes history) event ≡ None) × MayRunOutOfMemory (past_of nodes history) event

-- the event only reads
abbrev pub IsQuestion : CoreEvent → Type 0
IsQuestion (Read id key) = ⊤
IsQuestion (ListAll id) = ⊤
IsQuestion _ = ⊥

-- the event asks for a vacuum or part of one
abbrev pub IsVacuum : CoreEvent → Type 0
IsVacuum Vacuum = ⊤
IsVacuum (VacuumTo at) = ⊤
IsVacuum (VacuumPart at after limit) = ⊤
IsVacuum _ = ⊥

-- the reply is a refusal
abbrev pub IsRefused : CoreReply → Type 0
IsRefused (Refused fault) = ⊤
IsRefused _ = ⊥

-- a copy of the reply needs no memory: it has no value, listing or report
abbrev pub IsPlain : CoreReply → Type 0
IsPlain (Answer (Some value)) = ⊥
IsPlain (Listing pairs) = ⊥
IsPlain (Vacuumed report) = ⊥
IsPlain (VacuumedPart report end) = ⊥
IsPlain _ = ⊤

-- the event may get a reply of this form, whatever took place
abbrev pub IsReplyTo : CoreEvent → CoreReply → Type 0
IsReplyTo (Accept item) (Accepted accepted) =
    accepted ≡ record { node = item.node; stamp = item.stamp; retires = retires item.body }
IsReplyTo Join (Joined node start) = ⊤
IsReplyTo (OpenAt at) (Opened id stamp) = stamp ≡ at
IsReplyTo OpenFloor (Opened id stamp) = ⊤
IsReplyTo (Read id key) (Answer value) = ⊤
IsReplyTo (ListAll id) (Listing pairs) = ⊤
IsReplyTo (Close id) (Closed stamp) = ⊤
IsReplyTo Vacuum (Vacuumed report) = ⊤
IsReplyTo Vacuum (Refused fault) = ⊥
IsReplyTo (JoinAt at) (Joined node start) = start ≡ at
IsReplyTo (VacuumTo at) (Vacuumed report) = ⊤
IsReplyTo (VacuumPart at after limit) (VacuumedPart report end) = ⊤
IsReplyTo event (Refused fault) = ⊤
IsReplyTo _ _ = ⊥
