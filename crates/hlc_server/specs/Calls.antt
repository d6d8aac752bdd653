-- What happens while a call has the lock, and what it returns to the caller.
use Rattle.std.specs.Prelude.{◌≡◌, ◌↔◌, ◌+◌, ◌-◌, ◌^◌, ◌≤◌, ◌⊎◌, ℕ, Bool, List, Option, None, IsSome, Result}
use Rattle.std.specs.Prelude.{MatchResult}
use Rattle.std.specs.{Option.ForSome, Option.is_some, declared.alloc.AllocError.AllocError}
use Rattle.hlc_events.specs.declared.event.CoreEvent.{CoreEvent}
use Rattle.hlc_core.specs.{declared.reply.CoreReply.CoreReply, Past.Step, StoreView.StoreView, StoreView.Represents}
use Rattle.hlc_core.specs.History.{RepresentsHistory, IsStep, IsExpected, IsReplyTo, past_of, expected_refusal}
use Rattle.hlc_core.specs.History.{MayRunOutOfMemory}
use Rattle.hlc_server.specs.{declared.entry.Entry.Entry, declared.entry.Receipt.Receipt, Seats.CallerView}
use Rattle.hlc_server.specs.declared.entry.NotDone.{NotDone, TheVariants.NumbersSpent, TheVariants.NoMemory}
use Rattle.hlc_server.specs.Trails.{GuardedView, HasHistory, entry, with_entry, history_of}

-- The call was made: the share counts it; the receipt has the caller's number, the event, a reply of that event's form,
-- and a number that counts at least the caller's own earlier calls.
pub record IsMade (caller : CallerView) (event : CoreEvent) (after : CallerView) (receipt : Receipt) : Type 0 where
  pub number : after.number ≡ caller.number
  pub share : after.share ≡ caller.share + 1
  pub by : receipt.caller ≡ caller.number
  pub asks : receipt.event ≡ event
  pub form : IsReplyTo event receipt.reply
  pub own : caller.share ≤ receipt.number

-- the call was not made: the caller is unchanged, and the event is returned
pub record IsNotMade (caller : CallerView) (event : CoreEvent) (after : CallerView) (back : CoreEvent) : Type 0 where
  pub same : after ≡ caller
  pub asks : back ≡ event

-- what a call of the shared store returns to its caller
abbrev pub IsResultFor : CallerView → CoreEvent → (CallerView × Result Receipt (NotDone × CoreEvent)) → Type 0
IsResultFor caller event returned =
    MatchResult returned.1 (λ receipt. IsMade caller event returned.0 receipt)
    (λ back. IsNotMade caller event returned.0 back.1)

-- What happens under the lock where the call is made. The receipt's number is the number of all calls before it. The
-- trail has one entry more: this caller, the event and the reply of the receipt. The reply is expected after the
-- history in the trail. The same is true without a trail: after each history that the core represented, the reply is
-- expected, and the core represents the history with it.
pub record IsOneLockedCall (old new : GuardedView) (event : CoreEvent) (receipt : Receipt) : Type 0 where
  pub number : receipt.number ≡ old.calls
  pub calls : new.calls ≡ old.calls + 1
  pub trail : new.trail ≡ with_entry old.trail (entry receipt.caller receipt.event receipt.reply)
  pub expected : ForSome old.trail
      (λ trail. IsExpected (past_of old.core.initial_nodes (history_of trail)) event receipt.reply)
  pub step : (nodes : ℕ) (history : List (CoreEvent × CoreReply)) → RepresentsHistory nodes old.core history
      → IsStep nodes old.core new.core event history receipt.reply

-- whatever took place in the core, no refusal of the event is expected, and it may run out of memory
abbrev pub MayLack : StoreView → CoreEvent → Type 0
MayLack core event = (past : List Step) → Represents core past
    → (expected_refusal past event ≡ None) × MayRunOutOfMemory past event

-- where it is not made, nothing changed; no number is left exactly where the book is full, otherwise it ran out of
-- memory: for the trail, or the event may do so
pub record IsLeft (old new : GuardedView) (event : CoreEvent) (fault : NotDone) : Type 0 where
  pub same : new ≡ old
  pub full : (fault ≡ NumbersSpent) ↔ (old.calls ≡ 2 ^ 64 - 1)
  pub memory : fault ≡ NoMemory → IsSome old.trail ⊎ MayLack old.core event

-- what one call does while it has the lock, whether the call is made or not
abbrev pub IsLockedCall : GuardedView → GuardedView → CoreEvent → Result Receipt (NotDone × CoreEvent) → Type 0
IsLockedCall old new event returned = MatchResult returned (λ receipt. IsOneLockedCall old new event receipt)
    (λ back. IsLeft old new event back.0)

-- A call was made, or was not, while it had the lock of some store, with a trail or without, which represented a
-- history of all calls before: so a reply is one that a store gives after as many calls as the receipt's number.
pub record IsUnderLock (audited : Bool) (event : CoreEvent) (returned : Result Receipt (NotDone × CoreEvent)) : Type 0
  where
    pub old : GuardedView
    pub new : GuardedView
    pub kept : is_some old.trail ≡ audited
    pub history : HasHistory old.core old.calls
    pub called : IsLockedCall old new event returned

-- what a call of a shared store returns to its caller, with a trail or without
abbrev pub IsShared : Bool → CallerView → CoreEvent → (CallerView × Result Receipt (NotDone × CoreEvent)) → Type 0
IsShared audited caller event returned =
    IsResultFor caller event returned × IsUnderLock audited event returned.1

-- The core made a call: its reply has the event's form, and after each history that the core represented, the reply is
-- expected and the core represents the history with it.
pub record IsReplied (old new : StoreView) (event : CoreEvent) (reply : CoreReply) : Type 0 where
  pub form : IsReplyTo event reply
  pub step : (nodes : ℕ) (history : List (CoreEvent × CoreReply)) → RepresentsHistory nodes old history
      → IsStep nodes old new event history reply

-- A call of the core was made and entered: the trail has one entry more where there is one.
pub record IsEntered (old new : StoreView) (before after : Option (List Entry)) (caller : ℕ) (event : CoreEvent)
    (reply : CoreReply) : Type 0 where
  pub made : IsReplied old new event reply
  pub trail : after ≡ with_entry before (entry caller event reply)

-- a call of the core and its entry; out of memory, for a trail or by the event, neither is made
abbrev pub Enters : StoreView → StoreView → Option (List Entry) → Option (List Entry) → ℕ → CoreEvent
    → Result CoreReply AllocError → Type 0
Enters old new before after caller event made =
    MatchResult made (λ reply. IsEntered old new before after caller event reply)
    (λ shortage. (new ≡ old) × (after ≡ before) × (IsSome before ⊎ MayLack old event))
