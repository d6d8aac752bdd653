-- What a worker's receipts say about its calls.
use Rattle.std.specs.Prelude.{◌≡◌, ◌≢◌, ◌+◌, ◌<◌, ◌≤◌, ℕ, List, [], ◌∷◌, ◌++◌, length, map, replicate, Bool, true}
use Rattle.std.specs.Prelude.{false, All, Result, MatchResult}
use Rattle.hlc_events.specs.declared.event.CoreEvent.{CoreEvent, TheVariants.Vacuum}
use Rattle.hlc_server.specs.{declared.entry.Receipt.Receipt, Seats.CallerView}
use Rattle.hlc_workers.specs.declared.session.Work.{Work}
use Rattle.hlc_server.specs.declared.end.WorkEnd.{WorkEnd, TheVariants.Done, TheVariants.Held, TheVariants.Closed}

-- the call of a receipt
abbrev pub event_of : Receipt → CoreEvent
event_of receipt = receipt.event

-- the caller keeps its number, its share rose by the number of its receipts, and each receipt has its number
pub record IsPaid (before after : CallerView) (receipts : List Receipt) : Type 0 where
  pub number : after.number ≡ before.number
  pub share : after.share ≡ before.share + length receipts
  pub bear : All (λ (receipt : Receipt). receipt.caller ≡ before.number) receipts

-- the gate was asked for the calls of these receipts, of which the first has this turn, and let each pass: so it may
-- answer true at each of these turns
abbrev pub Passed : (ℕ → Bool → Type 0) → ℕ → List Receipt → Type 0
Passed may from receipts = (turn : ℕ) → from ≤ turn → turn < from + length receipts → may turn true

-- each of these receipts is of a vacuum, and there are at most this many
abbrev pub AreVacuums : ℕ → List Receipt → Type 0
AreVacuums times receipts =
    (count : ℕ) × (count ≤ times) × (map event_of receipts ≡ replicate count Vacuum)

-- Below, a worker's caller and receipts were `old` and are `new`, and `may` is what its gate may answer at a turn.

-- these further calls were made, each after the gate let its turn pass
pub record HasCalled {L : Type 0} (may : ℕ → Bool → Type 0) (old new : Work L) (more : List Receipt) : Type 0 where
  pub receipts : new.receipts.items ≡ old.receipts.items ++ more
  pub paid : IsPaid old.caller new.caller more
  pub passed : Passed may (length old.receipts.items) more

-- the work ends like this before all of it is done; no link was asked, so none is closed
pub record IsStopped {L : Type 0} (may : ℕ → Bool → Type 0) (new : Work L) (end : WorkEnd) : Type 0 where
  pub undone : end ≢ Done
  pub unclosed : end ≢ Closed
  pub stopped : end ≡ Held → may (length new.receipts.items) false

-- no call was made
pub record HasStayed {L : Type 0} (old new : Work L) : Type 0 where
  pub receipts : new.receipts.items ≡ old.receipts.items
  pub caller : new.caller ≡ old.caller

-- one more call was made, of which this is wanted; or none was made, and the work ends like this
abbrev pub MadeOne : {L A : Type 0} → (ℕ → Bool → Type 0) → Work L → Work L → Result A WorkEnd
    → (A → Receipt → Type 0) → Type 0
MadeOne may old new made Wanted =
    MatchResult made (λ a. (receipt : Receipt) × HasCalled may old new (receipt ∷ []) × Wanted a receipt)
    (λ end. HasStayed old new × IsStopped may new end)

-- some more calls were made; where the work goes on, they are the wanted ones, and else the first of such
abbrev pub MadeSome : {L A : Type 0} → (ℕ → Bool → Type 0) → Work L → Work L → Result A WorkEnd
    → (List Receipt → Type 0) → Type 0
MadeSome may old new made Wanted =
    (more : List Receipt) × HasCalled may old new more
    × MatchResult made (λ _. Wanted more)
    (λ end. IsStopped may new end × ((rest : List Receipt) × Wanted (more ++ rest)))
