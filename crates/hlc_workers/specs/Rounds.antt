-- What a reader's worker has done.
use Rattle.std.specs.Prelude.{◌≡◌, ℕ, ◌+◌, ◌-◌, ◌<◌, ◌≤◌, List, [], ◌∷◌, ◌++◌, map, length, slice_index}
use Rattle.hlc_events.specs.declared.fault.CoreFault.TheVariants.{AboveFloor, BelowHorizon}
use Rattle.hlc_events.specs.declared.event.CoreEvent.{CoreEvent}
use Rattle.hlc_events.specs.declared.event.CoreEvent.TheVariants.{OpenAt, OpenFloor, Read, Close}
use Rattle.hlc_core.specs.declared.reply.CoreReply.{CoreReply, TheVariants.Opened, TheVariants.Refused}
use Rattle.hlc_server.specs.declared.entry.Receipt.{Receipt}
use Rattle.hlc_floor.specs.{Board.found_at, Views.FloorPassView, Views.IsLeast}
use Rattle.hlc_workers.specs.declared.session.Opening.{Opening, TheVariants.Opened as opened}
use Rattle.hlc_workers.specs.declared.session.Opening.{TheVariants.Outside as outside, TheVariants.NotOpened as refused}
use Rattle.hlc_workers.specs.Paid.{event_of}

-- the result of an opening, from its reply
abbrev pub opening_of : CoreReply → Opening
opening_of (Opened id stamp) = opened id
opening_of (Refused (AboveFloor floor)) = outside
opening_of (Refused (BelowHorizon horizon)) = outside
opening_of _ = refused

-- the call of the receipt was for this event, and its result as an opening is this
abbrev pub IsOpening : CoreEvent → Opening → Receipt → Type 0
IsOpening event opening receipt = (receipt.event ≡ event) × (opening ≡ opening_of receipt.reply)

-- the calls of a snapshot: each key is read in turn, and it is closed
abbrev pub reads_of : ℕ → List (List ℕ) → List CoreEvent
reads_of id keys = map (Read id) keys ++ Close id ∷ []

-- what follows an opening at the floor
abbrev pub GoesOn : List (List ℕ) → Opening → List Receipt → Type 0
GoesOn keys (opened id) receipts = map event_of receipts ≡ reads_of id keys
GoesOn keys outside receipts = receipts ≡ []
GoesOn keys refused receipts = receipts ≡ []

-- an opening at the floor, and what follows
abbrev pub AtFloor : List (List ℕ) → List Receipt → Type 0
AtFloor keys [] = ⊥
AtFloor keys (receipt ∷ receipts) = (receipt.event ≡ OpenFloor) × GoesOn keys (opening_of receipt.reply) receipts

-- what follows an opening at the board's floor: where that is above the floor or below the horizon, an opening at the
-- floor
abbrev pub GoesOnOrAgain : List (List ℕ) → Opening → List Receipt → Type 0
GoesOnOrAgain keys (opened id) receipts = map event_of receipts ≡ reads_of id keys
GoesOnOrAgain keys outside receipts = AtFloor keys receipts
GoesOnOrAgain keys refused receipts = receipts ≡ []

-- one round at a stamp
abbrev pub IsRound : List (List ℕ) → ℕ → List Receipt → Type 0
IsRound keys stamp [] = ⊥
IsRound keys stamp (receipt ∷ receipts) =
    (receipt.event ≡ OpenAt stamp) × GoesOnOrAgain keys (opening_of receipt.reply) receipts

-- a round at each of the stamps, one after another
abbrev pub AreRounds : List (List ℕ) → List ℕ → List Receipt → Type 0
AreRounds keys [] receipts = receipts ≡ []
AreRounds keys (stamp ∷ stamps) receipts =
    (round : List Receipt) × (rest : List Receipt) × (receipts ≡ round ++ rest) × IsRound keys stamp round
    × AreRounds keys stamps rest

-- stamps that never fall
abbrev pub NeverFalls : List ℕ → Type 0
NeverFalls xs = (i j : ℕ) → i ≤ j → j < length xs → slice_index xs i ≤ slice_index xs j

-- a pass has looked so often at the word of node k: what it found there comes after what it found before
abbrev pub HasFound : FloorPassView → FloorPassView → ℕ → ℕ → Type 0
HasFound before after k looks =
    (more : List ℕ) × (found_at after.found k ≡ found_at before.found k ++ more) × (length more ≡ looks)

-- what its look number i since then, from 0 on, found at the word of node k
abbrev pub look_of : FloorPassView → FloorPassView → ℕ → ℕ → ℕ
look_of before after i k = slice_index (found_at after.found k) (length (found_at before.found k) + i)

-- n is the least that its looks of this number found
pub record IsLeastFound (before after : FloorPassView) (i n : ℕ) : Type 0 where
  pub among : (k : ℕ) × (k < before.board.words) × (look_of before after i k ≡ n)
  pub below : (k : ℕ) → k < before.board.words → n ≤ look_of before after i k

-- For each of these stamps a pass has made one look at each word of its board, and the stamp is the least that those
-- looks found. No seen value fell, nor do the stamps, and the last of them is the least of the values seen at the end.
pub record AreLeastFound (before after : FloorPassView) (stamps : List ℕ) : Type 0 where
  pub board : after.board ≡ before.board
  pub finds : (k : ℕ) → k < before.board.words → HasFound before after k (length stamps)
  pub least : (i : ℕ) → i < length stamps → IsLeastFound before after i (slice_index stamps i)
  pub rises : (k : ℕ) → slice_index before.seen k ≤ slice_index after.seen k
  pub never_fall : NeverFalls stamps
  pub last : 0 < length stamps → IsLeast before.board.words after.seen (slice_index stamps (length stamps - 1))

-- this many rounds, each at a stamp for which the pass has looked
abbrev pub HasServed : List (List ℕ) → ℕ → FloorPassView → FloorPassView → List Receipt → Type 0
HasServed keys rounds before after receipts =
    (stamps : List ℕ) × (length stamps ≡ rounds) × AreRounds keys stamps receipts × AreLeastFound before after stamps

-- at most this many rounds were begun, each at a stamp for which the pass has looked, and the receipts are the first of
-- theirs: more may be missing
abbrev pub HasBegun : List (List ℕ) → ℕ → FloorPassView → FloorPassView → List Receipt → Type 0
HasBegun keys rounds before after receipts =
    (stamps : List ℕ) × (rest : List Receipt) × (length stamps ≤ rounds) × AreRounds keys stamps (receipts ++ rest)
    × AreLeastFound before after stamps
