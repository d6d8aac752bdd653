-- When the receipts of all callers settle with the trail, and what follows from that.
use Rattle.std.specs.Prelude.{◌≡◌, ℕ, ◌+◌, ◌<◌, ◌⊎◌, List, [], ◌∷◌, ◌++◌, length, map, filter, ◌==◌, take, slice_get}
use Rattle.std.specs.Prelude.{Option, Some, None, Result, Ok, Err, ⊤}
use Rattle.std.specs.declared.vec.Vec.{Vec}
use Rattle.hlc_core.specs.{History.RepresentsHistory, Headline.IsFaithful}
use Rattle.hlc_server.specs.declared.{entry.Entry.Entry, entry.Receipt.Receipt, settle.Settled.Settled}
use Rattle.hlc_server.specs.declared.settle.SettleFault.{SettleFault, TheVariants.NoTrail, TheVariants.ReceiptMismatch}
use Rattle.hlc_server.specs.{Seats.CallerView, Trails.GuardedView, Trails.history_of, Trails.entry}

-- a receipt, and the number of the caller in whose list it is
pub record Claim : Type 0 where
  pub by : ℕ
  pub receipt : Receipt

-- the receipt in the list of the caller of this number
abbrev pub claim : ℕ → Receipt → Claim
claim by receipt = record { by = by; receipt = receipt }

-- all receipts in the order of the lists
abbrev pub claims_of : {Z : Type 0} → List (CallerView × Vec Receipt Z) → List Claim
claims_of [] = []
claims_of (list ∷ lists) = map (claim list.0.number) list.1.items ++ claims_of lists

-- the receipt is the trail's entry at its number, in caller, event and reply
abbrev pub IsInTrail : List Entry → Receipt → Type 0
IsInTrail trail receipt = slice_get trail receipt.number ≡ Some (entry receipt.caller receipt.event receipt.reply)

-- the caller of a receipt, and its number
abbrev pub key_of : Receipt → ℕ × ℕ
key_of receipt = (receipt.caller, receipt.number)

-- one pair of caller and number is below another: by caller, then by number; nothing comes before the first receipt
abbrev pub IsBelow : Option (ℕ × ℕ) → ℕ × ℕ → Type 0
IsBelow None b = ⊤
IsBelow (Some a) b = (a.0 < b.0) ⊎ ((a.0 ≡ b.0) × (a.1 < b.1))

-- the receipt is in the trail, has the number of the caller in whose list it is, and comes after the one before
abbrev pub IsGood : List Entry → Option (ℕ × ℕ) → Claim → Type 0
IsGood trail before one =
    IsInTrail trail one.receipt × (one.receipt.caller ≡ one.by) × IsBelow before (key_of one.receipt)

-- each of these receipts is good, after this caller and number
abbrev pub AreGood : List Entry → Option (ℕ × ℕ) → List Claim → Type 0
AreGood trail before [] = ⊤
AreGood trail before (one ∷ claims) = IsGood trail before one × AreGood trail (Some (key_of one.receipt)) claims

-- each receipt is good, and there are as many as entries
abbrev pub IsSettled : List Entry → List Claim → Type 0
IsSettled trail claims = AreGood trail None claims × (length claims ≡ length trail)

-- the place of the first bad receipt, or the number of receipts where only that differs from the number of entries
abbrev pub IsFirstBad : List Entry → List Claim → ℕ → Type 0
IsFirstBad trail claims index =
    AreGood trail None (take index claims)
    × (((index < length claims) × ¬ AreGood trail None (take (index + 1) claims))
    ⊎ ((index ≡ length claims) × (length claims ≡ length trail → ⊥)))

-- the caller and number of the last of these receipts, or the ones before them where there is none
abbrev pub last_key : Option (ℕ × ℕ) → List Claim → Option (ℕ × ℕ)
last_key before [] = before
last_key before (one ∷ claims) = last_key (Some (key_of one.receipt)) claims

-- the receipt that is expected for an entry
abbrev pub receipt_of : ℕ → Entry → Receipt
receipt_of number e = record { caller = e.caller; number = number; event = e.event; reply = e.reply }

-- the receipts that are expected for the entries of a trail, whose first one has this number
abbrev pub receipts_from : ℕ → List Entry → List Receipt
receipts_from number [] = []
receipts_from number (e ∷ trail) = receipt_of number e ∷ receipts_from (number + 1) trail

-- the receipts with the caller's number, in order
abbrev pub of_caller : ℕ → List Receipt → List Receipt
of_caller caller receipts = filter (λ (receipt : Receipt). receipt.caller == caller) receipts

-- the receipts of all lists, in order
abbrev pub receipts_in : List Claim → List Receipt
receipts_in claims = map (λ (one : Claim). one.receipt) claims

-- each caller got the receipts of its calls in the trail, each once and in their order
abbrev pub EachIsClaimed : List Entry → List Claim → Type 0
EachIsClaimed trail claims = (caller : ℕ)
    → of_caller caller (receipts_in claims) ≡ of_caller caller (receipts_from 0 trail)

-- The receipts settle with the trail of the lock. Then all replies that callers got are those of one legal history,
-- with each call once, in the order of each caller's own calls; the core represents that history, and is faithful to
-- it.
pub record Settles (lock : GuardedView) (claims : List Claim) (settled : Settled) : Type 0 where
  pub trail : List Entry
  pub kept : lock.trail ≡ Some trail
  pub all : IsSettled trail claims
  pub returned : EachIsClaimed trail claims
  pub represents : RepresentsHistory settled.core.initial_nodes settled.core (history_of trail)
  pub faithful : IsFaithful settled.core.initial_nodes (history_of trail) settled.core.rows
  pub core : settled.core ≡ lock.core
  pub entries : settled.entries ≡ length trail

-- the result of settling these receipts with this lock
abbrev pub IsSettlement : GuardedView → List Claim → Result Settled SettleFault → Type 0
IsSettlement lock claims (Ok settled) = Settles lock claims settled
IsSettlement lock claims (Err NoTrail) = lock.trail ≡ None
IsSettlement lock claims (Err (ReceiptMismatch index)) =
    (trail : List Entry) × (lock.trail ≡ Some trail) × IsFirstBad trail claims index
