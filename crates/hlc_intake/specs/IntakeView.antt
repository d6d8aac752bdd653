-- The progress of a link, and its next item.
use Rattle.std.specs.Prelude.{◌≡◌, ◌≢◌, ℕ, Bool, true, false, ◌<◌, ◌≤◌, ◌+◌, Result, Ok, Err}
use Rattle.hlc_values.specs.declared.bounds.TheConstants.{NUMBER_BOUND}
use Rattle.hlc_intake.specs.declared.intake.LinkFault.{LinkFault}
use Rattle.hlc_intake.specs.declared.intake.LinkFault.TheVariants.{Retired, NotNext, NumbersSpent, StampNotRising}

-- the progress of a link: the number of its next item, the stamp of the last admitted one or else of the node's start,
-- and whether the last admitted one was its node's last
pub record IntakeView : Type 0 where
  pub next : ℕ
  pub head : ℕ
  pub retired : Bool

-- an item with this number and stamp is the link's next one: its node has not retired, the number is the next one,
-- another number is left after it, and its stamp is above the last one
pub record IsNextItem (link : IntakeView) (number stamp : ℕ) : Type 0 where
  pub unretired : link.retired ≡ false
  pub in_turn : number ≡ link.next
  pub left : number < NUMBER_BOUND
  pub rising : link.head < stamp

-- the first reason why an item with this number and stamp is not the next one
abbrev pub IsFirstRefusal : IntakeView → ℕ → ℕ → LinkFault → Type 0
IsFirstRefusal link number stamp Retired = link.retired ≡ true
IsFirstRefusal link number stamp (NotNext next) = (link.retired ≡ false) × (next ≡ link.next) × (number ≢ link.next)
IsFirstRefusal link number stamp NumbersSpent =
    (link.retired ≡ false) × (number ≡ link.next) × (number ≡ NUMBER_BOUND)
IsFirstRefusal link number stamp (StampNotRising head) =
    (link.retired ≡ false) × (head ≡ link.head) × (number ≡ link.next)
    × (number ≢ NUMBER_BOUND) × (stamp ≤ link.head)

-- the next item is admitted and becomes the link's last; any other is refused for the first reason, and the link does
-- not change
abbrev pub Admits : IntakeView → IntakeView → ℕ → ℕ → Bool → Result Unit LinkFault → Type 0
Admits old new number stamp last (Ok done) =
    IsNextItem old number stamp × (new ≡ record { next = number + 1; head = stamp; retired = last })
Admits old new number stamp last (Err fault) = IsFirstRefusal old number stamp fault × (new ≡ old)
