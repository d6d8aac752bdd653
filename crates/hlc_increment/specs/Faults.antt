-- The numbers and the texts of the refusals.
use Rattle.std.specs.Prelude.{ℕ, List, ◌++◌, codes}
use Rattle.hlc_checkpoint.specs.RestoreFaults.{fault_code, fault_text}
use Rattle.hlc_clock.specs.Stamp.{stamp_text}
use Rattle.hlc_increment.specs.declared.{increment.IncrementFault.IncrementFault, advancing.AdvanceFault.AdvanceFault}
use Rattle.hlc_increment.specs.declared.advancing.AdvanceFault.TheVariants.{Parts, NotLater, AboveFloor, BelowHorizon}
use Rattle.hlc_increment.specs.declared.advancing.AdvanceFault.TheVariants.{RowUpToStamp}
use Rattle.hlc_increment.specs.declared.increment.IncrementFault.TheVariants as increments

-- the number of a refusal
abbrev pub increment_code : IncrementFault → ℕ
increment_code (increments.BelowHorizon horizon) = 9
increment_code increments.NoMemory = 15

-- the word of the horizon in it, or 0
abbrev pub increment_word : IncrementFault → ℕ
increment_word (increments.BelowHorizon horizon) = horizon
increment_word increments.NoMemory = 0

-- its text
abbrev pub increment_text : IncrementFault → List ℕ
increment_text (increments.BelowHorizon horizon) =
    codes "the stamp is below that of the last vacuum, " ++ stamp_text horizon
increment_text increments.NoMemory = codes "out of memory"

-- the number of a reason why an older checkpoint does not become a newer one, and its word
abbrev pub advance_code : AdvanceFault → ℕ
advance_code (Parts fault) = 107
advance_code NotLater = 111
advance_code (AboveFloor floor) = 8
advance_code (BelowHorizon horizon) = 110
advance_code RowUpToStamp = 110

abbrev pub advance_word : AdvanceFault → ℕ
advance_word (Parts fault) = fault_code fault
advance_word NotLater = 0
advance_word (AboveFloor floor) = floor
advance_word (BelowHorizon horizon) = 0
advance_word RowUpToStamp = 0

-- its text
abbrev pub advance_text : AdvanceFault → List ℕ
advance_text (Parts fault) = fault_text fault
advance_text NotLater = codes "the increment is not of a later state of this store"
advance_text (AboveFloor floor) = codes "the stamp is above the floor of the checkpoint, " ++ stamp_text floor
advance_text (BelowHorizon horizon) = codes "the stamp is below that of the last vacuum, " ++ stamp_text horizon
advance_text RowUpToStamp = codes "a row of the increment is not above its stamp"
