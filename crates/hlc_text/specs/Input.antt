-- What an input is, according to what is known of its reader's bytes, and why there is none.
use Rattle.std.specs.Prelude.{◌≡◌, ℕ, ◌<◌, ◌≤◌, List, length, codes, Option, Some, None, ⊤}
use Rattle.std.specs.Io.KnownBytes.{Consumes}
use Rattle.hlc_text.specs.declared.input.{InputFault.InputFault, TheConstants.INPUT_LIMIT}
use Rattle.hlc_text.specs.declared.input.InputFault.TheVariants.{NoMemory, ReadFault, TooLong}

-- the bytes that a reader had left, where they are known
abbrev pub IsInput : Option (List ℕ) → List ℕ → Type 0
IsInput None input = ⊤
IsInput (Some bytes) input = bytes ≡ input

-- the possible reasons why an input is not loaded: it can run out of memory only where there is a byte to load
abbrev pub MayFault : List ℕ → InputFault → Type 0
MayFault input NoMemory = 0 < length input
MayFault input ReadFault = ⊤
MayFault input TooLong = INPUT_LIMIT < length input

-- What may have been taken from the reader at a fault: bytes for which it ran out of memory, some bytes before a read
-- that fails, or a byte past the limit. The first fault ends the reading.
abbrev pub FaultTakes : List ℕ → InputFault → Type 0
FaultTakes taken NoMemory = (0 < length taken) × (length taken ≤ INPUT_LIMIT)
FaultTakes taken ReadFault = length taken ≤ INPUT_LIMIT
FaultTakes taken TooLong = INPUT_LIMIT < length taken

-- an input of which some was taken was not loaded
pub record IsNotLoaded (before after : Option (List ℕ)) (fault : InputFault) : Type 0 where
  pub input : List ℕ
  pub taken : List ℕ
  pub is_input : IsInput before input
  pub consumed : Consumes before after taken
  pub may_take : FaultTakes taken fault
  pub may_fault : MayFault input fault

-- the line for a fault
abbrev pub fault_line : InputFault → List ℕ
fault_line NoMemory = codes "refused 15"
fault_line ReadFault = codes "refused 18"
fault_line TooLong = codes "refused 20"
