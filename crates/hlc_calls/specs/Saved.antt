-- How a store's bytes are returned, and how one is made of bytes.
use Rattle.std.specs.Prelude.{◌≡◌, ◌⊎◌, ℕ, List, Err}
use Rattle.hlc_wire.specs.{declared.fault.WireFault.WireFault, Faults.fault_code}
use Rattle.hlc_checkpoint.specs.{Checkpoint.IsCopyOf, RestoreFaults.fault_code as reason_code}
use Rattle.hlc_checkpoint.specs.declared.checkpoint.RestoreFault.{RestoreFault}
use Rattle.hlc_core.specs.StoreView.{StoreView}
use Rattle.hlc_saved.specs.{Saved.AreFrame, Saved.AreOf, Saved.SpellNone, declared.fault.ResumeError.ResumeError}
use Rattle.hlc_body.specs.Reading.{saved}
use Rattle.hlc_saved.specs.declared.fault.ResumeError.TheVariants.{NoMemory, Bytes, Parts}

-- the bytes are those of a checkpoint with this tag, and the store has exactly its state
abbrev pub IsRestored : List ℕ → ℕ → StoreView → Type 0
IsRestored bytes tag core = (kept : StoreView) × AreOf bytes tag kept × IsCopyOf kept core

-- no store was made: out of memory, and all of the bytes are a frame; or the first fault of the bytes is returned, or
-- the first reason why their content is no checkpoint
abbrev pub IsNotRestored : List ℕ → ℕ → ℕ → Type 0
IsNotRestored bytes code word =
    ((code ≡ 15) × (word ≡ 0) × AreFrame bytes)
    ⊎ (((fault : WireFault) × (saved bytes ≡ Err fault) × (code ≡ 106) × (word ≡ fault_code fault))
    ⊎ ((fault : RestoreFault) × SpellNone bytes (Parts fault) × (code ≡ 107) × (word ≡ reason_code fault)))

-- the answer for an error, and its word
abbrev pub resume_code : ResumeError → ℕ
resume_code NoMemory = 15
resume_code (Bytes fault) = 106
resume_code (Parts fault) = 107

abbrev pub resume_word : ResumeError → ℕ
resume_word NoMemory = 0
resume_word (Bytes fault) = fault_code fault
resume_word (Parts fault) = reason_code fault
