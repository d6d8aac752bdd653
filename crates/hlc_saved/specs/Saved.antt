-- Bytes that represent a past.
use Rattle.std.specs.Prelude.{◌≡◌, ℕ, List, Result, Ok, Err}
use Rattle.hlc_core.specs.{Past.Step, StoreView.StoreView, StoreView.Represents}
use Rattle.hlc_checkpoint.specs.Checkpoint.{IsCheckpoint, IsCheckpointOf, IsCopyOf, IsFirstReason}
use Rattle.hlc_wire.specs.declared.fault.WireFault.{WireFault}
use Rattle.hlc_frame.specs.Opening.{opened}
use Rattle.hlc_saved.specs.declared.{fault.ResumeError.ResumeError, saving.Resumed.Resumed}
use Rattle.hlc_saved.specs.declared.fault.ResumeError.TheVariants.{NoMemory, Bytes, Parts}
use Rattle.hlc_body.specs.{Spelling.saved_bytes, Spelling.SavedFits, Reading.saved}

-- the bytes are the encoding of a tag and a checkpoint
pub record AreOf (bytes : List ℕ) (tag : ℕ) (kept : StoreView) : Type 0 where
  pub spelled : bytes ≡ saved_bytes tag kept
  pub fits : SavedFits tag kept
  pub sound : IsCheckpoint kept

-- and the checkpoint represents the past
abbrev pub BytesRepresent : List ℕ → ℕ → List Step → Type 0
BytesRepresent bytes tag past = (kept : StoreView) × AreOf bytes tag kept × Represents kept past

-- the bytes are the encoding of a tag and a checkpoint of a store with this state
abbrev pub AreOfStore : List ℕ → ℕ → StoreView → Type 0
AreOfStore bytes tag kept = (made : StoreView) × AreOf bytes tag made × IsCheckpointOf kept made

-- all of the bytes are one frame, whatever its body is
abbrev pub AreFrame : List ℕ → Type 0
AreFrame bytes = (frame : ℕ × List ℕ) × (opened bytes ≡ Ok frame)

-- the bytes contain no checkpoint, first for this reason; memory runs out only after all of them were found to be a
-- frame
abbrev pub SpellNone : List ℕ → ResumeError → Type 0
SpellNone bytes NoMemory = AreFrame bytes
SpellNone bytes (Bytes fault) = saved bytes ≡ Err fault
SpellNone bytes (Parts fault) =
    (tag : ℕ) × (kept : StoreView) × (saved bytes ≡ Ok (tag, kept)) × IsFirstReason kept fault

-- A store was made from the bytes, with exactly the state in them; or why not: the first fault of the bytes, or else
-- the first reason why their content is no checkpoint; or, of a frame, out of memory.
abbrev pub Resumes : List ℕ → Result Resumed ResumeError → Type 0
Resumes bytes (Ok made) = (kept : StoreView) × AreOf bytes made.tag kept × IsCopyOf kept made.core
Resumes bytes (Err error) = SpellNone bytes error

-- a store was made with exactly the state that was read; or why not: the fault of the reading, or else the first reason
-- why that state is no checkpoint; or out of memory
abbrev pub Ends : Result StoreView WireFault → Result StoreView ResumeError → Type 0
Ends read (Ok core) = (kept : StoreView) × (read ≡ Ok kept) × IsCheckpoint kept × IsCopyOf kept core
Ends read (Err NoMemory) = Unit {0}
Ends read (Err (Bytes fault)) = read ≡ Err fault
Ends read (Err (Parts fault)) =
    (kept : StoreView) × (read ≡ Ok kept) × IsFirstReason kept fault

-- the same, with the tag
abbrev pub EndsWith : Result StoreView WireFault → ℕ → Result Resumed ResumeError → Type 0
EndsWith read tag (Ok made) = Ends read (Ok made.core) × (made.tag ≡ tag)
EndsWith read tag (Err error) = Ends read (Err error)
