-- How the bytes of an increment are returned, and those of the checkpoint that an older one becomes by it.
use Rattle.std.specs.Prelude.{◌≡◌, ℕ, ◌<◌, ◌≤◌, ◌⊎◌, List, Ok, Err}
use Rattle.hlc_wire.specs.{declared.fault.WireFault.WireFault, Faults.fault_code}
use Rattle.hlc_core.specs.{StoreView.StoreView, Checkpoint.IsCheckpoint, Checkpoint.IsFirstReason}
use Rattle.hlc_checkpoint.specs.declared.checkpoint.RestoreFault.{RestoreFault}
use Rattle.hlc_body.specs.Reading.{saved}
use Rattle.hlc_saved.specs.Saved.{AreOf}
use Rattle.hlc_increment.specs.{declared.advancing.AdvanceFault.AdvanceFault, Faults.advance_code, Faults.advance_word}
use Rattle.hlc_increment.specs.Increment.{IncrementView, IsIncrementOf, AreFitting, IsAdvanced, IsReason}
use Rattle.hlc_increment.specs.Bytes.{IncrementFits, increment_at, increment_bytes}

-- the bytes are the encoding of this tag and of the increment of this state since the stamp
pub record AreIncrementOf (bytes : List ℕ) (tag since : ℕ) (kept : StoreView) : Type 0 where
  pub increment : IncrementView
  pub of : IsIncrementOf kept increment
  pub stamp : increment.since ≡ since
  pub fits : IncrementFits tag increment
  pub spelled : bytes ≡ increment_bytes tag increment

-- the stamp is below the horizon, which is returned; or it is not, and memory ran out
abbrev pub IsRefusedIncrement : StoreView → ℕ → ℕ → ℕ → Type 0
IsRefusedIncrement kept since code horizon =
    ((code ≡ 9) × (since < kept.horizon) × (horizon ≡ kept.horizon))
    ⊎ ((code ≡ 15) × (kept.horizon ≤ since) × (horizon ≡ 0))

-- the bytes are those of this checkpoint, with some tag
abbrev pub IsRead : List ℕ → StoreView → Type 0
IsRead bytes kept = (before : ℕ) × (saved bytes ≡ Ok (before, kept))

-- the bytes are those of this tag and increment
abbrev pub IsReadIncrement : List ℕ → ℕ → IncrementView → Type 0
IsReadIncrement bytes tag increment = increment_at bytes ≡ Ok (tag, increment)

-- out of memory
abbrev pub IsShort : ℕ → ℕ → Type 0
IsShort code word = (code ≡ 15) × (word ≡ 0)

-- the first fault of the bytes of a checkpoint is returned; or out of memory
abbrev pub IsNotRead : List ℕ → ℕ → ℕ → Type 0
IsNotRead bytes code word =
    IsShort code word
    ⊎ ((fault : WireFault) × (saved bytes ≡ Err fault) × (code ≡ 106) × (word ≡ fault_code fault))

-- the first fault of the bytes of an increment is returned; or out of memory
abbrev pub IsNotReadIncrement : List ℕ → ℕ → ℕ → Type 0
IsNotReadIncrement bytes code word =
    IsShort code word
    ⊎ ((fault : WireFault) × (increment_at bytes ≡ Err fault) × (code ≡ 110) × (word ≡ fault_code fault))

-- the first reason is returned; or out of memory, and both fit each other
abbrev pub IsNotJoined : StoreView → IncrementView → ℕ → ℕ → Type 0
IsNotJoined older increment code word =
    (IsShort code word × AreFitting older increment)
    ⊎ ((reason : AdvanceFault) × IsReason older increment reason × (code ≡ advance_code reason)
    × (word ≡ advance_word reason))

-- the bytes are those of the checkpoint that the older one becomes by the increment, which fits it, with the
-- increment's tag
pub record AreAdvanced (older increment bytes : List ℕ) : Type 0 where
  pub kept : StoreView
  pub tag : ℕ
  pub read : IncrementView
  pub made : StoreView
  pub of_older : IsRead older kept
  pub of_increment : IsReadIncrement increment tag read
  pub fit : AreFitting kept read
  pub advanced : IsAdvanced kept read made
  pub spelled : AreOf bytes tag made

-- both fit each other, but what they make is no checkpoint, since the increment is not of a later state; or out of
-- memory, and it is one
abbrev pub MakesNone : StoreView → IncrementView → ℕ → ℕ → Type 0
MakesNone kept read code word =
    (made : StoreView) × AreFitting kept read × IsAdvanced kept read made
    × (((code ≡ 15) × IsCheckpoint made) ⊎ ((reason : RestoreFault) × IsFirstReason made reason × (code ≡ 111)))
    × (word ≡ 0)

-- no bytes were made: the older one was not read; it was, but not the increment; both were, but not joined; or what
-- they make is no checkpoint
abbrev pub IsNotAdvanced : List ℕ → List ℕ → ℕ → ℕ → Type 0
IsNotAdvanced older increment code word =
    IsNotRead older code word
    ⊎ ((kept : StoreView) × IsRead older kept
    × (IsNotReadIncrement increment code word
    ⊎ ((after : ℕ) × (read : IncrementView) × IsReadIncrement increment after read
    × (IsNotJoined kept read code word ⊎ MakesNone kept read code word))))
