-- What C gets from a call.
use Rattle.std.specs.Prelude.{◌≡◌, ◌⊎◌, ℕ, Option, Some, None}
use Rattle.hlc_events.specs.declared.fault.CoreFault.{CoreFault, TheVariants.Join}
use Rattle.hlc_events.specs.Faults.{core_code, core_word}
use Rattle.hlc_heads.specs.declared.heads.JoinFault.TheVariants.{BelowFloor}

-- The number of a refusal in C. A start below the floor has its own there, and in scripts that of a stamp below the
-- horizon.
abbrev pub answer_code : CoreFault → ℕ
answer_code (Join (BelowFloor floor)) = 116
answer_code fault = core_code fault

-- Where a refusal is expected, C gets its number and its word. Where none is, the call was made; or, if it may need
-- memory, it was refused because it ran out of memory.
abbrev pub IsAnswered : Option CoreFault → Type 0 → Type 0 → ℕ → ℕ → Type 0
IsAnswered (Some fault) MayGrow Made code returned = (code ≡ answer_code fault) × (returned ≡ core_word fault)
IsAnswered None MayGrow Made code returned = ((code ≡ 0) × Made) ⊎ ((code ≡ 15) × (returned ≡ 0) × MayGrow)
