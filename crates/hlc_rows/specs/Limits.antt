-- What a write may be.
use Rattle.std.specs.Prelude.{ℕ, ◌≤◌, ⊤, List, length, ◌==◌, ◌||◌, nat_lt, Option, Some, None, if◌then◌else◌}
use Rattle.hlc_rows.specs.declared.limits.BodyFault.{BodyFault, TheVariants.BadKey, TheVariants.ValueTooLong}
use Rattle.hlc_rows.specs.declared.limits.TheConstants.{MAX_KEY_BYTES, MAX_VALUE_BYTES}

-- why a value is refused: it has more than 65,535 bytes
abbrev pub value_refusal : Option (List ℕ) → Option BodyFault
value_refusal None = None
value_refusal (Some value) = if nat_lt MAX_VALUE_BYTES (length value) then Some ValueTooLong else None

-- the first reason to refuse a write: a key without bytes or with more than 255; a value that is too long
abbrev pub write_refusal : List ℕ → Option (List ℕ) → Option BodyFault
write_refusal key value =
    if length key == 0 || nat_lt MAX_KEY_BYTES (length key) then Some BadKey else value_refusal value

-- there is no value, or one of at most 30 bytes
abbrev pub IsShortValue : Option (List ℕ) → Type 0
IsShortValue None = ⊤
IsShortValue (Some value) = length value ≤ 30
