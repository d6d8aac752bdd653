-- The bytes so far are digits, and the value is theirs.
use Rattle.std.proofs.Common.{◌≡◌, ◌<◌, ℕ, get_or, take}
use Rattle.std.specs.{Str.Parse.digits_value, Int.IsInRange}
use Rattle.hlc_text.proofs.number.long_value_of.Given as goal

abbrev pub invariant-loop-at : goal.invariant-loop-at
invariant-loop-at l =
    ((k : ℕ) → k < l.at → IsInRange 48 57 (get_or l.digits k 0)) × (l.value ≡ digits_value 10 (take l.at l.digits))
