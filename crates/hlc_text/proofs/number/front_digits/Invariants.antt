-- The bytes so far are digits and the value is theirs, so it has at most as many digits.
use Rattle.std.proofs.Common.{◌≡◌, ◌<◌, ◌≤◌, ◌-◌, ℕ, get_or, take, length}
use Rattle.std.specs.{Str.Parse.digits_value, Int.IsInRange}
use Rattle.hlc_text.proofs.number.front_digits.Given as goal

abbrev pub invariant-loop-at : goal.invariant-loop-at
invariant-loop-at l = record {
  within : l.at ≤ length l.text;
  few : l.at ≤ 19;
  digits : (k : ℕ) → k < l.at → IsInRange 48 57 (get_or l.text k 0);
  value : l.value ≡ digits_value 10 (take l.at l.text);
}

abbrev pub decreases-loop-at : goal.decreases-loop-at
decreases-loop-at l = 19 - l.at
