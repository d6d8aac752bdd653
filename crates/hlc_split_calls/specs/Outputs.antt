-- Two outputs before and after a call.
use Rattle.std.specs.Prelude.{◌≡◌, ℕ, List, length, Option, Some, None}
use Rattle.hlc_handle.specs.Rows.{bytes_row}

-- bytes that an output has
abbrev pub Bytes : Type 0
Bytes = bytes_row.Denot

-- Two outputs without bytes get those that were made, and how many they are is returned; or none were made, and both
-- stay without. Where one has bytes, both keep what they have, and nothing took place.
abbrev pub OnOutputs
    : Option Bytes → Option Bytes → Option Bytes → Option Bytes → ℕ → ℕ → ℕ → ℕ → (List ℕ → List ℕ → Type 0)
    → Type 0 → Type 0
OnOutputs None None None None code len len' word Made NotMade = (len ≡ 0) × (len' ≡ 0) × NotMade
OnOutputs None (Some left) None (Some right) code len len' word Made NotMade =
    (code ≡ 0) × (len ≡ length left.items) × (len' ≡ length right.items) × (word ≡ 0) × Made left.items right.items
OnOutputs None (Some left) None None code len len' word Made NotMade = ⊥
OnOutputs None None None (Some right) code len len' word Made NotMade = ⊥
OnOutputs (Some before) left right right' code len len' word Made NotMade =
    (code ≡ 108) × (len ≡ 0) × (len' ≡ 0) × (word ≡ 0) × (left ≡ Some before) × (right' ≡ right)
OnOutputs None left (Some before) right code len len' word Made NotMade =
    (code ≡ 108) × (len ≡ 0) × (len' ≡ 0) × (word ≡ 0) × (left ≡ None) × (right ≡ Some before)
