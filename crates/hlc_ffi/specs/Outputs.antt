-- An output before and after a call.
use Rattle.std.specs.Prelude.{◌≡◌, ℕ, List, length, Option, Some, None, MatchOption}
use Rattle.hlc_handle_calls.specs.Outputs.{Bytes}

-- An output without bytes gets those that were made, and how many they are is returned; or none were made, and it stays
-- without. One that has bytes keeps them, and nothing took place.
abbrev pub OnOutput : Option Bytes → Option Bytes → ℕ → ℕ → Type 0 → (List ℕ → Type 0) → Type 0 → Type 0
OnOutput (Some before) new code len Nothing Made NotMade = (code ≡ 108) × (len ≡ 0) × (new ≡ Some before) × Nothing
OnOutput None new code len Nothing Made NotMade =
    MatchOption new ((len ≡ 0) × NotMade) (λ made. (code ≡ 0) × (len ≡ length made.items) × Made made.items)
