-- A store before and after it is opened, with its nodes or from bytes.
use Rattle.std.specs.Prelude.{◌≡◌, ℕ, List, [], ◌∷◌, Option, Some, None, MatchOption}
use Rattle.hlc_core.specs.{Past.Step, Past.Started, Calls.new_refusal, StoreView.StoreView, StoreView.Represents}
use Rattle.hlc_calls.specs.Saved.{IsRestored, IsNotRestored}

-- A closed store was opened with this many nodes, and nothing else took place in it; or it stays closed, because of
-- their number, or because it ran out of memory. An open one is unchanged.
abbrev pub IsOpening : Option StoreView → Option StoreView → ℕ → ℕ → Type 0
IsOpening (Some before) new count code = (code ≡ 101) × (new ≡ Some before)
IsOpening None new count code =
    MatchOption new (MatchOption (new_refusal count) (code ≡ 15) (λ fault. code ≡ 114)) (λ core. (code ≡ 0)
    × (new_refusal count ≡ None) × Represents core (Started count ∷ []))

-- A closed store was opened from bytes, with exactly the state that they contain, and their tag is returned; or it
-- stays closed, for the first reason or because it ran out of memory. An open one is unchanged.
abbrev pub IsRestoring : Option StoreView → Option StoreView → List ℕ → ℕ → ℕ → Type 0
IsRestoring (Some before) new bytes code word = (code ≡ 101) × (word ≡ 0) × (new ≡ Some before)
IsRestoring None new bytes code word = MatchOption new (IsNotRestored bytes code word)
    (λ core. (code ≡ 0) × IsRestored bytes word core)

-- of bytes that represent a past: a closed store represents it then, or stays closed where memory ran out
abbrev pub RestoresPast : Option StoreView → Option StoreView → ℕ → List Step → ℕ → ℕ → Type 0
RestoresPast (Some before) new saved past code word = code ≡ 101
RestoresPast None new saved past code word = MatchOption new (code ≡ 15)
    (λ core. (word ≡ saved) × Represents core past)
