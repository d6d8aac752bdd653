-- A restore in pieces, before and after a call.
use Rattle.std.specs.Prelude.{◌≡◌, ◌⊎◌, ℕ, List, [], ◌++◌, Option, Some, None, MatchOption}
use Rattle.hlc_core.specs.StoreView.{StoreView}
use Rattle.hlc_saved.specs.{declared.reader.CheckpointReader.CheckpointReader, Blocks.HasRead}
use Rattle.hlc_handle_calls.specs.Opening.{IsRestoring}

-- it has read nothing; or did not start, out of memory; one that was under way goes on
abbrev pub HasStarted : Option CheckpointReader → Option CheckpointReader → ℕ → Type 0
HasStarted (Some before) new code = (code ≡ 119) × (new ≡ Some before)
HasStarted None new code = MatchOption new (code ≡ 15) (λ reader. (code ≡ 0) × HasRead reader [])

-- whatever it had read, it has read these bytes too; or out of memory, and nothing more
abbrev pub HasFed : Option CheckpointReader → Option CheckpointReader → List ℕ → ℕ → Type 0
HasFed None new bytes code = (code ≡ 118) × (new ≡ None)
HasFed (Some before) new bytes code = MatchOption new ⊥ (λ after. (fed : List ℕ) → HasRead before fed
    → ((code ≡ 0) × HasRead after (fed ++ bytes)) ⊎ ((code ≡ 15) × HasRead after fed))

-- a restore is under way, and these are the bytes that it has read
abbrev pub HasReadAll : Option CheckpointReader → List ℕ → Type 0
HasReadAll None fed = ⊥
HasReadAll (Some reader) fed = HasRead reader fed

-- a closed store is restored from all bytes that were read, and the restore has ended; an open one is unchanged, and
-- the restore goes on
abbrev pub HasFinished : Option CheckpointReader → Option CheckpointReader → Option StoreView → Option StoreView → ℕ
    → ℕ → Type 0
HasFinished None after old new code word = (after ≡ None) × (code ≡ 118) × (word ≡ 0) × (new ≡ old)
HasFinished (Some reader) after (Some before) new code word =
    (after ≡ Some reader) × (code ≡ 101) × (word ≡ 0) × (new ≡ Some before)
HasFinished (Some reader) after None new code word =
    (after ≡ None) × ((fed : List ℕ) → HasRead reader fed → IsRestoring None new fed code word)
