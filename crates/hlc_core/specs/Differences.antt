-- The differences between two open snapshots, and a listing with changes made to it.
use Rattle.std.specs.Prelude.{◌≡◌, ◌⊎◌, ℕ, List, [], ◌∷◌, ◌++◌, Option, Some, None}
use Rattle.std.specs.{Cmp.Lexicographic.slice_cmp, Ordering.nat_cmp, Ordering.match_ordering}
pub use Rattle.hlc_columns.specs.Differences.{Difference, AreDifferences}
use Rattle.hlc_core.specs.declared.listing.Pair.{Pair}
use Rattle.hlc_core.specs.Past.{Step, stamp_of, writes}

-- for the keys of a kind the differences between the answers of all accepted writes at the stamps of two open
-- snapshots; or one of the two is not open, and there are none
abbrev pub Compares : ℕ → ℕ → List Step → (List ℕ → Type 0) → Option (List Difference) → Type 0
Compares from to past IsWanted None = (stamp_of from past ≡ None) ⊎ (stamp_of to past ≡ None)
Compares from to past IsWanted (Some differences) =
    (first second : ℕ) × (stamp_of from past ≡ Some first) × (stamp_of to past ≡ Some second)
    × AreDifferences (writes past) first second IsWanted differences

-- a key with its value, if it has one
abbrev pub pair_with : List ℕ → Option (List ℕ) → List Pair
pair_with key None = []
pair_with key (Some value) = record { key = key; value = value } ∷ []

-- a listing after one change: the key has this value in place of the one before, or none
abbrev pub changed : Difference → List Pair → List Pair
changed one [] = pair_with one.0 one.1
changed one (pair ∷ listing) =
    match_ordering (slice_cmp nat_cmp one.0 pair.key) (pair_with one.0 one.1 ++ pair ∷ listing)
    (pair_with one.0 one.1 ++ listing) (pair ∷ changed one listing)

-- a listing after some changes, one after another
abbrev pub patched : List Difference → List Pair → List Pair
patched [] listing = listing
patched (one ∷ more) listing = patched more (changed one listing)
