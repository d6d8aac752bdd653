-- How the differences between two snapshots are returned: as many whole ones as the buffer has room for.
use Rattle.std.specs.Prelude.{◌≡◌, ℕ, List, ◌++◌, Option, Some, None}
use Rattle.hlc_rows.specs.declared.row.Row.{Row}
use Rattle.hlc_columns.specs.Answers.{IsBetween}
use Rattle.hlc_core.specs.Differences.{Difference, AreDifferences}
use Rattle.hlc_range_calls.specs.{Listing.sized, Listing.answer_bytes, Scan.end_of, Scan.ListsWhatFits}

-- a key preceded by its length, and its answer at the second stamp
abbrev pub change_bytes : Difference → List ℕ
change_bytes one = sized one.0 ++ answer_bytes one.1

-- the keys of a range whose answers at the stamps of two snapshots differ are returned, with the answers at the second,
-- as many as fit; or 10, where one of the snapshots is not there
abbrev pub ReturnsChanges
    : Option ℕ → Option ℕ → List Row → List ℕ → List ℕ → ℕ → ℕ → ℕ → List ℕ → List ℕ → Type 0
ReturnsChanges None after rows from to code len many old new =
    (code ≡ 10) × (len ≡ 0) × (many ≡ 0) × (new ≡ old)
ReturnsChanges (Some first) None rows from to code len many old new =
    (code ≡ 10) × (len ≡ 0) × (many ≡ 0) × (new ≡ old)
ReturnsChanges (Some first) (Some second) rows from to code len many old new =
    (differences : List Difference) × AreDifferences rows first second (IsBetween from (end_of to)) differences
    × ListsWhatFits change_bytes differences code len many old new
