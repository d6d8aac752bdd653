-- How a part of a listing is returned: as many whole pairs as the buffer has room for.
use Rattle.std.specs.Prelude.{◌≡◌, ℕ, ◌+◌, ◌<◌, ◌≤◌, List, [], ◌∷◌, ◌++◌, length, Option, Some, None, Bool, true, false}
use Rattle.std.specs.List.{flat_map}
use Rattle.hlc_rows.specs.declared.row.Row.{Row}
use Rattle.hlc_columns.specs.Answers.{AreAnswers, AreAnswersBack, IsBetween}
use Rattle.hlc_wire.specs.Placing.{with_bytes}
use Rattle.hlc_range_calls.specs.Listing.{narrowed, sized, pair_bytes}

-- the end of a range: no bytes represent none
abbrev pub end_of : List ℕ → Option (List ℕ)
end_of [] = None
end_of (byte ∷ bytes) = Some (byte ∷ bytes)

-- what is written of a pair: its key alone, or all of it
abbrev pub part_bytes : Bool → List ℕ × List ℕ → List ℕ
part_bytes true pair = sized pair.0
part_bytes false pair = pair_bytes pair

-- the bytes that are written of all items, in their order
abbrev pub parts_bytes : {X : Type 0} → (X → List ℕ) → List X → List ℕ
parts_bytes part items = flat_map part items

-- after this many bytes: no item is left, and the answer is 0; or the next one does not fit, and it is 104
abbrev pub IsEnd : {X : Type 0} → (X → List ℕ) → List X → ℕ → ℕ → ℕ → Type 0
IsEnd part [] len room code = code ≡ 0
IsEnd part (item ∷ items) len room code = (code ≡ 104) × (room < len + length (part item))

-- the bytes of the first items are returned, of as many as fit
pub record ListsWhatFits {X : Type 0}
    (part : X → List ℕ) (items : List X) (code len many : ℕ) (old new : List ℕ) : Type 0 where
  pub first : List X
  pub rest : List X
  pub items_are : items ≡ first ++ rest
  pub many_is : many ≡ length first
  pub len_is : len ≡ length (parts_bytes part first)
  pub fits : len ≤ length old
  pub bytes : new ≡ with_bytes 0 (parts_bytes part first) old
  pub end : IsEnd part rest len (length old) code

-- the keys of a range that have a value at the stamp of the snapshot are returned, alone or with it, as many as fit; or
-- 10, where there is no such snapshot
abbrev pub ReturnsScan
    : Bool → Option ℕ → List Row → List ℕ → List ℕ → ℕ → ℕ → ℕ → List ℕ → List ℕ → Type 0
ReturnsScan alone None rows from to code len many old new = (code ≡ 10) × (len ≡ 0) × (many ≡ 0) × (new ≡ old)
ReturnsScan alone (Some stamp) rows from to code len many old new =
    (pairs : List (List ℕ × List ℕ)) × AreAnswers rows stamp (IsBetween from (end_of to)) pairs
    × ListsWhatFits (part_bytes alone) pairs code len many old new

-- the same with the values, the last key first: as many as fit, from the last one on
abbrev pub ReturnsScanBack
    : Option ℕ → List Row → List ℕ → List ℕ → ℕ → ℕ → ℕ → List ℕ → List ℕ → Type 0
ReturnsScanBack None rows from to code len many old new = (code ≡ 10) × (len ≡ 0) × (many ≡ 0) × (new ≡ old)
ReturnsScanBack (Some stamp) rows from to code len many old new =
    (pairs : List (List ℕ × List ℕ)) × AreAnswersBack rows stamp (IsBetween from (end_of to)) pairs
    × ListsWhatFits pair_bytes pairs code len many old new

-- the number of keys of a range that have a value at the stamp of the snapshot is returned; or 10, where there is no
-- such snapshot
abbrev pub ReturnsCount : Option ℕ → List Row → List ℕ → List ℕ → ℕ → ℕ → Type 0
ReturnsCount None rows from to code many = (code ≡ 10) × (many ≡ 0)
ReturnsCount (Some stamp) rows from to code many =
    (code ≡ 0) × ((pairs : List (List ℕ × List ℕ)) × AreAnswers rows stamp (IsBetween from (end_of to)) pairs
    × (many ≡ narrowed (length pairs)))
