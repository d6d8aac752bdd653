-- How a listing is returned: for each pair the key and then the value, each preceded by the number of its bytes.
use Rattle.std.specs.Prelude.{◌≡◌, ℕ, ◌+◌, ◌<◌, ◌≤◌, List, [], ◌∷◌, ◌++◌, length, drop, min, Option, Some, None}
use Rattle.std.specs.{Int.to_le_bytes, Int.w64, List.flat_map}
use Rattle.hlc_rows.specs.declared.row.Row.{Row}
use Rattle.hlc_columns.specs.Answers.{AreAnswers}

-- a number in 64 bits: the greatest number of 64 bits in place of a greater one
abbrev pub narrowed : ℕ → ℕ
narrowed number = min number 18446744073709551615

-- the value is at the start of the buffer; or, where it does not fit, the buffer is unchanged
abbrev pub IsCopied : List ℕ → List ℕ → List ℕ → Type 0
IsCopied value old new =
    (length value ≤ length old → new ≡ value ++ drop (length value) old) × (length old < length value → new ≡ old)

-- bytes preceded by their number, which has eight bytes, the low one first
abbrev pub sized : List ℕ → List ℕ
sized bytes = to_le_bytes w64 (length bytes) ++ bytes

-- a key, and its value
abbrev pub pair_bytes : List ℕ × List ℕ → List ℕ
pair_bytes pair = sized pair.0 ++ sized pair.1

-- an answer: a byte 0 for none, or 1 and the value after its length
abbrev pub answer_bytes : Option (List ℕ) → List ℕ
answer_bytes None = 0 ∷ []
answer_bytes (Some value) = 1 ∷ sized value

-- the bytes of all pairs in their order
abbrev pub listing_bytes : List (List ℕ × List ℕ) → List ℕ
listing_bytes pairs = flat_map pair_bytes pairs

-- the pairs are returned: how many bytes they take, and the bytes, if they fit
abbrev pub ReturnsPairs : List (List ℕ × List ℕ) → ℕ → List ℕ → List ℕ → Type 0
ReturnsPairs pairs len old new =
    (len ≡ narrowed (length (listing_bytes pairs))) × IsCopied (listing_bytes pairs) old new

-- the keys with a value at the stamp of the snapshot are returned with it; or 10, where there is no such snapshot
abbrev pub ReturnsListing : Option ℕ → List Row → ℕ → ℕ → List ℕ → List ℕ → Type 0
ReturnsListing None rows code len old new = (code ≡ 10) × (len ≡ 0) × (new ≡ old)
ReturnsListing (Some stamp) rows code len old new =
    (code ≡ 0) × ((pairs : List (List ℕ × List ℕ)) × AreAnswers rows stamp (λ key. Unit {0}) pairs
    × ReturnsPairs pairs len old new)
