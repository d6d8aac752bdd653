-- How the answers of many keys are returned: each as a byte 0 for none, or 1 and the value after its length.
use Rattle.std.specs.Prelude.{◌≡◌, ◌≢◌, ◌⊎◌, ℕ, ◌+◌, ◌<◌, ◌≤◌, List, true, false, length, take, get_or, Option, Some}
use Rattle.std.specs.Prelude.{None, All, flat_map}
use Rattle.hlc_rows.specs.{declared.row.Row.Row, Rows.answer}
use Rattle.hlc_calls.specs.{declared.reads.Place.Place, Entries.piece, Entries.lies}
use Rattle.hlc_wire.specs.Placing.{with_bytes}
pub use Rattle.hlc_range_calls.specs.Listing.{answer_bytes}

-- the answer of the key at a place, as bytes
abbrev pub answer_at : List Row → ℕ → List ℕ → Place → List ℕ
answer_at rows stamp bytes place = answer_bytes (answer rows (piece place.at place.len bytes) stamp)

-- the answers of the keys at some places, one after another
abbrev pub answers_at : List Row → ℕ → List ℕ → List Place → List ℕ
answers_at rows stamp bytes places = flat_map (answer_at rows stamp bytes) places

-- the bytes contain the keys at some places
abbrev pub AreThere : List ℕ → List Place → Type 0
AreThere bytes places = All (λ place. lies place.at place.len bytes ≡ true) places

-- why a key was not answered: the bytes do not contain it, or its answer does not fit
abbrev pub IsLeftOut : List Row → ℕ → List ℕ → Place → ℕ → ℕ → ℕ → Type 0
IsLeftOut rows stamp bytes place len room code =
    ((code ≡ 103) × (lies place.at place.len bytes ≡ false))
    ⊎ ((code ≡ 104) × (lies place.at place.len bytes ≡ true)
    × (room < len + length (answer_at rows stamp bytes place)))

-- The first keys were answered in their order, this many of them, and the bytes contain these. These are all; or the
-- next one was left out.
pub record ReturnsAnswers (rows : List Row) (stamp : ℕ) (places : List Place) (bytes : List ℕ)
    (code len many : ℕ) (old new : List ℕ) : Type 0 where
  pub most : many ≤ length places
  pub within : AreThere bytes (take many places)
  pub len_is : len ≡ length (answers_at rows stamp bytes (take many places))
  pub fits : len ≤ length old
  pub answers : new ≡ with_bytes 0 (answers_at rows stamp bytes (take many places)) old
  pub all : code ≡ 0 → many ≡ length places
  pub next : code ≢ 0 → (place : Place) × (many < length places) × (place ≡ get_or places many place)
      × IsLeftOut rows stamp bytes place len (length old) code

-- the answers at the stamp of the snapshot are returned; or 10, where there is no such snapshot
abbrev pub ReturnsAll
    : Option ℕ → List Row → List Place → List ℕ → ℕ → ℕ → ℕ → List ℕ → List ℕ → Type 0
ReturnsAll None rows places bytes code len many old new = (code ≡ 10) × (len ≡ 0) × (many ≡ 0) × (new ≡ old)
ReturnsAll (Some stamp) rows places bytes code len many old new =
    ReturnsAnswers rows stamp places bytes code len many old new
