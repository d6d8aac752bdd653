-- The answers of many keys at one bound.
use Rattle.std.specs.Prelude.{◌≡◌, ◌≢◌, ◌↔◌, ℕ, List, [], ◌∷◌, ◌++◌, Bool, true, false, Option, Some, None, map, drop}
use Rattle.std.specs.Prelude.{All, length, filter, not, nat_lt, ◌&&◌, ◌<◌, ◌≤◌, Contains, IsTrue, if◌then◌else◌, take}
use Rattle.std.specs.Prelude.{reverse, option_copied}
use Rattle.std.specs.{List.Sorted.IsStrictlySortedBy, Cmp.Lexicographic.slice_cmp, Str.bytes_eq}
use Rattle.std.specs.Ordering.{nat_cmp, is_lt, is_gt}
use Rattle.std.specs.declared.cmp.Ordering.TheVariants.{Less, Greater}
use Rattle.hlc_table_index.specs.Entries.{entries_in}
use Rattle.hlc_rows.specs.{declared.row.Row.Row, Rows.answer}
use Rattle.hlc_table_column.specs.{Cells.Cell, Rows.rows_of, Rows.rows_in, Rows.KeyCells, Rows.KeysAscend}
use Rattle.hlc_columns.specs.declared.answers.{Walk.Walk, WalkBack.WalkBack}

-- a key is below the end of a range, if it has one
abbrev pub is_below : Option (List ℕ) → List ℕ → Bool
is_below None key = true
is_below (Some to) key = is_lt (slice_cmp nat_cmp key to)

-- a key is in a range: not below its first key, and below its end, if it has one
abbrev pub IsBetween : List ℕ → Option (List ℕ) → List ℕ → Type 0
IsBetween from to key = (slice_cmp nat_cmp key from ≢ Less) × IsTrue (is_below to key)

-- the same as tests
abbrev pub is_from : List ℕ → List ℕ → Bool
is_from from key = not (is_lt (slice_cmp nat_cmp key from))

abbrev pub is_between : List ℕ → Option (List ℕ) → List ℕ → Bool
is_between from to key = is_from from key && is_below to key

-- the keys of a kind that have a value at a bound, each once, in byte order, with that value
pub record AreAnswers (rows : List Row) (bound : ℕ) (IsWanted : List ℕ → Type 0)
    (pairs : List (List ℕ × List ℕ)) : Type 0 where
  pub ascending : IsStrictlySortedBy (slice_cmp nat_cmp) (map (λ pair. pair.0) pairs)
  pub exact : (key value : List ℕ)
      → Contains pairs (key, value) ↔ (IsWanted key × (answer rows key bound ≡ Some value))

-- the same, the last key first
abbrev pub AreAnswersBack : List Row → ℕ → (List ℕ → Type 0) → List (List ℕ × List ℕ) → Type 0
AreAnswersBack rows bound IsWanted pairs = AreAnswers rows bound IsWanted (reverse pairs)

-- a key with what it has, if it has something
abbrev pub pair_of : {V : Type 0} → List ℕ → Option V → List (List ℕ × V)
pair_of key None = []
pair_of key (Some value) = (key, value) ∷ []

-- for some columns in turn the keys that have something, each with it
abbrev pub pairs_in : {V : Type 0} → (List ℕ × List Cell → Option V) → List (List ℕ × List Cell) → List (List ℕ × V)
pairs_in has [] = []
pairs_in has (e ∷ es) = pair_of e.0 (has e) ++ pairs_in has es

-- for some columns in turn the keys that have a value at a bound
abbrev pub answers_in : List (List ℕ × List Cell) → ℕ → List (List ℕ × List ℕ)
answers_in es bound = pairs_in (λ e. answer (rows_of e.0 e.1) e.0 bound) es

-- some entries in turn, up to the first whose key is not of a kind
abbrev pub leading : (List ℕ → Bool) → List (List ℕ × List Cell) → List (List ℕ × List Cell)
leading is_of [] = []
leading is_of (e ∷ es) = if is_of e.0 then e ∷ leading is_of es else []

-- the entries that a walk has left, up to the first whose key is not below the end
abbrev pub entries_left : Walk → List (List ℕ × List Cell)
entries_left walk =
    leading (is_below (option_copied walk.to)) (walk.rest.now ++ entries_in (drop walk.next walk.columns.now))

-- the entries that a walk from the last one has left, up to the first whose key is below that of the range
abbrev pub entries_left_back : WalkBack → List (List ℕ × List Cell)
entries_left_back walk =
    leading (is_from walk.from.now) (reverse (entries_in (take walk.before walk.columns.now) ++ walk.rest.now))

-- the first of some columns is that of a key
abbrev pub starts_at : List ℕ → List (List ℕ × List Cell) → Bool
starts_at key [] = false
starts_at key (e ∷ es) = bytes_eq e.0 key

-- among some columns, those whose keys are above a key: all from some place on, and none before it
pub record AreAbove (es : List (List ℕ × List Cell)) (key : List ℕ) (above : List (List ℕ × List Cell)) : Type 0 where
  pub front : List (List ℕ × List Cell)
  pub whole : es ≡ front ++ above
  pub not_above : All (λ e. slice_cmp nat_cmp e.0 key ≢ Greater) front
  pub all_above : All (λ e. slice_cmp nat_cmp e.0 key ≡ Greater) above

-- the last key of some columns, or else this one
abbrev pub last_key : List ℕ → List KeyCells → List ℕ
last_key key [] = key
last_key key (one ∷ columns) = last_key one.key columns

-- where a part of at most this many columns ends: at its last key, or nowhere if it has fewer columns, since no key is
-- left
abbrev pub part_end : List ℕ → ℕ → List KeyCells → Option (List ℕ)
part_end key limit columns = if nat_lt (length columns) limit then None else Some (last_key key columns)

-- a key is not above the end of a part, if it has one
abbrev pub is_upto : Option (List ℕ) → List ℕ → Bool
is_upto None key = true
is_upto (Some last) key = not (is_gt (slice_cmp nat_cmp key last))

-- a key is in a part: above a key, and not above the end of the part
abbrev pub in_part : List ℕ → Option (List ℕ) → List ℕ → Bool
in_part from to key = is_gt (slice_cmp nat_cmp key from) && is_upto to key

-- the columns of the first keys above a key, at most this many
pub record AreNext (rows : List Row) (key : List ℕ) (limit : ℕ) (columns : List KeyCells) : Type 0 where
  pub few : length columns ≤ limit
  pub ascend : KeysAscend columns
  pub filled : All (λ one. 0 < length one.cells) columns
  pub inside : All (λ one. in_part key (part_end key limit columns) one.key ≡ true) columns
  pub exact : filter (λ row. in_part key (part_end key limit columns) row.key) rows ≡ rows_in columns
