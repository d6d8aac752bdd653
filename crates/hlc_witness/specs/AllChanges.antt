-- The changes as a function, for definitions that compute with them: key by key, and for each key point by point.
use Rattle.std.specs.Prelude.{ℕ, List, [], ◌∷◌, ◌++◌, Option, Some, None, Bool, true, false, bytes_eq, if◌then◌else◌}
use Rattle.std.specs.Prelude.{flat_map}
use Rattle.std.specs.{Ordering.nat_cmp, Cmp.Lexicographic.slice_cmp}
use Rattle.std.specs.declared.cmp.Ordering.{Ordering, TheVariants.Less, TheVariants.Equal, TheVariants.Greater}
use Rattle.hlc_rows.specs.{declared.row.Row.Row, Rows.answer}
use Rattle.hlc_witness.specs.{declared.witness.Witness.Witness, Changes.answer_at}

-- two answers are the same
abbrev pub is_same_answer : Option (List ℕ) → Option (List ℕ) → Bool
is_same_answer None None = true
is_same_answer None (Some y) = false
is_same_answer (Some x) None = false
is_same_answer (Some x) (Some y) = bytes_eq x y

-- the change of a key at a point after another, if there is one
abbrev pub change_at : List Row → List ℕ → Option ℕ → ℕ → List Witness
change_at rows key before at =
    if is_same_answer (answer rows key at) (answer_at rows key before) then []
    else record { key = key; before = before; at = at } ∷ []

-- the changes of a key at these points, where `before` is the point before the first
unfoldable pub key_changes : List Row → List ℕ → Option ℕ → List ℕ → List Witness
key_changes rows key before [] = []
key_changes rows key before (point ∷ points) =
    change_at rows key before point ++ key_changes rows key (Some point) points

-- the keys from the first on after a key is inserted that comes before, at or after the first
abbrev pub placed : Ordering → List ℕ → List ℕ → List (List ℕ) → List (List ℕ) → List (List ℕ)
placed Less key first keys rest = key ∷ first ∷ keys
placed Equal key first keys rest = first ∷ keys
placed Greater key first keys rest = first ∷ rest

-- a key is inserted at its position in byte order, once
unfoldable pub with_key : List ℕ → List (List ℕ) → List (List ℕ)
with_key key [] = key ∷ []
with_key key (first ∷ keys) = placed (slice_cmp nat_cmp key first) key first keys (with_key key keys)

-- the keys that have rows, each once, in byte order
unfoldable pub keys_of : List Row → List (List ℕ)
keys_of [] = []
keys_of (row ∷ rows) = with_key row.key (keys_of rows)

-- the changes of these keys
abbrev pub changes_of : List Row → List ℕ → List (List ℕ) → List Witness
changes_of rows points keys = flat_map (λ key. key_changes rows key None points) keys

-- all changes of the rows at the points
unfoldable pub all_changes : List Row → List ℕ → List Witness
all_changes rows points = changes_of rows points (keys_of rows)
