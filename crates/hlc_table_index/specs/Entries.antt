-- Keys with their values, and the position of a key among them.
use Rattle.std.specs.Prelude.{◌≡◌, ◌≢◌, ◌-◌, ◌+◌, ◌<◌, ◌≤◌, ℕ, Bool, true, false, List, map, length, slice_index_or, []}
use Rattle.std.specs.Prelude.{slice_set, flat_map, take, drop, ◌++◌, ◌⊎◌, Option, None, Some}
use Rattle.std.specs.{Map.lookup, List.insert, Cmp.Lexicographic.slice_cmp, Ordering.nat_cmp, Ordering.is_eq}
use Rattle.std.specs.declared.cmp.Ordering.{Ordering, TheVariants.Less, TheVariants.Greater}

-- the order of two keys, byte by byte
abbrev pub key_cmp : List ℕ → List ℕ → Ordering
key_cmp a b = slice_cmp nat_cmp a b

-- the keys of some entries
abbrev pub keys_in : {V : Type 0} → List (List ℕ × V) → List (List ℕ)
keys_in entries = map (λ e. e.0) entries

-- the key before a position is below a key
abbrev pub IsBelowAt : List (List ℕ) → ℕ → List ℕ → Type 0
IsBelowAt keys n key = 0 < n → key_cmp (slice_index_or keys (n - 1) []) key ≡ Less

-- the key at a position is above a key
abbrev pub IsAboveAt : List (List ℕ) → ℕ → List ℕ → Type 0
IsAboveAt keys n key = n < length keys → key_cmp (slice_index_or keys n []) key ≡ Greater

-- a key is at a position, or belongs there
abbrev pub IsSlot : List (List ℕ) → List ℕ → ℕ → Bool → Type 0
IsSlot keys key n true = (n < length keys) × (slice_index_or keys n [] ≡ key)
IsSlot keys key n false = (n ≤ length keys) × IsBelowAt keys n key × IsAboveAt keys n key

-- the first key of some entries
abbrev pub first_key : {V : Type 0} → List (List ℕ × V) → List ℕ
first_key entries = slice_index_or (keys_in entries) 0 []

-- the first key of each list of entries
abbrev pub first_keys : {V : Type 0} → List (List (List ℕ × V)) → List (List ℕ)
first_keys leaves = map first_key leaves

-- the key before a position is not above a key
abbrev pub IsUptoAt : List (List ℕ) → ℕ → List ℕ → Type 0
IsUptoAt keys n key = 0 < n → key_cmp (slice_index_or keys (n - 1) []) key ≢ Greater

-- the entries of the leaves, one leaf after another
abbrev pub entries_in : {V : Type 0} → List (List (List ℕ × V)) → List (List ℕ × V)
entries_in leaves = flat_map (λ leaf. leaf) leaves

-- the key is equal to the other
abbrev pub is_key : List ℕ → List ℕ → Bool
is_key key other = is_eq (key_cmp key other)

-- the entries before a slot of a leaf
abbrev pub entries_before : {V : Type 0} → List (List (List ℕ × V)) → ℕ → ℕ → List (List ℕ × V)
entries_before leaves at slot = entries_in (take at leaves) ++ take slot (slice_index_or leaves at [])

-- the entries from a slot of a leaf on
abbrev pub entries_from : {V : Type 0} → List (List (List ℕ × V)) → ℕ → ℕ → List (List ℕ × V)
entries_from leaves at slot = drop slot (slice_index_or leaves at []) ++ entries_in (drop (at + 1) leaves)

-- the entries with one more in a leaf
abbrev pub entries_with : {V : Type 0} → List (List (List ℕ × V)) → ℕ → ℕ → List ℕ × V → List (List ℕ × V)
entries_with leaves at slot entry =
    entries_in (take at leaves) ++ insert (slice_index_or leaves at []) slot entry ++ entries_in (drop (at + 1) leaves)

-- the entries with another value at a slot
abbrev pub with_value : {V : Type 0} → List (List ℕ × V) → ℕ → V → List (List ℕ × V)
with_value entries slot value = slice_set entries slot (slice_index_or (keys_in entries) slot [], value)

-- the leaves with another value at a slot of one
abbrev pub with_value_in : {V : Type 0} → List (List (List ℕ × V)) → ℕ → ℕ → V → List (List (List ℕ × V))
with_value_in leaves at slot value = slice_set leaves at (with_value (slice_index_or leaves at []) slot value)

-- a key is at a slot of a leaf
abbrev pub IsEntryAt : {V : Type 0} → List (List (List ℕ × V)) → List ℕ → ℕ → ℕ → Type 0
IsEntryAt leaves key at slot =
    (at < length leaves) × (slot < length (slice_index_or leaves at []))
    × (slice_index_or (keys_in (slice_index_or leaves at [])) slot [] ≡ key)

-- no entry has a key, and it belongs at a slot of a leaf, or at the first one of an index without leaves
abbrev pub IsGap : {V : Type 0} → List (List (List ℕ × V)) → List ℕ → ℕ → ℕ → Type 0
IsGap leaves key at slot =
    ((at < length leaves) ⊎ (leaves ≡ [])) × (slot ≤ length (slice_index_or leaves at []))
    × IsSlot (keys_in (entries_in leaves)) key (length (entries_in (take at leaves)) + slot) false

-- the leaf and the slot of a key, or none if no entry has it
abbrev pub IsPlace : {V : Type 0} → List (List (List ℕ × V)) → List ℕ → Option (ℕ × ℕ) → Type 0
IsPlace leaves key None = lookup (is_key key) (entries_in leaves) ≡ None
IsPlace leaves key (Some p) = IsEntryAt leaves key p.0 p.1
