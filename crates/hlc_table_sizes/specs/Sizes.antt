-- Sizes as numbers.
use Rattle.std.specs.Prelude.{◌+◌, ◌-◌, ◌<◌, ◌≤◌, ◌^◌, ℕ, List, Option, Some, None, length}
use Rattle.hlc_table_sizes.specs.declared.sizes.Sizes.{Sizes}

-- the bytes of a value; a deletion mark has none
abbrev pub value_bytes : Option (List ℕ) → ℕ
value_bytes None = 0
value_bytes (Some value) = length value

-- the sizes of no rows
abbrev pub no_sizes : Sizes
no_sizes = record { rows = 0; keys = 0; key_bytes = 0; value_bytes = 0 }

-- the sums of two sizes
abbrev pub plus : Sizes → Sizes → Sizes
plus a b = record {
  rows = a.rows + b.rows;
  keys = a.keys + b.keys;
  key_bytes = a.key_bytes + b.key_bytes;
  value_bytes = a.value_bytes + b.value_bytes;
}

-- the differences of two sizes
abbrev pub minus : Sizes → Sizes → Sizes
minus a b = record {
  rows = a.rows - b.rows;
  keys = a.keys - b.keys;
  key_bytes = a.key_bytes - b.key_bytes;
  value_bytes = a.value_bytes - b.value_bytes;
}

-- no number of one is above that of the other
pub record IsPart (a b : Sizes) : Type 0 where
  pub rows : a.rows ≤ b.rows
  pub keys : a.keys ≤ b.keys
  pub key_bytes : a.key_bytes ≤ b.key_bytes
  pub value_bytes : a.value_bytes ≤ b.value_bytes

-- sizes with one more row, whose value has this many bytes
abbrev pub with_row : Sizes → ℕ → Sizes
with_row sizes bytes = record sizes { rows = sizes.rows + 1; value_bytes = sizes.value_bytes + bytes }

-- sizes with one more key of this many bytes
abbrev pub with_key : Sizes → ℕ → Sizes
with_key sizes bytes = record sizes { keys = sizes.keys + 1; key_bytes = sizes.key_bytes + bytes }

-- sizes that fit their numbers
pub record Fit (sizes : Sizes) : Type 0 where
  pub rows : sizes.rows < 2 ^ 128
  pub keys : sizes.keys < 2 ^ 128
  pub key_bytes : sizes.key_bytes < 2 ^ 128
  pub value_bytes : sizes.value_bytes < 2 ^ 128
