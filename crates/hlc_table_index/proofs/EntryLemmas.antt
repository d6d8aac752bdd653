-- For callers: the entry of a key at a slot of a leaf.
use Rattle.std.proofs.Common.{◌≡◌, ℕ, List, [], Some, get_or, refl, slice_get}
use Rattle.std.specs.{Map.lookup, Map.set_value, List.Sorted.IsStrictlySortedBy}
use Rattle.hlc_table_index.specs.Entries.{keys_in, key_cmp, is_key, entries_in, with_value_in, IsEntryAt}
use Rattle.hlc_table_index.proofs.Values.{valued_is, there_is}

module _ {V : Type 0} (leaves : List (List (List ℕ × V))) where
  module _ (key : List ℕ) (at slot : ℕ) (there : IsEntryAt leaves key at slot)
      (ascend : IsStrictlySortedBy key_cmp (keys_in (entries_in leaves))) where
    -- a look-up of the key finds its value
    pub entry_found : (v : V) → slice_get (get_or leaves at []) slot
        ≡ Some (get_or (keys_in (get_or leaves at [])) slot [], v) → lookup (is_key key) (entries_in leaves) ≡ Some v
    entry_found v read =
        there_is leaves at slot there.0 there.1 (entries_in leaves) key v ascend there.2 refl read

    -- another value there is another value of the key
    pub entry_written : (v : V)
        → entries_in (with_value_in leaves at slot v) ≡ set_value (is_key key) (entries_in leaves) v
    entry_written v = valued_is leaves at slot there.0 there.1 (entries_in leaves) key v ascend there.2 refl
