-- The position of a key and a stamp among ascending rows, for the search of the newest row.
use Rattle.std.specs.{Prelude.ℕ, Prelude.List, Prelude.Bool, Cmp.Lexicographic.slice_cmp}
use Rattle.std.specs.Ordering.{nat_cmp, ordering_then, is_le}
use Rattle.hlc_rows.specs.declared.row.Row.{Row}

-- the row does not come after the key and the stamp
abbrev pub is_reached : List ℕ → ℕ → Row → Bool
is_reached key bound row = is_le (ordering_then (slice_cmp nat_cmp row.key key) (nat_cmp row.stamp bound))
