-- The listing of some rows at a stamp.
use Rattle.std.specs.Prelude.{◌≡◌, ◌↔◌, ℕ, List, Some, map, Contains}
use Rattle.std.specs.{List.Sorted.IsStrictlySortedBy, Cmp.Lexicographic.slice_cmp, Ordering.nat_cmp}
use Rattle.hlc_rows.specs.{declared.row.Row.Row, Rows.answer}
use Rattle.hlc_core.specs.declared.listing.Pair.{Pair}

-- the listing at a stamp: the keys that have a value there, each once, in byte order, with that value
pub record IsListing (rows : List Row) (stamp : ℕ) (listing : List Pair) : Type 0 where
  pub ascending : IsStrictlySortedBy (slice_cmp nat_cmp) (map (λ pair. pair.key) listing)
  pub exact : (key value : List ℕ)
      → Contains listing (record { key = key; value = value }) ↔ (answer rows key stamp ≡ Some value)
