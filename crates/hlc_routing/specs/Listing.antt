-- The listing of some rows at a stamp, of the keys of a range.
use Rattle.std.specs.Prelude.{◌≡◌, ◌↔◌, ◌⊎◌, ℕ, ◌<◌, List, Option, Some, map, Contains}
use Rattle.std.specs.List.{Sorted.IsStrictlySortedBy, IsDistinct}
use Rattle.std.specs.{Cmp.Lexicographic.slice_cmp, Ordering.nat_cmp, Ordering.eq_by_cmp}
use Rattle.hlc_rows.specs.{declared.row.Row.Row, Rows.answer}
use Rattle.hlc_columns.specs.Answers.{IsBetween}
use Rattle.hlc_core.specs.{Past.writes, declared.listing.Pair.Pair}
use Rattle.hlc_ranges.specs.Run.{Layout, Turn, past_of}
use Rattle.hlc_events.specs.declared.fault.CoreFault.TheVariants.{NoSnapshot, NoMemory}
use Rattle.hlc_routing.specs.All.{SnapshotView, IsOpenAll}
use Rattle.hlc_routing.specs.declared.fault.RangesFault.{RangesFault, TheVariants.Store}

-- the keys of a range that have a value at a stamp, each once, in byte order, with that value
pub record IsListingBetween (rows : List Row) (stamp : ℕ) (from : List ℕ) (to : Option (List ℕ))
    (listing : List Pair) : Type 0 where
  pub ascending : IsStrictlySortedBy (slice_cmp nat_cmp) (map (λ pair. pair.key) listing)
  pub exact : (key value : List ℕ)
      → Contains listing (record { key = key; value = value })
      ↔ (IsBetween from to key × (answer rows key stamp ≡ Some value))

-- why the keys of a snapshot are not listed: it is not open in each store at its stamp; or it is, and memory ran out
abbrev pub IsRefusedListing : Layout → SnapshotView → List Turn → RangesFault → Type 0
IsRefusedListing layout snapshot run fault =
    ((IsOpenAll layout snapshot run → ⊥) × (fault ≡ Store NoSnapshot))
    ⊎ (IsOpenAll layout snapshot run × (fault ≡ Store NoMemory))

-- a pair as a key and its value
abbrev pub of_pair : Pair → List ℕ × List ℕ
of_pair pair = (pair.key, pair.value)

-- no two pairs have one key
abbrev pub HaveKeysApart : List Pair → Type 0
HaveKeysApart pairs = IsDistinct (eq_by_cmp (slice_cmp nat_cmp)) (map (λ pair. pair.key) pairs)

-- of the keys of the first stores, those of a range that have a value at a stamp, each once, with that value
pub record ArePairsOf (layout : Layout) (run : List Turn) (stamp : ℕ) (from : List ℕ) (to : Option (List ℕ))
    (n : ℕ) (pairs : List Pair) : Type 0 where
  pub apart : HaveKeysApart pairs
  pub exact : (key value : List ℕ)
      → Contains pairs (record { key = key; value = value })
      ↔ (IsBetween from to key × (layout.store_of key < n)
      × (answer (writes (past_of layout (layout.store_of key) run)) key stamp ≡ Some value))
