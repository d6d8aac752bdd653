-- An index: the positions of the first rows, in the order of their stamps and nodes.
use Rattle.std.specs.Prelude.{◌≡◌, ◌++◌, ◌≤◌, ◌<◌, ℕ, List, All, Contains, length, slice_index}
use Rattle.std.specs.{Ordering.nat_cmp, Ordering.ordering_then, declared.cmp.Ordering.Ordering}
use Rattle.hlc_table_order.specs.Newest.{NotAbove}

-- no row in the list of positions is above a later one
abbrev pub Rises : List ℕ → List ℕ → List ℕ → Type 0
Rises stamps nodes order =
    (i j : ℕ) → i ≤ j → j < length order
    → NotAbove stamps nodes (slice_index order i) (slice_index order j)

-- the positions below the length of the list, each once, in ascending order of the rows
abbrev pub IsIndex : List ℕ → List ℕ → List ℕ → Type 0
IsIndex stamps nodes order =
    (length order ≤ length stamps) × All (λ p. p < length order) order
    × ((p : ℕ) → p < length order → Contains order p) × Rises stamps nodes order

-- the first `count` rows of an index are at or below a bound
abbrev pub AreFirstWithin : List ℕ → List ℕ → ℕ → ℕ → Type 0
AreFirstWithin stamps order bound count =
    (i : ℕ) → i < count → slice_index stamps (slice_index order i) ≤ bound

-- by stamp, then by node, and then the later position first
abbrev pub place_cmp : List ℕ → List ℕ → ℕ → ℕ → Ordering
place_cmp stamps nodes p q =
    ordering_then
    (ordering_then
    (nat_cmp (slice_index stamps p) (slice_index stamps q))
    (nat_cmp (slice_index nodes p) (slice_index nodes q)))
    (nat_cmp q p)

-- new is old, followed by the positions from its length on up to a count
abbrev pub IsNumbered : List ℕ → List ℕ → ℕ → Type 0
IsNumbered old new count =
    ((rest : List ℕ) × (new ≡ old ++ rest)) × (length new ≡ count)
    × ((p : ℕ) → length old ≤ p → p < count → slice_index new p ≡ p)
