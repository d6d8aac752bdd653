-- The versions of a key are the rows of its column that a table has, in the order of their stamps and nodes.
use Rattle.std.proofs.Common.{◌≡◌, ◌<◌, ◌+◌, ◌&&◌, ◌∷◌, ◌∙◌, ℕ, zero, suc, List, [], Bool, true, false, lt-ltb, le-leb}
use Rattle.std.proofs.Common.{ltb-true, leb-true, ltb, leb, length, refl, sym, ap, ap₂, subst, inl, inr, arith}
use Rattle.std.proofs.Common.{Contains, slice_get, Option, Some, None, ◌⊎◌}
use Rattle.std.{specs.Str.bytes_eq, proofs.lemmas.Bool.and_parts, proofs.lemmas.Slice.Eq.bytes_eq-Decides}
use Rattle.std.proofs.lemmas.Option.{same_Some, slice_get_within, slice_get-get_or, get_or_from_slice_get}
use Rattle.hlc_values.proofs.MemberLemmas.{Contains-none, Contains-first, Contains-rest, Contains-cons_cases}
use Rattle.hlc_values.proofs.MemberLemmas.{Contains-filter, Contains-from_filter, Contains-map}
use Rattle.hlc_rows.specs.{declared.row.Row.Row, Rows.IsRowSet}
use Rattle.hlc_table_column.specs.{Cells.Cell, Rows.row_of, Rows.rows_of, Rows.rows_with}
use Rattle.hlc_table_column.specs.Versions.{AreVersions, AreApart, IsNoNewer, IsNewestLeft, is_left, is_before}
use Rattle.hlc_table_column.specs.Versions.{versions_left}
use Rattle.hlc_table_column.proofs.FlagLemmas.{filter-IsRowSet}
use Rattle.hlc_table_column.proofs.Newer.{left_from, left_in, left_pairs, none_left, next_left, no_newer_trans}
use Rattle.hlc_table_column.proofs.Newer.{older_no_newer, other_no_newer}

-- ---- places
place_of : {X : Type 0} (xs : List X) (x : X) → Contains xs x → (i : ℕ) × (i < length xs) × (slice_get xs i ≡ Some x)
place_of xs x m = (m.0, m.1, slice_get-get_or xs m.0 x m.1 ∙ ap (λ z. Some z) m.2)

pub at_place : {X : Type 0} (xs : List X) (i : ℕ) → i < length xs → (x : X) × (slice_get xs i ≡ Some x)
at_place [] i lt = absurd (omega (arith, lt))
at_place (x ∷ xs) zero lt = (x, refl)
at_place (x ∷ xs) (suc i) lt = at_place xs i (omega (arith, lt))

member_at : {X : Type 0} (xs : List X) (i : ℕ) (x : X) → slice_get xs i ≡ Some x → Contains xs x
member_at xs i x is = (i, slice_get_within xs i x is, get_or_from_slice_get xs i x x is)

below_or_at : (n i : ℕ) → i < n + 1 → (i < n) ⊎ (i ≡ n)
below_or_at n i lt = grind arith

module _ (from to : ℕ) (last : Option (ℕ × ℕ)) (cells : List Cell) (place : ℕ) (here : Cell)
    (at : slice_get cells place ≡ Some here) where
  abbrev left : Cell → Bool
  left cell = is_left from to last cell

  same_here : (i : ℕ) (cell : Cell) → slice_get cells i ≡ Some cell → i ≡ place → cell ≡ here
  same_here i cell is same = same_Some cell here (sym is ∙ ap (slice_get cells) same ∙ at)

  no_newer_itself : (cell : Cell) → cell ≡ here → IsNoNewer cell here
  no_newer_itself cell same =
      inr (
        ap (λ (x : Cell). x.stamp) same,
        let e : cell.node ≡ here.node = ap (λ (x : Cell). x.node) same in
            omega (arith, e),
      )

  -- the first that is left
  pub one_found : left here ≡ true → IsNewestLeft from to last cells place None
      → IsNewestLeft from to last cells (place + 1) (Some place)
  one_found wanted none = (
    here,
    at,
    wanted,
    λ i cell lt is one. elim (below_or_at place i lt) [
      | inl below ↦ absurd (none i cell below is one)
      | inr same ↦ no_newer_itself cell (same_here i cell is same)
    ],
  )

  -- a newer one
  pub one_newer : (best : ℕ) → left here ≡ true → ((cell : Cell) → slice_get cells best ≡ Some cell
      → is_before cell.stamp cell.node here.stamp here.node ≡ true)
      → IsNewestLeft from to last cells place (Some best) → IsNewestLeft from to last cells (place + 1) (Some place)
  one_newer best wanted older (newest, found, is_one, top) = (
    here,
    at,
    wanted,
    λ i cell lt is one. elim (below_or_at place i lt) [
      | inl below ↦ no_newer_trans cell newest here (top i cell below is one)
          (older_no_newer newest here (older newest found))
      | inr same ↦ no_newer_itself cell (same_here i cell is same)
    ],
  )

  -- one that is no newer
  pub one_older : (best : ℕ) → ((cell : Cell) → slice_get cells best ≡ Some cell
      → is_before cell.stamp cell.node here.stamp here.node ≡ false)
      → IsNewestLeft from to last cells place (Some best) → IsNewestLeft from to last cells (place + 1) (Some best)
  one_older best newer (newest, found, is_one, top) = (
    newest,
    found,
    is_one,
    λ i cell lt is one. elim (below_or_at place i lt) [
      | inl below ↦ top i cell below is one
      | inr same ↦ subst (λ x. IsNoNewer x newest) (sym (same_here i cell is same))
          (other_no_newer newest here (newer newest found))
    ],
  )

-- the newest of all is the next version
pub next_is : (cells : List Cell) (from to : ℕ) (last : Option (ℕ × ℕ)) (place : ℕ) → AreApart cells
    → IsNewestLeft from to last cells (length cells) (Some place)
    → (newest : Cell) × (slice_get cells place ≡ Some newest) × (versions_left cells from to last
    ≡ newest ∷ versions_left cells from to (Some (newest.stamp, newest.node)))
next_is cells from to last place apart (newest, found, wanted, top) = (
  newest,
  found,
  next_left cells from to last newest apart (member_at cells place newest found) wanted (λ x m one.
      let r = place_of cells x m in top r.0 x r.1 r.2 one),
)

-- and without one there is none
pub none_is : (cells : List Cell) (from to : ℕ) (last : Option (ℕ × ℕ))
    → IsNewestLeft from to last cells (length cells) None → versions_left cells from to last ≡ []
none_is cells from to last none =
    none_left cells from to last (λ x m one. let r = place_of cells x m in none r.0 x r.1 r.2 one)

pub read_is : (stamp node : ℕ) (value : Option (List ℕ)) (cell : Cell) → stamp ≡ cell.stamp → node ≡ cell.node
    → value ≡ cell.value → record { stamp = stamp; node = node; value = value } ≡ cell
read_is stamp node value cell p q r = rw (p, q, r) refl

-- ---- of a table
cells_apart : (key : List ℕ) (cells : List Cell) → IsRowSet (rows_of key cells) → AreApart cells
cells_apart key [] apart = tt
cells_apart key (cell ∷ cells) apart = (
  λ other m s n. apart.0 (row_of key other) (Contains-map (row_of key) cells other m)
      (record { key = refl; stamp = s; node = n }),
  cells_apart key cells apart.1,
)

pub column_apart : (key : List ℕ) (rows : List Row) (cells : List Cell) → IsRowSet rows
    → rows_of key cells ≡ rows_with key rows → AreApart cells
column_apart key rows cells apart is =
    cells_apart key cells (subst IsRowSet (sym is) (filter-IsRowSet (λ row. bytes_eq row.key key) rows apart))

cell_from : (key : List ℕ) (cells : List Cell) (cell : Cell) → Contains (rows_of key cells) (row_of key cell)
    → Contains cells cell
cell_from key [] cell m = absurd (Contains-none (row_of key cell) m)
cell_from key (first ∷ cells) cell m =
    elim (Contains-cons_cases (row_of key first) (row_of key cell) (rows_of key cells) m) [
      | inl same ↦
          let as_cell : Row → Cell =
          λ row. record { stamp = row.stamp; node = row.node; value = row.value } in
          subst (Contains (first ∷ cells)) (ap as_cell same) (Contains-first first cells)
      | inr there ↦ Contains-rest first cell cells (cell_from key cells cell there)
    ]

pub versions_are : (rows : List Row) (key : List ℕ) (from to : ℕ) (cells : List Cell) → IsRowSet rows
    → rows_of key cells ≡ rows_with key rows → AreVersions rows key from to (versions_left cells from to None)
versions_are rows key from to cells apart is = record {
  newest_first = left_pairs cells from to None (column_apart key rows cells apart is);
  exact = λ cell. (
    λ m.
        let h = left_from cells from to None cell m in
        let within = and_parts (ltb from cell.stamp && leb cell.stamp to) true h.1 in
        let both = and_parts (ltb from cell.stamp) (leb cell.stamp to) within.0 in (
          (Contains-from_filter (λ (row : Row). bytes_eq row.key key) rows (row_of key cell)
              (subst (λ list. Contains list (row_of key cell)) is (Contains-map (row_of key) cells cell h.0))).0,
          ltb-true from cell.stamp both.0,
          leb-true cell.stamp to both.1,
        ),
    λ (m, low, high).
        left_in cells from to None cell
        (cell_from key cells cell (subst (λ list. Contains list (row_of key cell)) (sym is)
        (Contains-filter (λ (row : Row). bytes_eq row.key key) rows (row_of key cell) m
        ((bytes_eq-Decides key key).1 refl))))
        (ap₂ (λ a b. (a && b) && true) (lt-ltb from cell.stamp low) (le-leb cell.stamp to high)),
  );
}
