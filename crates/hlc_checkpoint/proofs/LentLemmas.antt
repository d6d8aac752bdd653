-- Lists of columns, one after another, are the list of all columns; and if the keys ascend, its rows ascend.
use Rattle.std.proofs.Common.{◌≡◌, ℕ, zero, suc, ◌<◌, List, [], ◌∷◌, ◌++◌, length, nat_cmp, Less, Some, slice_get}
use Rattle.std.proofs.Common.{Option, refl, sym, ap, ap₂, ◌∙◌, subst, append_assoc, arith, IsPermutation, Contains}
use Rattle.std.specs.{Prelude.All, Prelude.Bool, Ordering.ordering_then, Cmp.Lexicographic.slice_cmp}
use Rattle.std.specs.List.{AllByRecursion, Sorted.IsStrictlySortedBy}
use Rattle.std.proofs.lemmas.Option.{same_Some, slice_get_within}
use Rattle.std.proofs.lemmas.List.Elements.{All-nil, All-cons, All-head, All-tail, All-filter, Contains-append_left}
use Rattle.std.proofs.lemmas.List.Elements.{All-contains, All-from_recursion}
use Rattle.std.proofs.lemmas.List.Sorted.{IsPermutation-refl, IsPermutation-sym, IsPermutation-append}
use Rattle.std.proofs.lemmas.List.Sorted.{Contains-permutation}
use Rattle.hlc_rows.specs.{declared.row.Row.Row, Rows.IsRowSet}
use Rattle.hlc_table_column.specs.Cells.{Cell}
use Rattle.hlc_table_column.specs.Rows.{KeyCells, KeysAscend, rows_of, rows_in, rows_in_one, keys_in}
use Rattle.hlc_table_column.proofs.RowLemmas.{row_key, key_among}
use Rattle.hlc_table_column.proofs.FlagLemmas.{filter-IsRowSet}
use Rattle.hlc_columns.specs.{Answers.AreNext, Answers.in_part, Answers.part_end, Table.columns_in}
use Rattle.hlc_witness.specs.{Certificate.row_cmp, Certificate.RowsAscend, Cost.IsInLimits, Cost.AreInLimits}
use Rattle.hlc_witness.proofs.ListedLemmas.{sorted_append}
use Rattle.hlc_checkpoint.specs.Lent.{IsWritable, AreListOf}

-- the row at a position of a column
pub row-lent : (key : List ℕ) (cells : List Cell) (place : ℕ) (version : ℕ × ℕ) (value : Option (List ℕ))
    → place < length cells → ((cell : Cell) → slice_get cells place ≡ Some cell → version ≡ (cell.stamp, cell.node))
    → ((cell : Cell) → slice_get cells place ≡ Some cell → value ≡ cell.value)
    → slice_get (rows_of key cells) place
    ≡ Some (record { key = key; stamp = version.0; node = version.1; value = value })
row-lent key [] place version value lt is holds = absurd (omega (arith, lt))
row-lent key (cell ∷ cells) zero version value lt is holds =
    ap Some (sym (ap₂ (λ (v : ℕ × ℕ) (x : Option (List ℕ)). record { key = key; stamp = v.0; node = v.1; value = x })
    (is cell refl) (holds cell refl)))
row-lent key (cell ∷ cells) (suc place) version value lt is holds =
    row-lent key cells place version value (omega (arith, lt)) is holds

-- ---- lists of columns

-- the list of some columns, and that of others after them
pub list-append : (columns more : List KeyCells) (rows others : List Row) → AreListOf columns rows
    → AreListOf more others → AreListOf (columns ++ more) (rows ++ others)
list-append [] more rows others is also = subst (λ (xs : List Row). AreListOf more (xs ++ others)) (sym is) also
list-append (one ∷ columns) more rows others (first, left, is, own, so) also = (
  first,
  left ++ others,
  ap (λ (xs : List Row). xs ++ others) is ∙ append_assoc first left others,
  own,
  list-append columns more left others so also,
)

-- it has the rows of the columns
pub list-same : (columns : List KeyCells) (rows : List Row) → AreListOf columns rows
    → IsPermutation (rows_in columns) rows
list-same [] rows is = subst (IsPermutation []) (sym is) (IsPermutation-refl [])
list-same (one ∷ columns) rows (first, others, is, own, so) =
    subst (IsPermutation (rows_in (one ∷ columns))) (sym is)
    (IsPermutation-append (rows_in_one one) first (rows_in columns) others own.same (list-same columns others so))

-- each later key is above the first
pub all_less : (k : List ℕ) (keys : List (List ℕ)) (other : List ℕ)
    → AllByRecursion (λ key. slice_cmp nat_cmp k key ≡ Less) keys → Contains keys other
    → slice_cmp nat_cmp k other ≡ Less
all_less k keys other each m = All-contains (λ key. slice_cmp nat_cmp k key ≡ Less) keys other
    (All-from_recursion (λ key. slice_cmp nat_cmp k key ≡ Less) keys each) m

-- rows that ascend, and more above them
pub ascend-append : (xs ys : List Row) → RowsAscend xs → RowsAscend ys
    → ((x y : Row) → Contains xs x → Contains ys y → row_cmp x y ≡ Less) → RowsAscend (xs ++ ys)
ascend-append xs ys up more above = sorted_append row_cmp xs ys up more above

pub key-less : (x y : Row) → slice_cmp nat_cmp x.key y.key ≡ Less → row_cmp x y ≡ Less
key-less x y less =
    ap (λ o. ordering_then o (ordering_then (nat_cmp x.stamp y.stamp) (nat_cmp x.node y.node))) less

-- and ascends, if the keys do
pub list-ascend : (columns : List KeyCells) (rows : List Row) → KeysAscend columns → AreListOf columns rows
    → RowsAscend rows
unfolding IsStrictlySortedBy
list-ascend [] rows up is = subst RowsAscend (sym is) tt
list-ascend (one ∷ columns) rows up (first, others, is, own, so) =
    subst RowsAscend (sym is)
    (ascend-append first others own.ascend (list-ascend columns others up.1 so)
    (λ x y m n.
    let mine : x.key ≡ one.key =
    row_key one.key one.cells x
    (Contains-permutation first (rows_in_one one) x (IsPermutation-sym (rows_in_one one) first own.same) m) in
    let later : Contains (keys_in columns) y.key =
    key_among columns y (Contains-permutation others (rows_in columns) y
    (IsPermutation-sym (rows_in columns) others (list-same columns others so)) n) in
    key-less x y (subst (λ k. slice_cmp nat_cmp k y.key ≡ Less) (sym mine)
    (all_less one.key (keys_in columns) y.key up.0 later))))

-- ---- the columns of a store

all_left : {X : Type 0} (P : X → Type 0) (xs ys : List X) → All P (xs ++ ys) → All P xs
all_left P [] ys each = All-nil P
all_left P (x ∷ xs) ys each =
    All-cons P x xs (All-head P x (xs ++ ys) each) (all_left P xs ys (All-tail P x (xs ++ ys) each))

all_right : {X : Type 0} (P : X → Type 0) (xs ys : List X) → All P (xs ++ ys) → All P ys
all_right P [] ys each = each
all_right P (x ∷ xs) ys each = all_right P xs ys (All-tail P x (xs ++ ys) each)

row_set-left : (xs ys : List Row) → IsRowSet (xs ++ ys) → IsRowSet xs
row_set-left [] ys apart = tt
row_set-left (x ∷ xs) ys apart = (
  λ other m same. apart.0 other (Contains-append_left xs ys other m) same,
  row_set-left xs ys apart.1,
)

row_set-right : (xs ys : List Row) → IsRowSet (xs ++ ys) → IsRowSet ys
row_set-right [] ys apart = apart
row_set-right (x ∷ xs) ys apart = row_set-right xs ys apart.1

-- a row set whose rows an item may write, column by column
pub all-writable : (columns : List KeyCells) → IsRowSet (rows_in columns) → AreInLimits (rows_in columns)
    → All IsWritable columns
all-writable [] apart low = All-nil IsWritable
all-writable (one ∷ columns) apart low =
    All-cons IsWritable one columns (
      row_set-left (rows_in_one one) (rows_in columns) apart,
      all_left IsInLimits (rows_in_one one) (rows_in columns) low,
    )
    (all-writable columns (row_set-right (rows_in_one one) (rows_in columns) apart)
    (all_right IsInLimits (rows_in_one one) (rows_in columns) low))

-- the columns of a leaf are among those of all leaves
pub leaf-writable : (leaves : List (List KeyCells)) (i : ℕ) (leaf : List KeyCells) → slice_get leaves i ≡ Some leaf
    → All IsWritable (columns_in leaves) → All IsWritable leaf
leaf-writable [] i leaf at each = absurd (omega (arith, slice_get_within [] i leaf at))
leaf-writable (first ∷ leaves) zero leaf at each =
    subst (All IsWritable) (same_Some first leaf at) (all_left IsWritable first (columns_in leaves) each)
leaf-writable (first ∷ leaves) (suc i) leaf at each =
    leaf-writable leaves i leaf at (all_right IsWritable first (columns_in leaves) each)

-- the columns of the next keys of a table are such columns
pub next-writable : (rows : List Row) (key : List ℕ) (limit : ℕ) (columns : List KeyCells)
    → IsRowSet rows → AreInLimits rows → AreNext rows key limit columns
    → All IsWritable columns
next-writable rows key limit columns apart low next =
    let is_in : Row → Bool = λ row. in_part key (part_end key limit columns) row.key in
    all-writable columns (subst IsRowSet next.exact (filter-IsRowSet is_in rows apart))
    (subst AreInLimits next.exact (All-filter is_in IsInLimits rows low))
