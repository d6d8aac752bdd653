-- Keeping flagged rows, column by column: each column removes as many flags from the front as it has rows, and columns
-- that are left without rows contribute none.
use Rattle.std.proofs.Common.{◌≡◌, ℕ, zero, suc, ◌+◌, ◌<◌, ◌≤◌, Bool, cond, List, [], ◌∷◌, ◌++◌, length, ltb-true}
use Rattle.std.proofs.Common.{lt-ltb, length-append, length-drop, drop-drop, length-set, set-set, get_or-set_same}
use Rattle.std.proofs.Common.{take-append-drop, refl, sym, ap, ap₂, ◌∙◌, arith, take, drop, filter, ltb, get_or, set}
use Rattle.std.proofs.Common.{All, map}
use Rattle.std.specs.List.{items_where_true, AllByRecursion}
use Rattle.std.proofs.lemmas.{Bool.cond_both, List.get_or_default, List.length-map, List.get_or-map}
use Rattle.std.proofs.lemmas.List.{Concat.flat_map-append, Elements.All-from_recursion}
use Rattle.hlc_rows.specs.declared.row.Row.{Row}
use Rattle.hlc_table_column.specs.{Cells.Cell, Rows.row_of, Rows.rows_of}
use Rattle.hlc_table_index.specs.Entries.{entries_in, keys_in, with_value_in}
use Rattle.hlc_columns.specs.Table.{table_rows, indexed_rows, kept_in, cells_at}
use Rattle.hlc_columns.proofs.WalkLemmas.{Entry, rows_both}
use Rattle.hlc_table_column.proofs.FlagLemmas.{flagged-none, flagged-append, flagged-map}

-- the rows that are kept are the flagged rows
pub kept_rows : (es : List Entry) (flags : List Bool) → length flags ≡ length (table_rows es)
    → table_rows (kept_in flags es) ≡ items_where_true flags (table_rows es)
kept_rows [] flags long = sym (flagged-none {X = Row} flags)
kept_rows (e ∷ es) flags long =
    let n : length (rows_of e.0 e.1) ≡ length e.1 = length-map e.1 (row_of e.0) in
    let sum = length-append (rows_of e.0 e.1) (table_rows es) in
    let left = length-drop (length e.1) flags in
    sym (flagged-append (rows_of e.0 e.1) (table_rows es) flags long ∙ ap₂ (λ xs ys. xs ++ ys)
    (ap (λ m. items_where_true (take m flags) (rows_of e.0 e.1)) n
    ∙ sym (flagged-map (row_of e.0) (take (length e.1) flags) e.1))
    (ap (λ m. items_where_true (drop m flags) (table_rows es)) n
    ∙ sym (kept_rows es (drop (length e.1) flags) (omega (arith, long, n, sum, left)))))

-- a column with rows
abbrev pub is_filled : Entry → Bool
is_filled e = ltb 0 (length e.1)

-- columns without rows contribute none
pub filled_rows : (es : List Entry) → table_rows (filter is_filled es) ≡ table_rows es
filled_rows [] = refl
filled_rows (e ∷ es) = one e.1 (filled_rows es)
  where
    one : (cells : List Cell) → table_rows (filter is_filled es) ≡ table_rows es
        → table_rows (cond (ltb 0 (length cells)) ((e.0, cells) ∷ filter is_filled es) (filter is_filled es))
        ≡ rows_of e.0 cells ++ table_rows es
    one [] rest = rest
    one (x ∷ xs) rest =
        rw (lt-ltb 0 (length (x ∷ xs)) (omega arith)) (ap (λ rows. rows_of e.0 (x ∷ xs) ++ rows) rest)

pub all_filled : (es : List Entry) → All (λ e. 0 < length e.1) (filter is_filled es)
all_filled es = All-from_recursion (λ (e : Entry). 0 < length e.1) (filter is_filled es) (go es)
  where
    go : (es : List Entry) → AllByRecursion (λ e. 0 < length e.1) (filter is_filled es)
    go [] = tt
    go (e ∷ es) =
        cond_both (ltb 0 (length e.1)) (e ∷ filter is_filled es) (filter is_filled es)
        (AllByRecursion (λ (e : Entry). 0 < length e.1)) (λ t. (ltb-true 0 (length e.1) t, go es)) (λ f. go es)

-- a pass over a list that removes this many flags from the front for each item, and replaces the item
module _ {X : Type 0} (step : List Bool → X → X) (size : X → ℕ) where
  pub run : List Bool → List X → List X
  run flags [] = []
  run flags (x ∷ xs) = step flags x ∷ run (drop (size x) flags) xs

  pub total : List X → ℕ
  total [] = 0
  total (x ∷ xs) = size x + total xs

  pub length-run : (flags : List Bool) (xs : List X) → length (run flags xs) ≡ length xs
  unfolding run
  length-run flags [] = refl
  length-run flags (x ∷ xs) = ap suc (length-run (drop (size x) flags) xs)

  pub run_next : (flags : List Bool) (xs : List X) (n : ℕ) (x : X) → n < length xs → x ≡ get_or xs n x
      → set (run flags (take n xs) ++ drop n xs) n (step (drop (total (take n xs)) flags) x)
      ≡ run flags (take (suc n) xs) ++ drop (suc n) xs
  unfolding run total
  run_next flags [] n x lt is = absurd (omega (arith, lt))
  run_next flags (y ∷ ys) zero x lt is = ap (λ z. step flags z ∷ ys) is
  run_next flags (y ∷ ys) (suc n) x lt is =
      ap (λ fs. step flags y ∷ set (run (drop (size y) flags) (take n ys) ++ drop n ys) n (step fs x))
      (sym (drop-drop (total (take n ys)) (size y) flags))
      ∙ ap (λ l. step flags y ∷ l) (run_next (drop (size y) flags) ys n x (omega (arith, lt)) is)

  pub run_at : (flags : List Bool) (xs : List X) (n : ℕ) (d : X) → n < length xs
      → get_or (run flags (take n xs) ++ drop n xs) n d ≡ get_or xs n d
  unfolding run
  run_at flags [] n d lt = absurd (omega (arith, lt))
  run_at flags (y ∷ ys) zero d lt = refl
  run_at flags (y ∷ ys) (suc n) d lt = run_at (drop (size y) flags) ys n d (omega (arith, lt))

  pub total_next : (xs : List X) (n : ℕ) (x : X) → n < length xs → x ≡ get_or xs n x
      → total (take (suc n) xs) ≡ total (take n xs) + size x
  unfolding total
  total_next [] n x lt is = absurd (omega (arith, lt))
  total_next (y ∷ ys) zero x lt is = let e = ap size is in omega (arith, e)
  total_next (y ∷ ys) (suc n) x lt is = let e = total_next ys n x (omega (arith, lt)) is in omega (arith, e)

  pub run_all : (flags : List Bool) (xs : List X) (n : ℕ) → length xs ≤ n
      → run flags (take n xs) ++ drop n xs ≡ run flags xs
  unfolding run
  run_all flags [] zero le = refl
  run_all flags [] (suc n) le = refl
  run_all flags (y ∷ ys) zero le = absurd (omega (arith, le))
  run_all flags (y ∷ ys) (suc n) le = ap (λ l. step flags y ∷ l) (run_all (drop (size y) flags) ys n (omega (
    arith,
    le,
  )))

-- for the entries of a leaf
abbrev pub kept_one : List Bool → Entry → Entry
kept_one flags e = (e.0, items_where_true (take (length e.1) flags) e.1)

abbrev pub many : Entry → ℕ
many e = length e.1

pub kept_run : (flags : List Bool) (es : List Entry) → kept_in flags es ≡ run kept_one many flags es
unfolding run
kept_run flags [] = refl
kept_run flags (e ∷ es) = ap (λ l. kept_one flags e ∷ l) (kept_run (drop (length e.1) flags) es)

pub many_rows : (es : List Entry) → total kept_one many es ≡ length (table_rows es)
unfolding total
many_rows [] = refl
many_rows (e ∷ es) =
    omega (arith, length-map e.1 (row_of e.0), length-append (rows_of e.0 e.1) (table_rows es), many_rows es)

-- and for the leaves
abbrev pub leaf_rows : List Entry → ℕ
leaf_rows leaf = length (table_rows leaf)

kept_both : (xs ys : List Entry) (flags : List Bool)
    → kept_in flags (xs ++ ys) ≡ kept_in flags xs ++ kept_in (drop (length (table_rows xs)) flags) ys
kept_both [] ys flags = refl
kept_both (x ∷ xs) ys flags =
    ap (λ l. kept_one flags x ∷ l) (kept_both xs ys (drop (length x.1) flags)
    ∙ ap (λ fs. kept_in (drop (length x.1) flags) xs ++ kept_in fs ys)
    (drop-drop (length (table_rows xs)) (length x.1) flags
    ∙ ap (λ n. drop n flags) (let n = length-map x.1 (row_of x.0) in
    let sum = length-append (rows_of x.0 x.1) (table_rows xs) in
    let e : length x.1 + length (table_rows xs) ≡ length (table_rows (x ∷ xs)) = omega (arith, n, sum) in e)))

pub kept_leaves : (flags : List Bool) (ls : List (List Entry))
    → entries_in (run kept_in leaf_rows flags ls) ≡ kept_in flags (entries_in ls)
unfolding run
kept_leaves flags [] = refl
kept_leaves flags (l ∷ ls) =
    ap (λ es. kept_in flags l ++ es) (kept_leaves (drop (length (table_rows l)) flags) ls)
    ∙ sym (kept_both l (entries_in ls) flags)

pub leaves_rows : (ls : List (List Entry)) → total kept_in leaf_rows ls ≡ length (indexed_rows ls)
unfolding total
leaves_rows [] = refl
leaves_rows (l ∷ ls) =
    let both = ap length (rows_both l (entries_in ls)) in
    omega (arith, length-append (table_rows l) (indexed_rows ls), leaves_rows ls)

one_more : (n : ℕ) → suc n ≡ n + 1
one_more n = omega arith

-- the leaves, of which the first were processed
module _ (old cols : List (List Entry)) (at : ℕ) (flags left : List Bool) (inside : at < length old)
    (inv : cols ≡ run kept_in leaf_rows flags (take at old) ++ drop at old)
    (rest : left ≡ drop (total kept_in leaf_rows (take at old)) flags) where
  same_leaf : get_or cols at [] ≡ get_or old at []
  same_leaf = ap (λ l. get_or l at []) inv ∙ run_at kept_in leaf_rows flags old at [] inside

  more_leaf : total kept_in leaf_rows (take (suc at) old)
      ≡ total kept_in leaf_rows (take at old) + leaf_rows (get_or old at [])
  more_leaf =
      total_next kept_in leaf_rows old at (get_or old at []) inside
      (get_or_default old at [] (get_or old at []) inside)

  pub column_inside : at < length cols
  column_inside =
      let e = ap length inv in
      let a = length-append (run kept_in leaf_rows flags (take at old)) (drop at old) in
      let b = length-run kept_in leaf_rows flags (take at old) in
      omega (arith, length-append (take at old) (drop at old), ap length (take-append-drop at old))

  pub leaf_enough : length flags ≡ length (indexed_rows old) → length (table_rows (get_or cols at [])) ≤ length left
  leaf_enough all =
      let e = ap (λ l. length (table_rows l)) same_leaf in
      let f = ap length rest in
      let d = length-drop (total kept_in leaf_rows (take at old)) flags in
      let more = more_leaf in
      let rows = leaves_rows (take (suc at) old) in
      let whole = ap (λ l. length (indexed_rows l)) (take-append-drop (suc at) old) in
      let both = ap (λ es. length (table_rows es)) (flat_map-append (λ (l : List Entry). l) (take (suc at) old) (drop
      (suc at) old)) in
      let sides = ap length (rows_both (entries_in (take (suc at) old)) (entries_in (drop (suc at) old))) in
      omega (arith, length-append (indexed_rows (take (suc at) old)) (indexed_rows (drop (suc at) old)))

  pub next_leaves : (now : List (List Entry)) → now ≡ set cols at (kept_in left (get_or cols at []))
      → now ≡ run kept_in leaf_rows flags (take (at + 1) old) ++ drop (at + 1) old
  next_leaves now is =
      is ∙ ap₂ (λ l x. set l at (kept_in left x)) inv same_leaf
      ∙ ap (λ fs. set (run kept_in leaf_rows flags (take at old) ++ drop at old) at (kept_in fs (get_or old at [])))
      rest
      ∙ run_next kept_in leaf_rows flags old at (get_or old at []) inside
      (get_or_default old at [] (get_or old at []) inside)
      ∙ ap (λ n. run kept_in leaf_rows flags (take n old) ++ drop n old) (one_more at)

  pub next_left : (later : List Bool) → later ≡ drop (length (table_rows (get_or cols at []))) left
      → later ≡ drop (total kept_in leaf_rows (take (at + 1) old)) flags
  next_left later is =
      is ∙ ap₂ (λ n fs. drop n fs) (ap (λ l. length (table_rows l)) same_leaf) rest
      ∙ drop-drop (leaf_rows (get_or old at [])) (total kept_in leaf_rows (take at old)) flags
      ∙ ap (λ n. drop n flags) (sym more_leaf ∙ ap (λ n. total kept_in leaf_rows (take n old)) (one_more at))

-- before the first item
module _ {X : Type 0} (step : List Bool → X → X) (size : X → ℕ) where
  pub run_none : (flags : List Bool) (xs : List X) → xs ≡ run step size flags (take 0 xs) ++ drop 0 xs
  unfolding run
  run_none flags xs = refl

  pub total_none : (flags : List Bool) (xs : List X) → flags ≡ drop (total step size (take 0 xs)) flags
  unfolding total
  total_none flags xs = refl

-- the columns of a leaf, of which the first were processed
module _ (old cols : List (List Entry)) (at slot : ℕ) (flags left : List Bool) (inside : at < length old)
    (lt : slot < length (get_or old at []))
    (inv : cols ≡ set old at (run kept_one many flags (take slot (get_or old at [])) ++ drop slot (get_or old at [])))
    (rest : left ≡ drop (total kept_one many (take slot (get_or old at []))) flags) where
  abbrev leaf : List Entry
  leaf = get_or old at []

  abbrev passed : List Entry
  passed = run kept_one many flags (take slot leaf) ++ drop slot leaf

  abbrev next : Entry
  next = get_or leaf slot ([], [])

  leaf_is : get_or cols at [] ≡ passed
  leaf_is = ap (λ l. get_or l at []) inv ∙ get_or-set_same old at passed [] inside

  same_entry : get_or passed slot ([], []) ≡ next
  same_entry = run_at kept_one many flags leaf slot ([], []) lt

  long : length passed ≡ length leaf
  long =
      let a = length-append (run kept_one many flags (take slot leaf)) (drop slot leaf) in
      let b = length-run kept_one many flags (take slot leaf) in
      omega (arith, length-append (take slot leaf) (drop slot leaf), ap length (take-append-drop slot leaf))

  pub leaf_inside : at < length cols
  leaf_inside = let e = ap length inv in let n = length-set old at passed in omega (arith, inside, e, n)

  pub slot_inside : slot < length (get_or cols at [])
  slot_inside = let e = ap length leaf_is in let n = long in omega (arith, lt, e, n)

  cells_are : cells_at cols at slot ≡ next.1
  cells_are =
      ap (λ l. get_or (map (λ (e : Entry). e.1) l) slot []) leaf_is
      ∙ get_or-map (λ (e : Entry). e.1) passed slot ([], []) [] (let n = long in omega (arith, lt, n))
      ∙ ap (λ (e : Entry). e.1) same_entry

  key_is : get_or (keys_in (get_or cols at [])) slot [] ≡ next.0
  key_is =
      ap (λ l. get_or (keys_in l) slot []) leaf_is
      ∙ get_or-map (λ (e : Entry). e.0) passed slot ([], []) [] (let n = long in omega (arith, lt, n))
      ∙ ap (λ (e : Entry). e.0) same_entry

  more_rows : total kept_one many (take (suc slot) leaf) ≡ total kept_one many (take slot leaf) + length next.1
  more_rows = total_next kept_one many leaf slot next lt (get_or_default leaf slot ([], []) next lt)

  pub many_inside : length (table_rows leaf) ≤ length flags → length (cells_at cols at slot) ≤ length left
  many_inside le =
      let e = ap length cells_are in
      let f = ap length rest in
      let d = length-drop (total kept_one many (take slot leaf)) flags in
      let more = more_rows in
      let all = many_rows (take (suc slot) leaf) in
      let whole = ap (λ es. length (table_rows es)) (take-append-drop (suc slot) leaf) in
      let both = ap length (rows_both (take (suc slot) leaf) (drop (suc slot) leaf)) in
      omega (arith, length-append (table_rows (take (suc slot) leaf)) (table_rows (drop (suc slot) leaf)))

  pub next_columns : (now : List (List Entry)) → now ≡ with_value_in cols at slot
      (items_where_true (take (length (cells_at cols at slot)) left) (cells_at cols at slot))
      → now ≡ set old at (run kept_one many flags (take (slot + 1) leaf) ++ drop (slot + 1) leaf)
  next_columns now is =
      is ∙ ap₂ (λ l c. set l at (set (get_or cols at []) slot (
        get_or (keys_in (get_or cols at [])) slot [],
        items_where_true (take (length c) left) c,
      ))) inv cells_are ∙ set-set old at passed _
      ∙ ap₂ (λ l k. set old at (set l slot (k, items_where_true (take (length next.1) left) next.1))) leaf_is key_is
      ∙ ap (λ fs. set old at (set passed slot (kept_one fs next))) rest
      ∙ ap (set old at) (run_next kept_one many flags leaf slot next lt (get_or_default leaf slot ([], []) next lt)
      ∙ ap (λ n. run kept_one many flags (take n leaf) ++ drop n leaf) (one_more slot))

  pub next_flags : (later : List Bool) → later ≡ drop (length (cells_at cols at slot)) left
      → later ≡ drop (total kept_one many (take (slot + 1) leaf)) flags
  next_flags later is =
      is ∙ ap₂ (λ n fs. drop n fs) (ap length cells_are) rest
      ∙ drop-drop (length next.1) (total kept_one many (take slot leaf)) flags
      ∙ ap (λ n. drop n flags) (sym more_rows ∙ ap (λ n. total kept_one many (take n leaf)) (one_more slot))
