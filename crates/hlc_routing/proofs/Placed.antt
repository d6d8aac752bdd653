-- The rows of a store, column by column: those of the columns so far are placed, and the next one's.
use Rattle.std.proofs.Common.{◌≡◌, ℕ, zero, suc, ◌+◌, ◌<◌, ◌≤◌, ◌⊎◌, List, [], ◌∷◌, ◌++◌, length, take, drop, Some}
use Rattle.std.proofs.Common.{Bool, true, false, refl, ap, sym, ◌∙◌, subst, inl, inr, arith, append_assoc, append-nil}
use Rattle.std.proofs.Common.{add-one, slice_get, ◌↔◌, IsTrue}
use Rattle.std.proofs.lemmas.{Bool.cases_eq, Bool.cases_lt, Grind.flat_map-append}
use Rattle.std.proofs.lemmas.List.Elements.{All-nil, All-append, All-map}
use Rattle.hlc_rows.specs.declared.row.Row.{Row}
use Rattle.hlc_table_column.specs.{Cells.Cell, Rows.KeyCells, Rows.row_of, Rows.rows_of, Rows.rows_in_one, Rows.rows_in}
use Rattle.hlc_columns.specs.Table.{columns_in}
use Rattle.hlc_routing.{specs.Division.DivisionView, specs.Division.store_of, proofs.Stepping.some-same}
use Rattle.hlc_routing.specs.Placing.{ArePlaced, IsFirstOther, IsOther, IsOtherAt, IsOtherOf}

split-at : {X : Type 0} (xs : List X) (i : ℕ) (x : X) → slice_get xs i ≡ Some x
    → xs ≡ take i xs ++ x ∷ drop (suc i) xs
split-at [] i x e = absurd (cc)
split-at (y ∷ xs) zero x e = ap (λ z. z ∷ xs) (some-same y x e)
split-at (y ∷ xs) (suc i) x e = ap (λ zs. y ∷ zs) (split-at xs i x e)

take-suc_at : {X : Type 0} (xs : List X) (i : ℕ) (x : X) → slice_get xs i ≡ Some x
    → take (suc i) xs ≡ take i xs ++ x ∷ []
take-suc_at [] i x e = absurd (cc)
take-suc_at (y ∷ xs) zero x e = ap (λ z. z ∷ []) (some-same y x e)
take-suc_at (y ∷ xs) (suc i) x e = ap (λ zs. y ∷ zs) (take-suc_at xs i x e)

take-next : {X : Type 0} (xs : List X) (i : ℕ) (x : X) → slice_get xs i ≡ Some x
    → take (i + 1) xs ≡ take i xs ++ x ∷ []
take-next xs i x e = ap (λ n. take n xs) (add-one i) ∙ take-suc_at xs i x e

pub take-all : {X : Type 0} (xs : List X) (i : ℕ) → length xs ≤ i → take i xs ≡ xs
take-all [] zero all' = refl
take-all [] (suc i) all' = refl
take-all (x ∷ xs) zero all' = absurd (omega arith)
take-all (x ∷ xs) (suc i) all' = ap (λ zs. x ∷ zs) (take-all xs i (omega arith))

-- the rows of a column have its key
column-placed : (division : DivisionView) (s : ℕ) (one : KeyCells) → store_of division one.key ≡ s
    → ArePlaced division s (rows_in_one one)
column-placed division s one is =
    All-map (λ (row : Row). store_of division row.key ≡ s) (row_of one.key) one.cells (λ k d within. is)

no-rows : (division : DivisionView) (s : ℕ) (key : List ℕ) (cells : List Cell) → length cells ≡ 0
    → ArePlaced division s (rows_of key cells)
no-rows division s key [] none = All-nil (λ (row : Row). store_of division row.key ≡ s)
no-rows division s key (cell ∷ cells) none = absurd (omega (arith, none))

-- a column that is not another store's has no rows, or a key of this one
pub not-other : (division : DivisionView) (s : ℕ) (one : KeyCells) (is : Bool) → is ≡ false
    → IsTrue is ↔ IsOther division s one → (length one.cells ≡ 0) ⊎ (store_of division one.key ≡ s)
not-other division s one is not' both =
    elim (cases_eq (store_of division one.key) s) [
      | inl same ↦ inr same
      | inr other ↦
          elim (cases_lt 0 (length one.cells)) [
            | inl some ↦ absurd (let e : true ≡ false = sym (both.1 (some, other)) ∙ not' in cc)
            | inr few ↦ inl (let low : length one.cells ≤ 0 = few in omega arith)
          ]
    ]

-- a column more
pub placed-next : (division : DivisionView) (s : ℕ) (leaf : List KeyCells) (place : ℕ) (one : KeyCells)
    → slice_get leaf place ≡ Some one → ArePlaced division s (rows_in (take place leaf))
    → (length one.cells ≡ 0) ⊎ (store_of division one.key ≡ s)
    → ArePlaced division s (rows_in (take (place + 1) leaf))
placed-next division s leaf place one at so_far here =
    let mine : ArePlaced division s (rows_in_one one) = elim here [
      | inl none ↦ no-rows division s one.key one.cells none
      | inr is ↦ column-placed division s one is
    ] in
    let same : rows_in (take (place + 1) leaf) ≡ rows_in (take place leaf) ++ rows_in_one one =
    ap rows_in (take-next leaf place one at) ∙ flat_map-append rows_in_one (take place leaf) (one ∷ [])
    ∙ ap (λ rows. rows_in (take place leaf) ++ rows) (append-nil (rows_in_one one)) in
    subst (ArePlaced division s) (sym same)
    (All-append (λ (row : Row). store_of division row.key ≡ s) (rows_in (take place leaf)) (rows_in_one one) so_far
    mine)

-- a leaf more
pub leaf-next : (division : DivisionView) (s : ℕ) (leaves : List (List KeyCells)) (at : ℕ) (leaf : List KeyCells)
    → slice_get leaves at ≡ Some leaf → ArePlaced division s (rows_in (columns_in (take at leaves)))
    → ArePlaced division s (rows_in leaf)
    → ArePlaced division s (rows_in (columns_in (take (at + 1) leaves)))
leaf-next division s leaves at leaf is so_far here =
    let columns : columns_in (take (at + 1) leaves) ≡ columns_in (take at leaves) ++ leaf =
    ap columns_in (take-next leaves at leaf is)
    ∙ flat_map-append (λ (one : List KeyCells). one) (take at leaves) (leaf ∷ [])
    ∙ ap (λ (more : List KeyCells). columns_in (take at leaves) ++ more) (append-nil leaf) in
    let same : rows_in (columns_in (take (at + 1) leaves))
    ≡ rows_in (columns_in (take at leaves)) ++ rows_in leaf =
    ap rows_in columns ∙ flat_map-append rows_in_one (columns_in (take at leaves)) leaf in
    subst (ArePlaced division s) (sym same)
    (All-append (λ (row : Row). store_of division row.key ≡ s) (rows_in (columns_in (take at leaves))) (rows_in leaf)
    so_far here)

-- the rows of columns that are cut at one which has rows
cut-rows : (before : List KeyCells) (one : KeyCells) (after : List KeyCells) → 0 < length one.cells
    → (row : Row) × (rest : List Row)
    × (rows_in (before ++ one ∷ after) ≡ rows_in before ++ row ∷ rest) × (row.key ≡ one.key)
cut-rows before one after some = cut one.cells refl some
  where
    cut : (cells : List Cell) → one.cells ≡ cells → 0 < length cells
        → (row : Row) × (rest : List Row)
        × (rows_in (before ++ one ∷ after) ≡ rows_in before ++ row ∷ rest) × (row.key ≡ one.key)
    cut [] is some' = absurd (omega arith)
    cut (cell ∷ cells) is some' = (
      row_of one.key cell,
      rows_of one.key cells ++ rows_in after,
      flat_map-append rows_in_one before (one ∷ after)
          ∙ ap (λ xs. rows_in before ++ (rows_of one.key xs ++ rows_in after)) is,
      refl,
    )

-- the first column of another store's key, in the first leaf that has one
found-first : (division : DivisionView) (s : ℕ) (rows : List Row) (leaves : List (List KeyCells)) (at place : ℕ)
    (leaf : List KeyCells) (key : List ℕ) → rows_in (columns_in leaves) ≡ rows → slice_get leaves at ≡ Some leaf
    → ArePlaced division s (rows_in (columns_in (take at leaves))) → (other : IsOtherAt division s leaf place)
    → other.column.key ≡ key → IsFirstOther division s rows key
found-first division s rows leaves at place leaf key are is so_far other same =
    let one : KeyCells = other.column in
    let before : List KeyCells = columns_in (take at leaves) in
    let rest : List KeyCells = columns_in (drop (suc at) leaves) in
    let first : List KeyCells = take place leaf in
    let last : List KeyCells = drop (suc place) leaf in
    let whole : columns_in leaves ≡ before ++ (leaf ++ rest) =
    ap columns_in (split-at leaves at leaf is)
    ∙ flat_map-append (λ (x : List KeyCells). x) (take at leaves) (leaf ∷ drop (suc at) leaves) in
    let cut : leaf ≡ first ++ one ∷ last = split-at leaf place one other.at in
    let all' : columns_in leaves ≡ (before ++ first) ++ one ∷ (last ++ rest) =
    whole ∙ ap (λ (xs : List KeyCells). before ++ (xs ++ rest)) cut
    ∙ ap (λ (xs : List KeyCells). before ++ xs) (append_assoc first (one ∷ last) rest)
    ∙ sym (append_assoc before first (one ∷ (last ++ rest))) in
    let here = cut-rows (before ++ first) one (last ++ rest) other.other.0 in
    record {
      before = rows_in (before ++ first);
      row = here.0;
      after = here.1;
      rows_are = sym are ∙ ap rows_in all' ∙ here.2;
      placed = subst (ArePlaced division s) (sym (flat_map-append rows_in_one before first))
          (All-append (λ (row : Row). store_of division row.key ≡ s) (rows_in before) (rows_in first) so_far
          other.placed);
      key_is = here.3 ∙ same;
      other = λ e. other.other.1 (ap (store_of division) same ∙ e);
    }

-- the same, with the leaf and the column as they were looked up
pub found-of : (division : DivisionView) (s : ℕ) (rows : List Row) (leaves : List (List KeyCells)) (places : ℕ × ℕ)
    (leaf : List KeyCells) (column : KeyCells) (key : List ℕ) → rows_in (columns_in leaves) ≡ rows
    → IsOtherOf division s leaves places → slice_get leaves places.0 ≡ Some leaf
    → slice_get leaf places.1 ≡ Some column → key ≡ column.key → IsFirstOther division s rows key
found-of division s rows leaves places leaf column key are found is at same =
    let one : found.leaf ≡ leaf = some-same found.leaf leaf (sym found.at ∙ is) in
    let here : slice_get found.leaf places.1 ≡ Some column =
    subst (λ (l : List KeyCells). slice_get l places.1 ≡ Some column) (sym one) at in
    let two : found.other.column ≡ column = some-same found.other.column column (sym found.other.at ∙ here) in
    found-first division s rows leaves places.0 places.1 found.leaf key are found.at found.placed found.other
    (ap (λ (x : KeyCells). x.key) two ∙ sym same)
