-- Three lists side by side.
use Rattle.std.proofs.Common.{◌≡◌, ℕ, zero, suc, ◌<◌, ◌≤◌, Bool, true, false, eqb, ltb, ◌||◌, ◌&&◌, List, []}
use Rattle.std.proofs.Common.{option_map, sum_by, option_and_then, ◌∷◌, ◌++◌, Option, Some, None, length, get_or, refl}
use Rattle.std.proofs.Common.{sym, ap, ◌∙◌, subst, inl, inr, arith, All, slice_get, map, filter, leb, ◌+◌}
use Rattle.std.proofs.lemmas.{Bool.cases_lt, Bool.cases_Bool, Bool.Decides.nat_tests, List.Sums.sum_by-cons}
use Rattle.std.proofs.lemmas.Option.{none-some, same_Some, slice_get-map, slice_get-get_or}
use Rattle.hlc_rows.specs.{declared.row.Row.Row, Rows.newest, Rows.answer}
use Rattle.std.specs.List.{items_where_true}
use Rattle.hlc_lanes.specs.{Newest.IsNewest, Places.IsGreatestNode, Places.IsPlace}
use Rattle.hlc_table_column.specs.Cells.{Cell, cells_of, AreBeside, value_bytes, cell_bytes}
use Rattle.hlc_table_column.specs.Rows.{row_of, rows_of}
use Rattle.hlc_table_column.proofs.FirstLemmas.{first_newest, none_newest}

pub length_cells : (ss ns : List ℕ) (vs : List (Option (List ℕ))) → AreBeside ss ns vs
    → length (cells_of ss ns vs) ≡ length ss
length_cells [] ns vs b = refl
length_cells (s ∷ ss) (n ∷ ns) (v ∷ vs) b = ap suc (length_cells ss ns vs (omega arith, omega arith))
length_cells ss ns vs b = absurd (omega arith)

pub cells_push : (ss ns : List ℕ) (vs : List (Option (List ℕ))) (s n : ℕ) (v : Option (List ℕ)) → AreBeside ss ns vs
    → cells_of (ss ++ s ∷ []) (ns ++ n ∷ []) (vs ++ v ∷ [])
    ≡ cells_of ss ns vs ++ record { stamp = s; node = n; value = v } ∷ []
cells_push [] [] [] s n v b = refl
cells_push (t ∷ ss) (m ∷ ns) (w ∷ vs) s n v b = rw (cells_push ss ns vs s n v (omega arith, omega arith)) refl
cells_push ss ns vs s n v b = absurd (omega arith)

-- the row at a position
pub row_at : (ss ns : List ℕ) (vs : List (Option (List ℕ))) (key : List ℕ) (j : ℕ) (w : Row)
    → slice_get (rows_of key (cells_of ss ns vs)) j ≡ Some w
    → (j < length ss) × (w.key ≡ key) × (get_or ss j 0 ≡ w.stamp) × (get_or ns j 0 ≡ w.node)
row_at (s ∷ ss) (n ∷ ns) (v ∷ vs) key zero w e =
    let is = same_Some _ w e in
    (omega arith, ap (λ (x : Row). x.key) (sym is), ap (λ (x : Row). x.stamp) is, ap (λ (x : Row). x.node) is)
row_at (s ∷ ss) (n ∷ ns) (v ∷ vs) key (suc j) w e =
    let h = row_at ss ns vs key j w e in
    (let l = h.0 in omega (arith, l), h.1, h.2, h.3)
row_at ss ns vs key j w e = absurd (none-some w e)

pub row_from : (ss ns : List ℕ) (vs : List (Option (List ℕ))) (key : List ℕ) (j : ℕ)
    → AreBeside ss ns vs → j < length ss → slice_get (rows_of key (cells_of ss ns vs)) j
    ≡ Some (record { key = key; stamp = get_or ss j 0; node = get_or ns j 0; value = get_or vs j None })
row_from (s ∷ ss) (n ∷ ns) (v ∷ vs) key zero b l = refl
row_from (s ∷ ss) (n ∷ ns) (v ∷ vs) key (suc j) b l = row_from ss ns vs key j (omega arith, omega arith) (omega arith)
row_from ss ns vs key j b l = absurd (omega arith)

not_later : (s n t m : ℕ) → t ≤ s → (t ≡ s → m ≤ n) → (ltb s t || (eqb s t && ltb n m)) ≡ false
not_later s n t m le at =
    elim (cases_lt t s) [
      | inl l ↦ grind (arith, nat_tests)
      | inr g ↦ let e : t ≡ s = omega (arith, le, g) in let h = at e in grind (arith, nat_tests)
    ]

surely_later : (s n t m : ℕ) → t ≤ s → (t ≡ s → m < n) → (ltb t s || (eqb t s && ltb m n)) ≡ true
surely_later s n t m le at =
    elim (cases_lt t s) [
      | inl l ↦ grind (arith, nat_tests)
      | inr g ↦ let e : t ≡ s = omega (arith, le, g) in let h = at e in grind (arith, nat_tests)
    ]

-- the result of the three kernels is the newest row
pub newest_found : (ss ns : List ℕ) (vs : List (Option (List ℕ))) (bound stamp node i : ℕ) → AreBeside ss ns vs
    → IsNewest ss bound (Some stamp) → IsGreatestNode ss ns stamp (Some node) → IsPlace ss ns stamp node (Some i)
    → (i < length (cells_of ss ns vs)) × ((key : List ℕ)
    → slice_get (rows_of key (cells_of ss ns vs)) i ≡ newest (rows_of key (cells_of ss ns vs)) key bound)
newest_found ss ns vs bound stamp node i b (member, within, top) (holds, great)
    (from, l, is_stamp, is_node, nowhere) = (
      subst (λ n. i < n) (sym (length_cells ss ns vs b)) l,
      λ key.
          let at = row_from ss ns vs key i b l in
          let v : Row = record { key = key; stamp = get_or ss i 0; node = get_or ns i 0; value = get_or vs i None } in
          at ∙ sym (first_newest (rows_of key (cells_of ss ns vs)) i v key bound at refl
          (subst (λ s. s ≤ bound) (sym is_stamp) within)
          (λ j w e le.
          let h = row_at ss ns vs key j w e in
          subst (λ s. (ltb s w.stamp || (eqb s w.stamp && ltb (get_or ns i 0) w.node)) ≡ false) (sym is_stamp)
          (subst (λ n. (ltb stamp w.stamp || (eqb stamp w.stamp && ltb n w.node)) ≡ false) (sym is_node)
          (not_later stamp node w.stamp w.node (top_at ss stamp bound top j w.stamp h.0 h.2 le)
          (λ same. subst (λ n. n ≤ node) h.3 (great j h.0 (h.2 ∙ same))))))
          (λ j w below e le.
          let h = row_at ss ns vs key j w e in
          subst (λ s. (ltb w.stamp s || (eqb w.stamp s && ltb w.node (get_or ns i 0))) ≡ true) (sym is_stamp)
          (subst (λ n. (ltb w.stamp stamp || (eqb w.stamp stamp && ltb w.node n)) ≡ true) (sym is_node)
          (surely_later stamp node w.stamp w.node (top_at ss stamp bound top j w.stamp h.0 h.2 le)
          (λ same.
          let most = subst (λ n. n ≤ node) h.3 (great j h.0 (h.2 ∙ same)) in
          elim (cases_lt w.node node) [
            | inl lt ↦ lt
            | inr ge ↦ absurd
                (nowhere j (omega arith) below (h.2 ∙ same)
                (let q : w.node ≡ node = omega (arith, most, ge) in h.3 ∙ q))
          ]))))),
    )
  where
    top_at : (ss : List ℕ) (stamp bound : ℕ) → All (λ y. y ≤ bound → y ≤ stamp) ss → (j t : ℕ) → j < length ss
        → get_or ss j 0 ≡ t → t ≤ bound → t ≤ stamp
    top_at ss stamp bound top j t l e = subst (λ y. y ≤ bound → y ≤ stamp) e (top j 0 l)

pub newest_missing : (ss ns : List ℕ) (vs : List (Option (List ℕ))) (bound : ℕ) → IsNewest ss bound None
    → (key : List ℕ) → newest (rows_of key (cells_of ss ns vs)) key bound ≡ None
newest_missing ss ns vs bound above key =
    none_newest (rows_of key (cells_of ss ns vs)) key bound (λ j w e.
    let h = row_at ss ns vs key j w e in
    subst (λ t. bound < t) h.2 (above j 0 h.0))

-- what is at a position of each list
pub each_there : (ss ns : List ℕ) (vs : List (Option (List ℕ))) (i : ℕ) (cell : Cell)
    → slice_get (cells_of ss ns vs) i ≡ Some cell
    → (slice_get ss i ≡ Some cell.stamp) × (slice_get ns i ≡ Some cell.node) × (slice_get vs i ≡ Some cell.value)
each_there (s ∷ ss) (n ∷ ns) (v ∷ vs) zero cell e =
    let is = same_Some _ cell e in
    (ap (λ (c : Cell). Some c.stamp) is, ap (λ (c : Cell). Some c.node) is, ap (λ (c : Cell). Some c.value) is)
each_there (s ∷ ss) (n ∷ ns) (v ∷ vs) (suc i) cell e = each_there ss ns vs i cell e
each_there ss ns vs i cell e = absurd (none-some cell e)

-- the row of what is at a position in each list
pub cell_there : (ss ns : List ℕ) (vs : List (Option (List ℕ))) (i s n : ℕ) (v : Option (List ℕ))
    → slice_get ss i ≡ Some s → slice_get ns i ≡ Some n → slice_get vs i ≡ Some v
    → slice_get (cells_of ss ns vs) i ≡ Some (record { stamp = s; node = n; value = v })
cell_there (x ∷ ss) (y ∷ ns) (w ∷ vs) zero s n v es en ev =
    rw (same_Some x s es, same_Some y n en, same_Some w v ev) refl
cell_there (x ∷ ss) (y ∷ ns) (w ∷ vs) (suc i) s n v es en ev = cell_there ss ns vs i s n v es en ev
cell_there [] ns vs i s n v es en ev = absurd (none-some s es)
cell_there ss [] vs i s n v es en ev = absurd (none-some n en)
cell_there ss ns [] i s n v es en ev = absurd (none-some v ev)

-- the answer from the position of the newest
pub answer_there : (cells : List Cell) (key : List ℕ) (bound i : ℕ) (value_here : Option (List ℕ)) → i < length cells
    → slice_get (rows_of key cells) i ≡ newest (rows_of key cells) key bound
    → ((cell : Cell) → slice_get cells i ≡ Some cell → value_here ≡ cell.value) → value_here
    ≡ answer (rows_of key cells) key bound
answer_there cells key bound i value_here l at is =
    let cell = slice_get-get_or cells i (record { stamp = 0; node = 0; value = None }) l in
    is _ cell ∙ ap (option_and_then (λ (r : Row). r.value))
    (sym (slice_get-map (row_of key) cells i ∙ ap (option_map (row_of key)) cell) ∙ at)

pub cells_chosen : (bs : List Bool) (ss ns : List ℕ) (vs : List (Option (List ℕ))) → AreBeside ss ns vs
    → cells_of (items_where_true bs ss) (items_where_true bs ns) (items_where_true bs vs)
    ≡ items_where_true bs (cells_of ss ns vs)
cells_chosen [] ss ns vs b = refl
cells_chosen (f ∷ bs) [] [] [] b = refl
cells_chosen (true ∷ bs) (s ∷ ss) (n ∷ ns) (v ∷ vs) b = rw (cells_chosen bs ss ns vs (omega arith, omega arith)) refl
cells_chosen (false ∷ bs) (s ∷ ss) (n ∷ ns) (v ∷ vs) b = cells_chosen bs ss ns vs (omega arith, omega arith)
cells_chosen bs ss ns vs b = absurd (omega arith)

pub length_chosen_same : {X Y : Type 0} (bs : List Bool) (xs : List X) (ys : List Y) → length xs ≡ length ys
    → length (items_where_true bs xs) ≡ length (items_where_true bs ys)
length_chosen_same [] xs ys e = refl
length_chosen_same (b ∷ bs) [] [] e = refl
length_chosen_same (true ∷ bs) (x ∷ xs) (y ∷ ys) e = ap suc (length_chosen_same bs xs ys (omega arith))
length_chosen_same (false ∷ bs) (x ∷ xs) (y ∷ ys) e = length_chosen_same bs xs ys (omega arith)
length_chosen_same bs xs ys e = absurd (omega arith)

pub beside_chosen : (bs : List Bool) (ss ns : List ℕ) (vs : List (Option (List ℕ))) → AreBeside ss ns vs
    → AreBeside (items_where_true bs ss) (items_where_true bs ns) (items_where_true bs vs)
beside_chosen bs ss ns vs b = (length_chosen_same bs ns ss b.0, length_chosen_same bs vs ss b.1)

pub stamps_of_cells : (ss ns : List ℕ) (vs : List (Option (List ℕ))) → AreBeside ss ns vs
    → ss ≡ map (λ (c : Cell). c.stamp) (cells_of ss ns vs)
stamps_of_cells [] ns vs b = refl
stamps_of_cells (s ∷ ss) (n ∷ ns) (v ∷ vs) b = ap (λ xs. s ∷ xs) (stamps_of_cells ss ns vs (omega arith, omega arith))
stamps_of_cells ss ns vs b = absurd (omega arith)

pub nodes_of_cells : (ss ns : List ℕ) (vs : List (Option (List ℕ))) → AreBeside ss ns vs
    → ns ≡ map (λ (c : Cell). c.node) (cells_of ss ns vs)
nodes_of_cells [] [] vs b = refl
nodes_of_cells (s ∷ ss) (n ∷ ns) (v ∷ vs) b = ap (λ xs. n ∷ xs) (nodes_of_cells ss ns vs (omega arith, omega arith))
nodes_of_cells ss ns vs b = absurd (omega arith)

-- a row made of the stamp, the node and the value at a position
pub row_made : (cells : List Cell) (key : List ℕ) (place stamp node : ℕ) (value : Option (List ℕ))
    → slice_get (map (λ (c : Cell). c.stamp) cells) place ≡ Some stamp
    → slice_get (map (λ (c : Cell). c.node) cells) place ≡ Some node
    → ((cell : Cell) → slice_get cells place ≡ Some cell → value ≡ cell.value)
    → slice_get (rows_of key cells) place ≡ Some (record { key = key; stamp = stamp; node = node; value = value })
row_made [] key place stamp node value s n v = absurd (none-some stamp s)
row_made (c ∷ cs) key zero stamp node value s n v =
    rw (← (same_Some c.stamp stamp s), ← (same_Some c.node node n), v c refl) refl
row_made (c ∷ cs) key (suc place) stamp node value s n v = row_made cs key place stamp node value s n v

-- there are as many rows at or below a bound as stamps
pub rows_within : (bound : ℕ) (key : List ℕ) (cells : List Cell)
    → length (filter (λ (r : Row). leb r.stamp bound) (rows_of key cells))
    ≡ length (filter (λ s. leb s bound) (map (λ (c : Cell). c.stamp) cells))
rows_within bound key [] = refl
rows_within bound key (c ∷ cs) = elim (cases_Bool (leb c.stamp bound)) [
  | inl t ↦ rw (t, rows_within bound key cs) refl
  | inr f ↦ rw (f, rows_within bound key cs) refl
]

-- the values of a column
pub cells_values : (ss ns : List ℕ) (vs : List (Option (List ℕ))) → AreBeside ss ns vs
    → sum_by value_bytes vs ≡ sum_by cell_bytes (cells_of ss ns vs)
cells_values [] [] [] b = refl
cells_values (s ∷ ss) (n ∷ ns) (v ∷ vs) b =
    sum_by-cons value_bytes v vs ∙ ap (λ m. value_bytes v + m) (cells_values ss ns vs (omega arith, omega arith))
    ∙ sym (sum_by-cons cell_bytes (record { stamp = s; node = n; value = v }) (cells_of ss ns vs))
cells_values ss ns vs b = absurd (omega arith)
