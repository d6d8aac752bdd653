-- Rows of one key are dropped: what becomes of the columns, of their rows and of their sizes.
use Rattle.std.proofs.Common.{filter, suc, ◌≡◌, ℕ, ◌+◌, ◌<◌, Bool, true, false, cond, List, [], sum_by, lt-ltb}
use Rattle.std.proofs.Common.{ltb-true, length-append, append-nil, length-set, drop-set-lt, get_or-set_same}
use Rattle.std.proofs.Common.{get_or-append-add, ◌∷◌, ◌++◌, refl, sym, ap, ap₂, ◌∙◌, inl, inr, arith, take, drop}
use Rattle.std.proofs.Common.{length, get_or, set, subst, All, ltb, Less}
use Rattle.std.specs.{Str.bytes_eq, List.items_where_true, List.AllByRecursion, List.Sorted.IsStrictlySortedBy}
use Rattle.std.proofs.lemmas.Bool.{cases_Bool, cond_both, false_from_ne_true}
use Rattle.std.proofs.lemmas.{Slice.Eq.bytes_eq-Decides, List.Sums.sum_by-cons, List.Sums.sum_by-append}
use Rattle.std.proofs.lemmas.List.{length-map, take-set-le, get_or-map, get_or_append_left}
use Rattle.std.proofs.lemmas.List.Elements.{filter-append, All-append, All-cons, All-nil, All-tail, All-map}
use Rattle.std.proofs.lemmas.List.Elements.{All-from_recursion}
use Rattle.hlc_rows.specs.{declared.row.Row.Row, Rows.IsRowSet}
use Rattle.hlc_table_column.specs.{Cells.Cell, Cells.cell_bytes, Rows.row_of, Rows.rows_of, Rows.rows_with}
use Rattle.hlc_table_index.specs.Entries.{entries_in, entries_before, entries_from, with_value_in, keys_in, key_cmp}
use Rattle.hlc_table_index.specs.Entries.{IsEntryAt}
use Rattle.hlc_table_index.proofs.SlotLemmas.{itself}
use Rattle.hlc_columns.proofs.WalkLemmas.{Entry, rows_both, rows_filtered, filter_none}
use Rattle.hlc_table_column.proofs.FlagLemmas.{flagged-map, flagged-IsRowSet}
use Rattle.hlc_table_index.proofs.RemovalLemmas.{parted_at}
use Rattle.hlc_columns.specs.Table.{table_rows, rows_kept, if_filled, key_at, cells_at}
use Rattle.hlc_columns.specs.Sizes.{sizes_of, plus, minus, Fit, IsPart, Sizes}
use Rattle.hlc_columns.proofs.SizeLemmas.{equal, fit_less, less_one}

-- of two lists, one after another
pub all_left : {X : Type 0} (P : X → Type 0) (xs ys : List X) → All P (xs ++ ys) → All P xs
all_left P xs ys all i d lt =
    subst P (get_or_append_left xs ys d i lt) (all i d (omega (arith, length-append xs ys)))

pub all_right : {X : Type 0} (P : X → Type 0) (xs ys : List X) → All P (xs ++ ys) → All P ys
all_right P xs ys all i d lt =
    subst P (get_or-append-add xs ys i d) (all (length xs + i) d (omega (arith, length-append xs ys)))

-- no row has the key
abbrev pub NoneOf : List ℕ → List Row → Type 0
NoneOf key rows = All (λ row. bytes_eq row.key key ≡ false) rows

-- each row has the key
abbrev pub AllOf : List ℕ → List Row → Type 0
AllOf key rows = All (λ row. bytes_eq row.key key ≡ true) rows

pub kept_other : (key : List ℕ) (flags : List Bool) (row : Row) (rows : List Row) → bytes_eq row.key key ≡ false
    → rows_kept key flags (row ∷ rows) ≡ row ∷ rows_kept key flags rows
kept_other key [] row rows n = rw n refl
kept_other key (b ∷ flags) row rows n = rw n refl

-- before rows without the key
pub kept_before : (key : List ℕ) (flags : List Bool) (xs ys : List Row) → NoneOf key xs
    → rows_kept key flags (xs ++ ys) ≡ xs ++ rows_kept key flags ys
kept_before key flags [] ys none = refl
kept_before key flags (row ∷ rows) ys none =
    kept_other key flags row (rows ++ ys) (none 0 row (omega arith))
    ∙ ap (λ l. row ∷ l) (kept_before key flags rows ys (λ i d lt. none (suc i) d (omega arith)))

pub kept_none : (key : List ℕ) (flags : List Bool) (rows : List Row) → NoneOf key rows → rows_kept key flags rows ≡ rows
kept_none key flags rows none = rw append-nil at (kept_before key flags rows [] none)

-- the rows of the key, and then none
pub kept_own : (key : List ℕ) (flags : List Bool) (xs ys : List Row) → length flags ≡ length xs → AllOf key xs
    → NoneOf key ys → rows_kept key flags (xs ++ ys) ≡ items_where_true flags xs ++ ys
kept_own key [] [] ys long all none = kept_none key [] ys none
kept_own key (true ∷ flags) (row ∷ rows) ys long all none =
    let rest = kept_own key flags rows ys (omega arith) (λ i d lt. all (suc i) d (omega arith)) none in
    rw (all 0 row (omega arith)) (ap (λ l. row ∷ l) rest)
kept_own key (false ∷ flags) (row ∷ rows) ys long all none =
    rw (all 0 row (omega arith))
    (kept_own key flags rows ys (omega arith) (λ i d lt. all (suc i) d (omega arith)) none)
kept_own key flags xs ys long all none = absurd (omega arith)

-- a column among others
pub apart : (xs ys : List Entry) (e : Entry) → sizes_of (xs ++ e ∷ ys) ≡ plus (sizes_of (xs ++ ys)) (sizes_of (e ∷ []))
apart xs ys e =
    equal (sizes_of (xs ++ e ∷ ys)) (plus (sizes_of (xs ++ ys)) (sizes_of (e ∷ [])))
    (apart_by (λ (e : Entry). length e.1))
    (let a = length-append xs (e ∷ ys) in let b = length-append xs ys in omega (arith, a, b))
    (apart_by (λ (e : Entry). length e.0)) (apart_by (λ (e : Entry). sum_by cell_bytes e.1))
  where
    apart_by : (f : Entry → ℕ) → sum_by f (xs ++ e ∷ ys) ≡ sum_by f (xs ++ ys) + sum_by f (e ∷ [])
    apart_by f =
        omega (arith, sum_by-append f xs (e ∷ ys), sum_by-append f xs ys, sum_by-cons f e ys, sum_by-cons f e [])

pub is_part : (s rest one : Sizes) → s ≡ plus rest one → IsPart one s
is_part s rest one is = subst (IsPart one) (sym is) (record {
  rows = omega arith;
  keys = omega arith;
  key_bytes = omega arith;
  value_bytes = omega arith;
})

pub minus_is : (s rest one : Sizes) → s ≡ plus rest one → minus s one ≡ rest
minus_is s rest one is =
    ap (λ s. minus s one) is
    ∙ equal (minus (plus rest one) one) rest (omega arith) (omega arith) (omega arith) (omega arith)

-- a column with fewer rows in the place of another
pub less_fits : (xs ys : List Entry) (key : List ℕ) (flags : List Bool) (cells : List Cell)
    → Fit (sizes_of (xs ++ (key, cells) ∷ ys)) → Fit (sizes_of (xs ++ (key, items_where_true flags cells) ∷ ys))
less_fits xs ys key flags cells fit =
    let e : Entry = (key, items_where_true flags cells) in
    let d : Entry = (key, cells) in
    let less = less_one key flags cells in
    subst Fit (sym (apart xs ys e))
    (fit_less (plus (sizes_of (xs ++ ys)) (sizes_of (e ∷ []))) (plus (sizes_of (xs ++ ys)) (sizes_of (d ∷ [])))
    (omega arith) (omega arith) (omega arith) (omega arith) (subst Fit (apart xs ys d) fit))

-- the leaves with other rows of the column at a position
module _ (ls : List (List Entry)) (at slot : ℕ) (inside : at < length ls) (lt : slot < length (get_or ls at [])) where
  abbrev leaf : List Entry
  leaf = get_or ls at []

  abbrev its_own : Entry
  its_own = get_or leaf slot ([], [])

  pub key_there : key_at ls at slot ≡ its_own.0
  key_there = get_or-map (λ (e : Entry). e.0) leaf slot ([], []) [] lt

  pub cells_there : cells_at ls at slot ≡ its_own.1
  cells_there = get_or-map (λ (e : Entry). e.1) leaf slot ([], []) [] lt

  -- the columns before it, itself, and those after it
  pub parted_own : entries_in ls
      ≡ entries_before ls at slot ++ (key_at ls at slot, cells_at ls at slot) ∷ entries_from ls at (slot + 1)
  parted_own =
      parted_at ls at slot ([], []) inside lt
      ∙ ap₂ (λ k c. entries_before ls at slot ++ (k, c) ∷ entries_from ls at (slot + 1)) (sym key_there)
      (sym cells_there)

  module _ (now : List (List Entry)) (cells : List Cell) (is : now ≡ with_value_in ls at slot cells) where
    leaf_now : get_or now at [] ≡ set leaf slot (key_at ls at slot, cells)
    leaf_now = ap (λ l. get_or l at []) is ∙ get_or-set_same ls at (set leaf slot (key_at ls at slot, cells)) [] inside

    pub inside_now : at < length now
    inside_now =
        omega (arith, ap length is, length-set ls at (set leaf slot (key_at ls at slot, cells)))

    pub slot_now : slot < length (get_or now at [])
    slot_now =
        omega (arith, ap length leaf_now, length-set leaf slot (key_at ls at slot, cells))

    pub before_now : entries_before now at slot ≡ entries_before ls at slot
    before_now =
        ap₂ (λ l m. entries_in l ++ take slot m)
        (ap (take at) is ∙ take-set-le at ls at (set leaf slot (key_at ls at slot, cells)) (omega arith))
        (leaf_now)
        ∙ ap (λ l. entries_in (take at ls) ++ l) (take-set-le slot leaf slot (key_at ls at slot, cells) (omega arith))

    pub from_now : entries_from now at (slot + 1) ≡ entries_from ls at (slot + 1)
    from_now =
        ap₂ (λ m l. drop (slot + 1) m ++ entries_in l) (leaf_now)
        (ap (drop (at + 1)) is ∙ drop-set-lt (at + 1) ls at (set leaf slot (key_at ls at slot, cells)) (omega arith))
        ∙ ap (λ l. l ++ entries_in (drop (at + 1) ls))
        (drop-set-lt (slot + 1) leaf slot (key_at ls at slot, cells) (omega arith))

    entry_now : get_or (get_or now at []) slot ([], []) ≡ (key_at ls at slot, cells)
    entry_now =
        ap (λ l. get_or l slot ([], [])) leaf_now ∙ get_or-set_same leaf slot (key_at ls at slot, cells) ([], []) lt

    pub key_now : key_at now at slot ≡ key_at ls at slot
    key_now =
        get_or-map (λ (e : Entry). e.0) (get_or now at []) slot ([], []) [] slot_now ∙ ap (λ (e : Entry). e.0) entry_now

    pub cells_now : cells_at now at slot ≡ cells
    cells_now =
        get_or-map (λ (e : Entry). e.1) (get_or now at []) slot ([], []) [] slot_now ∙ ap (λ (e : Entry). e.1) entry_now

    pub entries_now : entries_in now
        ≡ entries_before ls at slot ++ (key_at ls at slot, cells) ∷ entries_from ls at (slot + 1)
    entries_now =
        parted_at now at slot ([], []) inside_now slot_now
        ∙ ap (λ e. entries_before now at slot ++ e ∷ entries_from now at (slot + 1)) entry_now
        ∙ ap₂ (λ a b. a ++ (key_at ls at slot, cells) ∷ b) before_now from_now

-- a column with rows, and one without
pub filled_some : (e : Entry) → (length e.1 ≡ 0 → ⊥) → if_filled e ≡ e ∷ []
filled_some e some = ap (λ b. cond b (e ∷ []) []) (lt-ltb 0 (length e.1) (omega (arith, some)))

pub filled_none : (e : Entry) → length e.1 ≡ 0 → if_filled e ≡ []
filled_none e none = ap (λ n. cond (ltb 0 n) (e ∷ []) []) none

-- flagged rows of the column at a position are own_kept
module _ (ls : List (List Entry)) (at slot : ℕ) (inside : at < length ls) (lt : slot < length (get_or ls at []))
    (flags : List Bool) (many : length flags ≡ length (cells_at ls at slot)) (sizes before : Sizes)
    (all : sizes ≡ sizes_of (entries_in ls))
    (own : before ≡ sizes_of ((key_at ls at slot, cells_at ls at slot) ∷ [])) where
  abbrev ahead : List Entry
  ahead = entries_before ls at slot

  abbrev after_it : List Entry
  after_it = entries_from ls at (slot + 1)

  abbrev own_key : List ℕ
  own_key = key_at ls at slot

  abbrev own_kept : List Cell
  own_kept = items_where_true flags (cells_at ls at slot)

  parts : sizes ≡ plus (sizes_of (ahead ++ after_it)) before
  parts =
      all ∙ ap sizes_of (parted_own ls at slot inside lt) ∙ apart ahead after_it (own_key, cells_at ls at slot)
      ∙ ap (plus (sizes_of (ahead ++ after_it))) (sym own)

  pub own_part : IsPart before sizes
  own_part = is_part sizes (sizes_of (ahead ++ after_it)) before parts

  module _ (now : List (List Entry)) (after others : Sizes)
      (written : now ≡ with_value_in ls at slot (items_where_true flags (cells_at ls at slot)))
      (left : after ≡ sizes_of ((key_at now at slot, cells_at now at slot) ∷ []))
      (rest : others ≡ minus sizes before) where
    after_is : after ≡ sizes_of ((own_key, own_kept) ∷ [])
    after_is =
        left ∙ ap₂ (λ k cs. sizes_of ((k, cs) ∷ [])) (key_now ls at slot inside lt now own_kept written)
        (cells_now ls at slot inside lt now own_kept written)

    others_are : others ≡ sizes_of (ahead ++ after_it)
    others_are = rest ∙ minus_is sizes (sizes_of (ahead ++ after_it)) before parts

    together : plus others after ≡ sizes_of (ahead ++ (own_key, own_kept) ∷ after_it)
    together = ap₂ plus others_are after_is ∙ sym (apart ahead after_it (own_key, own_kept))

    pub sum_fits : Fit sizes → Fit (plus others after)
    sum_fits fit =
        subst Fit (sym together)
        (less_fits ahead after_it own_key flags (cells_at ls at slot)
        (subst Fit (all ∙ ap sizes_of (parted_own ls at slot inside lt)) fit))

    long : after.rows ≡ length own_kept
    long =
        ap (λ (s : Sizes). s.rows) after_is
        ∙ sum_by-cons (λ (e : Entry). length e.1) (own_key, own_kept) [] ∙ omega arith

    -- none is left, and the column goes
    module _ (none : after.rows ≡ 0) (new : List Entry)
        (gone : new ≡ entries_before now at slot ++ entries_from now at (slot + 1)) where
      parted_gone : new ≡ ahead ++ after_it
      parted_gone =
          gone ∙ ap₂ (λ a b. a ++ b) (before_now ls at slot inside lt now own_kept written)
          (from_now ls at slot inside lt now own_kept written)

      pub gone_entries : new ≡ ahead ++ (if_filled (own_key, own_kept) ++ after_it)
      gone_entries =
          parted_gone ∙ ap (λ l. ahead ++ (l ++ after_it)) (sym (filled_none (own_key, own_kept) (sym long ∙ none)))

      pub gone_sizes : others ≡ sizes_of new
      gone_sizes = others_are ∙ ap sizes_of (sym parted_gone)

    -- some are left
    pub left_entries : (after.rows ≡ 0 → ⊥) → entries_in now ≡ ahead ++ (if_filled (own_key, own_kept) ++ after_it)
    left_entries some =
        entries_now ls at slot inside lt now own_kept written
        ∙ ap (λ l. ahead ++ (l ++ after_it)) (sym (filled_some (own_key, own_kept) (λ none. some (long ∙ none))))

    pub left_sizes : plus others after ≡ sizes_of (entries_in now)
    left_sizes = together ∙ ap sizes_of (sym (entries_now ls at slot inside lt now own_kept written))

unlike : (a b : List ℕ) → key_cmp a b ≡ Less → bytes_eq a b ≡ false
unlike a b less = false_from_ne_true (bytes_eq a b) (λ t.
    let same = (bytes_eq-Decides a b).0 t in let alike = itself b in cc)

turned : (a b : List ℕ) → key_cmp b a ≡ Less → bytes_eq a b ≡ false
turned a b less = false_from_ne_true (bytes_eq a b) (λ t.
    let same = (bytes_eq-Decides a b).0 t in let alike = itself b in cc)

-- no row of columns with other keys has the key
rows_none : (key : List ℕ) (es : List Entry) → All (λ e. bytes_eq e.0 key ≡ false) es → NoneOf key (table_rows es)
rows_none key [] none = All-nil (λ (row : Row). bytes_eq row.key key ≡ false)
rows_none key (e ∷ es) none =
    All-append (λ (row : Row). bytes_eq row.key key ≡ false) (rows_of e.0 e.1) (table_rows es)
    (All-map (λ (row : Row). bytes_eq row.key key ≡ false) (row_of e.0) e.1 (λ k d lt. none 0 e (omega arith)))
    (rows_none key es (All-tail (λ (e : Entry). bytes_eq e.0 key ≡ false) e es none))

-- the rows of columns, when flagged rows of one are kept
pub rows_one : (front back : List Entry) (key : List ℕ) (flags : List Bool) (cells : List Cell)
    → All (λ e. bytes_eq e.0 key ≡ false) front → All (λ e. bytes_eq e.0 key ≡ false) back → length flags ≡ length cells
    → table_rows (front ++ (if_filled (key, items_where_true flags cells) ++ back))
    ≡ rows_kept key flags (table_rows (front ++ (key, cells) ∷ back))
rows_one front back key flags cells before behind many =
    rows_both front (if_filled (key, items_where_true flags cells) ++ back) ∙ ap (λ l. table_rows front ++ l)
    (rows_both (if_filled (key, items_where_true flags cells)) back
    ∙ ap (λ l. l ++ table_rows back) (filled_rows (items_where_true flags cells) ∙ flagged-map (row_of key) flags cells)
    ∙ sym (kept_own key flags (rows_of key cells) (table_rows back)
    (many ∙ sym (length-map cells (row_of key)))
    (All-map (λ (row : Row). bytes_eq row.key key ≡ true) (row_of key) cells
    (λ k d lt. (bytes_eq-Decides key key).1 refl))
    (rows_none key back behind)))
    ∙ sym (kept_before key flags (table_rows front) (rows_of key cells ++ table_rows back) (rows_none key front before))
    ∙ ap (rows_kept key flags) (sym (rows_both front ((key, cells) ∷ back)))
  where
    filled_rows : (kept : List Cell) → table_rows (if_filled (key, kept)) ≡ rows_of key kept
    filled_rows [] = refl
    filled_rows (c ∷ cs) =
        ap table_rows (filled_some (key, c ∷ cs) (λ none. omega (arith, none))) ∙ append-nil (rows_of key (c ∷ cs))

-- the keys beside the one at a position are others
pub others_before : (front back : List Entry) (e : Entry) (key : List ℕ) → key ≡ e.0
    → IsStrictlySortedBy key_cmp (keys_in (front ++ e ∷ back)) → All (λ e. bytes_eq e.0 key ≡ false) front
unfolding IsStrictlySortedBy
others_before [] back e key own up = All-nil (λ (e : Entry). bytes_eq e.0 key ≡ false)
others_before (f ∷ front) back e key own up =
    All-cons (λ (e : Entry). bytes_eq e.0 key ≡ false) f front
    (unlike f.0 key (subst (λ k. key_cmp f.0 k ≡ Less) (sym own) (first front up.0)))
    (others_before front back e key own up.1)
  where
    first : (es : List Entry) → AllByRecursion (λ k. key_cmp f.0 k ≡ Less) (keys_in (es ++ e ∷ back))
        → key_cmp f.0 e.0 ≡ Less
    first [] h = h.0
    first (d ∷ ds) h = first ds h.1

pub others_behind : (front back : List Entry) (e : Entry) (key : List ℕ) → key ≡ e.0
    → IsStrictlySortedBy key_cmp (keys_in (front ++ e ∷ back)) → All (λ e. bytes_eq e.0 key ≡ false) back
unfolding IsStrictlySortedBy
others_behind [] back e key own up =
    All-from_recursion (λ (e : Entry). bytes_eq e.0 key ≡ false) back (go back up.0)
  where
    go : (es : List Entry) → AllByRecursion (λ k. key_cmp e.0 k ≡ Less) (keys_in es)
        → AllByRecursion (λ (e : Entry). bytes_eq e.0 key ≡ false) es
    go [] h = tt
    go (d ∷ ds) h = (turned d.0 key (subst (λ k. key_cmp k d.0 ≡ Less) (sym own) h.0), go ds h.1)
others_behind (f ∷ front) back e key own up = others_behind front back e key own up.1

-- the rows that are kept are a row set
kept_marks : (key : List ℕ) (flags : List Bool) (rows : List Row)
    → (marks : List Bool) × (rows_kept key flags rows ≡ items_where_true marks rows)
kept_marks key flags [] = ([], refl)
kept_marks key [] (row ∷ rows) =
    let (marks, is) = kept_marks key [] rows in
    elim (cases_Bool (bytes_eq row.key key)) [
      | inl t ↦ (false ∷ marks, rw (t, is) refl)
      | inr f ↦ (true ∷ marks, rw (f, is) refl)
    ]
kept_marks key (true ∷ flags) (row ∷ rows) = elim (cases_Bool (bytes_eq row.key key)) [
  | inl t ↦ let (marks, is) = kept_marks key flags rows in (true ∷ marks, rw (t, is) refl)
  | inr f ↦ let (marks, is) = kept_marks key (true ∷ flags) rows in (true ∷ marks, rw (f, is) refl)
]
kept_marks key (false ∷ flags) (row ∷ rows) = elim (cases_Bool (bytes_eq row.key key)) [
  | inl t ↦ let (marks, is) = kept_marks key flags rows in (false ∷ marks, rw (t, is) refl)
  | inr f ↦ let (marks, is) = kept_marks key (false ∷ flags) rows in (true ∷ marks, rw (f, is) refl)
]

pub kept_row_set : (key : List ℕ) (flags : List Bool) (rows : List Row) → IsRowSet rows
    → IsRowSet (rows_kept key flags rows)
kept_row_set key flags rows set =
    let (marks, is) = kept_marks key flags rows in subst IsRowSet (sym is) (flagged-IsRowSet marks rows set)

-- if no row of a key is there, none has it
pub none_of : (key : List ℕ) (rows : List Row) → rows_with key rows ≡ [] → NoneOf key rows
none_of key rows none = All-from_recursion (λ (row : Row). bytes_eq row.key key ≡ false) rows (go rows none)
  where
    go : (rows : List Row) → rows_with key rows ≡ [] → AllByRecursion (λ (row : Row). bytes_eq row.key key ≡ false) rows
    go [] none = tt
    go (row ∷ rows) none = elim (cases_Bool (bytes_eq row.key key)) [
      | inl t ↦ let e = rw t at none in absurd (cc)
      | inr f ↦ (f, go rows (rw f at none))
    ]

pub filtered_none : (key : List ℕ) (rows : List Row) → NoneOf key rows → rows_with key rows ≡ []
filtered_none key = filter_none (λ (row : Row). bytes_eq row.key key)

-- the rows of the key among those of all columns
pub own_rows : (front back : List Entry) (key : List ℕ) (cells : List Cell)
    → All (λ e. bytes_eq e.0 key ≡ false) front → All (λ e. bytes_eq e.0 key ≡ false) back
    → rows_with key (table_rows (front ++ (key, cells) ∷ back)) ≡ rows_of key cells
own_rows front back key cells before behind =
    let p : Entry → Bool = λ e. bytes_eq e.0 key in
    let own : filter p ((key, cells) ∷ back) ≡ (key, cells) ∷ [] =
    rw ((bytes_eq-Decides key key).1 refl) (ap (λ l. (key, cells) ∷ l) (filter_none p back behind)) in
    rows_filtered (λ k. bytes_eq k key) (front ++ (key, cells) ∷ back)
    ∙ ap table_rows (filter-append p front ((key, cells) ∷ back) ∙ ap₂ (λ a b. a ++ b) (filter_none p front before) own)
    ∙ append-nil (rows_of key cells)

-- the column at the position of a key, and the others
module _ (ls : List (List Entry)) (key : List ℕ) (at slot : ℕ) (there : IsEntryAt ls key at slot)
    (up : IsStrictlySortedBy key_cmp (keys_in (entries_in ls))) where
  abbrev before_it : List Entry
  before_it = entries_before ls at slot

  abbrev behind_it : List Entry
  behind_it = entries_from ls at (slot + 1)

  abbrev its_cells : List Cell
  its_cells = cells_at ls at slot

  whole_is : entries_in ls ≡ before_it ++ (key, its_cells) ∷ behind_it
  whole_is =
      parted_own ls at slot there.0 there.1 ∙ ap (λ k. before_it ++ (k, its_cells) ∷ behind_it) there.2

  up_parted : IsStrictlySortedBy key_cmp (keys_in (before_it ++ (key, its_cells) ∷ behind_it))
  up_parted = subst (λ es. IsStrictlySortedBy key_cmp (keys_in es)) whole_is up

  front_others : All (λ e. bytes_eq e.0 key ≡ false) before_it
  front_others = others_before before_it behind_it (key, its_cells) key refl up_parted

  back_others : All (λ e. bytes_eq e.0 key ≡ false) behind_it
  back_others = others_behind before_it behind_it (key, its_cells) key refl up_parted

  pub rows_there : rows_with key (table_rows (entries_in ls)) ≡ rows_of key its_cells
  rows_there =
      ap (λ es. rows_with key (table_rows es)) whole_is
      ∙ own_rows before_it behind_it key its_cells front_others back_others

  pub rows_left : (flags : List Bool) (now : List Entry) → length flags ≡ length its_cells
      → now ≡ before_it ++ (if_filled (key_at ls at slot, items_where_true flags its_cells) ++ behind_it)
      → table_rows now ≡ rows_kept key flags (table_rows (entries_in ls))
  rows_left flags now many is =
      ap table_rows is
      ∙ ap (λ k. table_rows (before_it ++ (if_filled (k, items_where_true flags its_cells) ++ behind_it))) there.2
      ∙ rows_one before_it behind_it key flags its_cells front_others back_others many
      ∙ ap (λ es. rows_kept key flags (table_rows es)) (sym whole_is)

  pub filled_left : (flags : List Bool) (now : List Entry)
      → now ≡ before_it ++ (if_filled (key_at ls at slot, items_where_true flags its_cells) ++ behind_it)
      → All (λ e. 0 < length e.1) (entries_in ls) → All (λ e. 0 < length e.1) now
  filled_left flags now is filled =
      let all = subst (All (λ (e : Entry). 0 < length e.1)) whole_is filled in
      subst (All (λ (e : Entry). 0 < length e.1)) (sym is)
      (All-append (λ (e : Entry). 0 < length e.1) before_it
      (if_filled (key_at ls at slot, items_where_true flags its_cells) ++ behind_it)
      (all_left (λ (e : Entry). 0 < length e.1) before_it ((key, its_cells) ∷ behind_it) all)
      (All-append (λ (e : Entry). 0 < length e.1)
      (if_filled (key_at ls at slot, items_where_true flags its_cells)) behind_it
      (one (key_at ls at slot, items_where_true flags its_cells))
      (All-tail (λ (e : Entry). 0 < length e.1) (key, its_cells) behind_it
      (all_right (λ (e : Entry). 0 < length e.1) before_it ((key, its_cells) ∷ behind_it) all))))
    where
      one : (e : Entry) → All (λ (e : Entry). 0 < length e.1) (if_filled e)
      one e =
          cond_both (ltb 0 (length e.1)) (e ∷ []) [] (All (λ (e : Entry). 0 < length e.1))
          (λ t. All-cons (λ (e : Entry). 0 < length e.1) e [] (ltb-true 0 (length e.1) t)
          (All-nil (λ (e : Entry). 0 < length e.1)))
          (λ f. All-nil (λ (e : Entry). 0 < length e.1))
