-- Rows of which those of some keys are kept by flags, and all others are kept. What is kept is a row set, has the other
-- rows unchanged, and of the rows of the keys those whose flags are set. Each is shown by going through the rows, and
-- then through the keys.
use Rattle.std.proofs.Common.{◌≡◌, ◌≢◌, ℕ, ◌+◌, Bool, true, false, not, cond, List, [], ◌∷◌, ◌++◌, length, refl, sym}
use Rattle.std.proofs.Common.{ap, ap₂, ◌∙◌, subst, inl, inr, arith, filter, take, drop, true≢false, Less, nat_cmp}
use Rattle.std.proofs.Common.{Contains, Some, None, zero, suc, get_or, ◌≤◌, ◌<◌, ◌-◌, All, count_by, is_eq, bytes_eq}
use Rattle.std.proofs.Common.{le-ltb, append-nil, append_assoc, length-append, length-drop, length-take-le}
use Rattle.std.specs.{Cmp.Lexicographic.slice_cmp, List.AllByRecursion, List.items_where_true}
use Rattle.std.proofs.lemmas.{Bool.cases_Bool, Slice.Eq.bytes_eq-Decides, Map.Keys.sorted_head, Map.Keys.sorted_tail}
use Rattle.std.proofs.lemmas.List.{length-map, drop_more, Sums.length-filter}
use Rattle.std.proofs.lemmas.List.Elements.{filter-append, All-head, All-tail, All-map}
use Rattle.hlc_rows.specs.{declared.row.Row.Row, Rows.IsRowSet}
use Rattle.hlc_table_column.specs.Cells.{Cell}
use Rattle.hlc_table_column.specs.Rows.{row_of, rows_of, rows_with, KeyCells, rows_in_one, rows_in, keys_in, KeysAscend}
use Rattle.hlc_columns.specs.{Answers.in_part, Answers.part_end, Answers.last_key, Table.rows_kept}
use Rattle.hlc_vacuum.specs.Part.{all_kept, HaveFlags, IsPartOf, IsPartVacuum}
use Rattle.hlc_vacuum.specs.{Representing.IsWithin, declared.part.PartPlan.PartPlan}
use Rattle.hlc_vacuum.proofs.WithinLemmas.{within-same, within-twice}
use Rattle.hlc_vacuum_draft.specs.{Report.report_of, declared.report.Report.Report}
use Rattle.hlc_table_column.proofs.FlagLemmas.{flagged-none, flagged-append, flagged-map, flagged-IsRowSet}
use Rattle.hlc_table_column.proofs.FlagLemmas.{flagged-Contains}
use Rattle.hlc_columns.proofs.FoundLemmas.{other_key}

-- a row of another key is kept
kept_passes : (key : List ℕ) (flags : List Bool) (row : Row) (rows : List Row) → bytes_eq row.key key ≡ false
    → rows_kept key flags (row ∷ rows) ≡ row ∷ rows_kept key flags rows
kept_passes key [] row rows n = rw n refl
kept_passes key (flag ∷ flags) row rows n = rw n refl

-- what is kept are the rows with some flags set
kept_by_flags : (key : List ℕ) (flags : List Bool) (rows : List Row)
    → (marks : List Bool) × (rows_kept key flags rows ≡ items_where_true marks rows)
kept_by_flags key flags [] = ([], refl)
kept_by_flags key [] (row ∷ rows) =
    let more = kept_by_flags key [] rows in
    elim (cases_Bool (bytes_eq row.key key)) [
      | inl t ↦ (false ∷ more.0, rw t more.1)
      | inr n ↦ (true ∷ more.0, rw n (ap (λ xs. row ∷ xs) more.1))
    ]
kept_by_flags key (flag ∷ flags) (row ∷ rows) =
    elim (cases_Bool (bytes_eq row.key key)) [
      | inl t ↦ let more = kept_by_flags key flags rows in (
        flag ∷ more.0,
        rw t (elim flag as (λ f. cond f (row ∷ rows_kept key flags rows) (rows_kept key flags rows)
            ≡ items_where_true (f ∷ more.0) (row ∷ rows)) [ true ↦ ap (λ xs. row ∷ xs) more.1 | false ↦ more.1 ]),
      )
      | inr n ↦ let more = kept_by_flags key (flag ∷ flags) rows in
          (true ∷ more.0, rw n (ap (λ xs. row ∷ xs) more.1))
    ]

-- and so for several keys
pub kept-flags : (keys : List (List ℕ)) (flags : List Bool) (rows : List Row) → IsWithin rows (all_kept keys flags rows)
kept-flags [] flags rows = within-same rows
kept-flags (key ∷ keys) flags rows =
    let n = length (rows_with key rows) in
    within-twice rows (rows_kept key (take n flags) rows) (all_kept (key ∷ keys) flags rows)
    (kept_by_flags key (take n flags) rows) (kept-flags keys (drop n flags) (rows_kept key (take n flags) rows))

-- what is kept of a row set is a row set
pub kept-row_set : (keys : List (List ℕ)) (flags : List Bool) (rows : List Row) → IsRowSet rows
    → IsRowSet (all_kept keys flags rows)
kept-row_set [] flags rows apart = apart
kept-row_set (key ∷ keys) flags rows apart =
    let some = kept_by_flags key (take (length (rows_with key rows)) flags) rows in
    kept-row_set keys (drop (length (rows_with key rows)) flags)
    (rows_kept key (take (length (rows_with key rows)) flags) rows)
    (subst IsRowSet (sym some.1) (flagged-IsRowSet some.0 rows apart))

-- of the rows that pass a test, which none of the key does, all are kept
others_stay : (p : Row → Bool) (key : List ℕ) (flags : List Bool) (rows : List Row)
    → ((row : Row) → bytes_eq row.key key ≡ true → p row ≡ false)
    → filter p (rows_kept key flags rows) ≡ filter p rows
others_stay p key flags [] none = refl
others_stay p key [] (row ∷ rows) none =
    let more = others_stay p key [] rows none in
    elim (cases_Bool (bytes_eq row.key key)) [
      | inl t ↦ let out = none row t in rw (t, out) more
      | inr n ↦ rw n (ap (λ xs. cond (p row) (row ∷ xs) xs) more)
    ]
others_stay p key (flag ∷ flags) (row ∷ rows) none =
    elim (cases_Bool (bytes_eq row.key key)) [
      | inl t ↦
          let out = none row t in
          let more = others_stay p key flags rows none in
          rw (t, out) (elim flag as (λ f. filter p (cond f (row ∷ rows_kept key flags rows) (rows_kept key flags rows))
          ≡ filter p rows) [ true ↦ rw out more | false ↦ more ])
      | inr n ↦ rw n (ap (λ xs. cond (p row) (row ∷ xs) xs) (others_stay p key (flag ∷ flags) rows none))
    ]

-- of the rows that pass a test, which all of the key do, the same are kept
own_stay : (p : Row → Bool) (key : List ℕ) (flags : List Bool) (rows : List Row)
    → ((row : Row) → bytes_eq row.key key ≡ true → p row ≡ true)
    → filter p (rows_kept key flags rows) ≡ rows_kept key flags (filter p rows)
own_stay p key flags [] own = refl
own_stay p key [] (row ∷ rows) own =
    let more = own_stay p key [] rows own in
    elim (cases_Bool (bytes_eq row.key key)) [
      | inl t ↦ let in_own = own row t in rw (t, in_own, t) more
      | inr n ↦ rw n (elim (p row) as (λ b. cond b (row ∷ filter p (rows_kept key [] rows))
          (filter p (rows_kept key [] rows)) ≡ rows_kept key [] (cond b (row ∷ filter p rows) (filter p rows))) [
            | true ↦ rw n (ap (λ xs. row ∷ xs) more)
            | false ↦ more
          ])
    ]
own_stay p key (flag ∷ flags) (row ∷ rows) own =
    elim (cases_Bool (bytes_eq row.key key)) [
      | inl t ↦
          let in_own = own row t in
          let more = own_stay p key flags rows own in
          let kept : List Row = rows_kept key flags rows in
          let same : List Row = rows_kept key flags (filter p rows) in
          rw (t, in_own, t) (elim flag as (λ f. filter p (cond f (row ∷ kept) kept) ≡ cond f (row ∷ same) same) [
            | true ↦ rw in_own (ap (λ xs. row ∷ xs) more)
            | false ↦ more
          ])
      | inr n ↦
          let more = own_stay p key (flag ∷ flags) rows own in
          rw n (elim (p row) as (λ b. cond b (row ∷ filter p (rows_kept key (flag ∷ flags) rows))
          (filter p (rows_kept key (flag ∷ flags) rows))
          ≡ rows_kept key (flag ∷ flags) (cond b (row ∷ filter p rows) (filter p rows))) [
            | true ↦ rw n (ap (λ xs. row ∷ xs) more)
            | false ↦ more
          ])
    ]

-- rows are filtered first by a weaker test, to no effect
filter_within : (q p : Row → Bool) (rows : List Row) → ((row : Row) → q row ≡ true → p row ≡ true)
    → filter q (filter p rows) ≡ filter q rows
filter_within q p [] weaker = refl
filter_within q p (row ∷ rows) weaker =
    let more = filter_within q p rows weaker in
    elim (cases_Bool (p row)) [
      | inl t ↦ rw t (ap (λ xs. cond (q row) (row ∷ xs) xs) more)
      | inr n ↦ elim (cases_Bool (q row)) [
        | inl u ↦ absurd (true≢false (sym (weaker row u) ∙ n))
        | inr u ↦ rw (n, u) more
      ]
    ]

-- a test of the key has the same result for all rows of the key
test_same : (f : List ℕ → Bool) (key : List ℕ) (b : Bool) → f key ≡ b → (row : Row)
    → bytes_eq row.key key ≡ true → f row.key ≡ b
test_same f key b e row t = ap f ((bytes_eq-Decides row.key key).0 t) ∙ e

-- the rows of other keys are kept unchanged
pub kept-others : (is_of : List ℕ → Bool) (keys : List (List ℕ)) (flags : List Bool) (rows : List Row)
    → All (λ key. is_of key ≡ true) keys
    → filter (λ (row : Row). not (is_of row.key)) (all_kept keys flags rows)
    ≡ filter (λ (row : Row). not (is_of row.key)) rows
kept-others is_of [] flags rows of = refl
kept-others is_of (key ∷ keys) flags rows of =
    let n = length (rows_with key rows) in
    kept-others is_of keys (drop n flags) (rows_kept key (take n flags) rows)
    (All-tail (λ key. is_of key ≡ true) key keys of)
    ∙ others_stay (λ row. not (is_of row.key)) key (take n flags) rows
    (test_same (λ k. not (is_of k)) key false (ap not (All-head (λ key. is_of key ≡ true) key keys of)))

-- all of a column's rows have its key, and none has another
own_rows : (key : List ℕ) (cells : List Cell) → rows_with key (rows_of key cells) ≡ rows_of key cells
own_rows key [] = refl
own_rows key (c ∷ cs) =
    let same = (bytes_eq-Decides key key).1 refl in rw same (ap (λ rows. row_of key c ∷ rows) (own_rows key cs))

other_rows : (key k : List ℕ) (cells : List Cell) → k ≢ key → rows_with key (rows_of k cells) ≡ []
other_rows key k [] apart = refl
other_rows key k (c ∷ cs) apart =
    elim (cases_Bool (bytes_eq k key)) [
      | inl t ↦ absurd (apart ((bytes_eq-Decides k key).0 t))
      | inr n ↦ rw n (other_rows key k cs apart)
    ]

-- columns of later keys have no row of the key
no_rows : (key : List ℕ) (columns : List KeyCells)
    → AllByRecursion (λ y. slice_cmp nat_cmp key y ≡ Less) (keys_in columns) → rows_with key (rows_in columns) ≡ []
no_rows key [] later = refl
no_rows key (one ∷ columns) later =
    filter-append (λ (row : Row). bytes_eq row.key key) (rows_in_one one) (rows_in columns)
    ∙ ap₂ (λ xs ys. xs ++ ys)
    (other_rows key one.key one.cells (λ e. other_key key one.key (ap is_eq later.0) (sym e)))
    (no_rows key columns later.1)

-- what has no row of the key is kept
kept_before : (key : List ℕ) (flags : List Bool) (done rows : List Row) → rows_with key done ≡ []
    → rows_kept key flags (done ++ rows) ≡ done ++ rows_kept key flags rows
kept_before key flags [] rows none = refl
kept_before key flags (row ∷ done) rows none =
    elim (cases_Bool (bytes_eq row.key key)) [
      | inl t ↦ absurd (let e = rw t at none in let l = ap length e in omega arith)
      | inr n ↦ kept_passes key flags row (done ++ rows) n
          ∙ ap (λ xs. row ∷ xs) (kept_before key flags done rows (rw n at none))
    ]

-- of a column with as many flags, the rows with their flags set are kept
kept_own : (key : List ℕ) (cells : List Cell) (flags : List Bool) (rows : List Row)
    → length flags ≡ length (rows_of key cells)
    → rows_kept key flags (rows_of key cells ++ rows)
    ≡ items_where_true flags (rows_of key cells) ++ rows_kept key [] rows
kept_own key [] [] rows e = refl
kept_own key [] (flag ∷ flags) rows e = absurd (omega (arith, e))
kept_own key (c ∷ cs) [] rows e = absurd (omega (arith, e))
kept_own key (c ∷ cs) (flag ∷ flags) rows e =
    let more = kept_own key cs flags rows (omega (arith, e)) in
    let same = (bytes_eq-Decides key key).1 refl in
    rw same (elim flag as (λ f. cond f (row_of key c ∷ rows_kept key flags (rows_of key cs ++ rows))
    (rows_kept key flags (rows_of key cs ++ rows))
    ≡ items_where_true (f ∷ flags) (rows_of key (c ∷ cs)) ++ rows_kept key [] rows) [
      | true ↦ ap (λ xs. row_of key c ∷ xs) more
      | false ↦ more
    ])

-- no row of the keys is among rows, and none after those of an earlier key
absent_nil : (keys : List (List ℕ)) → AllByRecursion (λ key. rows_with key [] ≡ []) keys
absent_nil [] = tt
absent_nil (key ∷ keys) = (refl, absent_nil keys)

absent_more : (done : List Row) (k : List ℕ) (cells : List Cell) (keys : List (List ℕ))
    → AllByRecursion (λ y. slice_cmp nat_cmp k y ≡ Less) keys
    → AllByRecursion (λ key. rows_with key done ≡ []) keys
    → AllByRecursion (λ key. rows_with key (done ++ rows_of k cells) ≡ []) keys
absent_more done k cells [] later none = tt
absent_more done k cells (key ∷ keys) later none = (
  filter-append (λ (row : Row). bytes_eq row.key key) done (rows_of k cells)
      ∙ ap₂ (λ xs ys. xs ++ ys) none.0 (other_rows key k cells (other_key k key (ap is_eq later.0))),
  absent_more done k cells keys later.1 none.1,
)

-- the same after rows of earlier keys, from which the rows that are not kept have gone
kept_after : (is_of : List ℕ → Bool) (columns : List KeyCells) (flags : List Bool) (rows done : List Row)
    → KeysAscend columns → All (λ (one : KeyCells). is_of one.key ≡ true) columns
    → AllByRecursion (λ key. rows_with key done ≡ []) (keys_in columns)
    → filter (λ (row : Row). is_of row.key) rows ≡ done ++ rows_in columns → length flags ≡ length (rows_in columns)
    → HaveFlags (keys_in columns) flags rows × (filter (λ (row : Row). is_of row.key) (all_kept (keys_in columns) flags
    rows) ≡ done ++ items_where_true flags (rows_in columns))
kept_after is_of [] flags rows done up of none e long = (tt, e ∙ ap (λ xs. done ++ xs) (sym (flagged-none flags)))
kept_after is_of (one ∷ columns) flags rows done up of none e long =
    let key : List ℕ = one.key in
    let own : List Row = rows_in_one one in
    let rest : List Row = rows_in columns in
    let n : ℕ = length own in
    let front : List Bool = take n flags in
    let p : Row → Bool = λ row. is_of row.key in
    let later : AllByRecursion (λ y. slice_cmp nat_cmp key y ≡ Less) (keys_in columns) =
    sorted_head (slice_cmp nat_cmp) key (keys_in columns) up in
    let is : (row : Row) → bytes_eq row.key key ≡ true → p row ≡ true =
    test_same is_of key true (All-head (λ (one : KeyCells). is_of one.key ≡ true) one columns of) in
    let absent : rows_with key rest ≡ [] = no_rows key columns later in
    let with : rows_with key rows ≡ own =
    sym (filter_within (λ row. bytes_eq row.key key) p rows is)
    ∙ ap (rows_with key) e
    ∙ filter-append (λ (row : Row). bytes_eq row.key key) done (own ++ rest)
    ∙ ap₂ (λ xs ys. xs ++ ys) none.0 (filter-append (λ (row : Row). bytes_eq row.key key) own rest
    ∙ ap₂ (λ xs ys. xs ++ ys) (own_rows key one.cells) absent ∙ append-nil own) in
    let both : length flags ≡ n + length rest = long ∙ length-append own rest in
    let long_front : length front ≡ length own = length-take-le n flags (omega arith) in
    let long_rest : length (drop n flags) ≡ length rest = omega (arith, length-drop n flags) in
    let kept : List Row = items_where_true front own in
    let kept_rest : rows_kept key [] rest ≡ rest =
    ap (rows_kept key []) (sym (append-nil rest)) ∙ kept_before key [] rest [] absent ∙ append-nil rest in
    let now : filter p (rows_kept key front rows) ≡ (done ++ kept) ++ rest =
    own_stay p key front rows is
    ∙ ap (rows_kept key front) e
    ∙ kept_before key front done (own ++ rest) none.0
    ∙ ap (λ xs. done ++ xs) (kept_own key one.cells front rest long_front ∙ ap (λ xs. kept ++ xs) kept_rest)
    ∙ sym (append_assoc done kept rest) in
    let none_more : AllByRecursion (λ k. rows_with k (done ++ kept) ≡ []) (keys_in columns) =
    subst (λ xs. AllByRecursion (λ k. rows_with k (done ++ xs) ≡ []) (keys_in columns))
    (flagged-map (row_of key) front one.cells)
    (absent_more done key (items_where_true front one.cells) (keys_in columns) later none.1) in
    let more = kept_after is_of columns (drop n flags) (rows_kept key front rows) (done ++ kept)
    (sorted_tail (slice_cmp nat_cmp) key (keys_in columns) up)
    (All-tail (λ (one : KeyCells). is_of one.key ≡ true) one columns of) none_more now long_rest in
    let m : length (rows_with key rows) ≡ n = ap length with in (
      (
        omega (arith, m, both),
        subst (λ m. HaveFlags (keys_in columns) (drop m flags) (rows_kept key (take m flags) rows)) (sym m) more.0,
      ),
      ap (λ m. filter p (all_kept (keys_in columns) (drop m flags) (rows_kept key (take m flags) rows))) m
          ∙ more.1
          ∙ append_assoc done kept (items_where_true (drop n flags) rest)
          ∙ ap (λ xs. done ++ xs) (sym (flagged-append own rest flags long)),
    )

-- rows pass a test or do not
both_counts : (p : Row → Bool) (rows : List Row)
    → length (filter p rows) + length (filter (λ row. not (p row)) rows) ≡ length rows
both_counts p [] = refl
both_counts p (row ∷ rows) =
    let more = both_counts p rows in
    elim (p row) as (λ b. length (cond b (row ∷ filter p rows) (filter p rows))
    + length (cond (not b) (row ∷ filter (λ row. not (p row)) rows) (filter (λ row. not (p row)) rows))
    ≡ length (row ∷ rows)) [
      | true ↦ omega arith
      | false ↦ omega arith
    ]

-- flags are set or not
flag_counts : {X : Type 0} (flags : List Bool) (xs : List X) → length flags ≡ length xs
    → length (items_where_true flags xs) + length (filter not flags) ≡ length xs
flag_counts [] [] e = refl
flag_counts [] (x ∷ xs) e = absurd (omega (arith, e))
flag_counts (flag ∷ flags) [] e = absurd (omega (arith, e))
flag_counts (true ∷ flags) (x ∷ xs) e = let more = flag_counts flags xs (omega (arith, e)) in omega arith
flag_counts (false ∷ flags) (x ∷ xs) e = let more = flag_counts flags xs (omega (arith, e)) in omega arith

module _ (is_of : List ℕ → Bool) (columns : List KeyCells) (flags : List Bool) (rows : List Row)
    (up : KeysAscend columns) (of : All (λ (one : KeyCells). is_of one.key ≡ true) columns)
    (e : filter (λ (row : Row). is_of row.key) rows ≡ rows_in columns) (long : length flags ≡ length (rows_in columns))
  where
    -- there are enough flags
    pub have-flags : HaveFlags (keys_in columns) flags rows
    have-flags = (kept_after is_of columns flags rows [] up of (absent_nil (keys_in columns)) e long).0

    -- of the rows of the keys, those with their flags set are kept
    pub kept-own : filter (λ (row : Row). is_of row.key) (all_kept (keys_in columns) flags rows)
        ≡ items_where_true flags (rows_in columns)
    kept-own = (kept_after is_of columns flags rows [] up of (absent_nil (keys_in columns)) e long).1

    -- as many rows go as flags are not set
    pub kept-count : length (all_kept (keys_in columns) flags rows) + count_by not flags ≡ length rows
    kept-count =
        let kept : List Row = all_kept (keys_in columns) flags rows in
        let a = both_counts (λ row. is_of row.key) kept in
        let b = both_counts (λ row. is_of row.key) rows in
        let own = ap length kept-own in
        let others = ap length (kept-others is_of (keys_in columns) flags rows
        (All-map (λ key. is_of key ≡ true) (λ (one : KeyCells). one.key) columns of)) in
        let c = flag_counts flags (rows_in columns) long in
        let d = length-filter not flags in
        let g = ap length e in
        omega arith

-- only rows that were there are kept
pub kept-within : (keys : List (List ℕ)) (flags : List Bool) (rows : List Row) (row : Row)
    → Contains (all_kept keys flags rows) row → Contains rows row
kept-within [] flags rows row i = i
kept-within (key ∷ keys) flags rows row i =
    let n = length (rows_with key rows) in
    let some = kept_by_flags key (take n flags) rows in
    flagged-Contains some.0 rows row (subst (λ (rows : List Row). Contains rows row) some.1
    (kept-within keys (drop n flags) (rows_kept key (take n flags) rows) row i))

-- what a plan of some columns does
pub part-vacuum : (part : PartPlan) (old new : List Row) (after : List ℕ) (limit : ℕ) (report : Report)
    → IsPartOf part old after limit → new ≡ all_kept part.keys.items part.plan.keep old → report ≡ report_of part.plan
    → IsPartVacuum old new (in_part after part.end) report
part-vacuum part old new after limit report h is made =
    let columns : List KeyCells = h.columns in
    let keep : List Bool = part.plan.keep in
    let is_of : List ℕ → Bool = in_part after (part_end after limit columns) in
    let own = kept-own is_of columns keep old h.next.ascend h.next.inside h.next.exact h.plan.each in
    let count = kept-count is_of columns keep old h.next.ascend h.next.inside h.next.exact h.plan.each in
    rw (h.end, is, h.keys, made) (record {
      row_set = kept-row_set (keys_in columns) keep old h.row_set;
      within = kept-within (keys_in columns) keep old;
      others = kept-others is_of (keys_in columns) keep old
          (All-map (λ key. is_of key ≡ true) (λ (one : KeyCells). one.key) columns h.next.inside);
      vacuumed = rw (h.next.exact, own) h.plan.vacuumed;
      kept = refl;
      bytes = rw own h.plan.cost;
      dropped = omega (arith, count);
    })

pub part-flags : (part : PartPlan) (old : List Row) (after : List ℕ) (limit : ℕ) → IsPartOf part old after limit
    → HaveFlags part.keys.items part.plan.keep old
part-flags part old after limit h =
    rw h.keys (have-flags (in_part after (part_end after limit h.columns)) h.columns part.plan.keep old h.next.ascend
    h.next.inside h.next.exact h.plan.each)

-- the end of a part by its keys
pub end-last : (after : List ℕ) (columns : List KeyCells) (i : ℕ) (d : List ℕ) → length (keys_in columns) ≡ suc i
    → get_or (keys_in columns) i d ≡ last_key after columns
end-last after [] i d long = absurd (omega (arith, long))
end-last after (one ∷ []) zero d long = refl
end-last after (one ∷ []) (suc i) d long = absurd (omega (arith, long))
end-last after (one ∷ two ∷ columns) zero d long = absurd (omega (arith, long))
end-last after (one ∷ two ∷ columns) (suc i) d long = end-last one.key (two ∷ columns) i d (omega (arith, long))

pub end-copied : (after : List ℕ) (limit : ℕ) (columns : List KeyCells) (keys : List (List ℕ)) (copy : List ℕ)
    → keys ≡ keys_in columns → limit ≤ length keys → (length keys ≡ 0 → ⊥)
    → copy ≡ get_or keys (length keys - 1) copy → Some copy ≡ part_end after limit columns
end-copied after limit columns keys copy is enough some read =
    let long : length keys ≡ length columns = ap length is ∙ length-map columns (λ (one : KeyCells). one.key) in
    let last : copy ≡ last_key after columns =
    read ∙ ap (λ ks. get_or ks (length ks - 1) copy) is
    ∙ end-last after columns (length (keys_in columns) - 1) copy
    (let n = ap length is in omega (arith, n, some)) in
    ap Some last
    ∙ ap (λ b. cond b None (Some (last_key after columns)))
    (sym (le-ltb (length columns) limit (omega (arith, enough, long))))

-- one more key
pub flags-step : (keys : List (List ℕ)) (i : ℕ) (key : List ℕ) (left : List Bool) (now : List Row) → i < length keys
    → key ≡ get_or keys i key → HaveFlags (drop i keys) left now
    → (length (rows_with key now) ≤ length left)
    × HaveFlags (drop (i + 1) keys) (drop (length (rows_with key now)) left)
    (rows_kept key (take (length (rows_with key now)) left) now)
flags-step keys i key left now lt read enough =
    subst (λ ks. HaveFlags ks left now) (drop_more keys i key lt ∙ ap (λ k. k ∷ drop (i + 1) keys) (sym read)) enough

pub kept-step : (keys : List (List ℕ)) (i : ℕ) (key : List ℕ) (left : List Bool) (now : List Row) → i < length keys
    → key ≡ get_or keys i key
    → all_kept (drop i keys) left now
    ≡ all_kept (drop (i + 1) keys) (drop (length (rows_with key now)) left)
    (rows_kept key (take (length (rows_with key now)) left) now)
kept-step keys i key left now lt read =
    ap (λ ks. all_kept ks left now) (drop_more keys i key lt ∙ ap (λ k. k ∷ drop (i + 1) keys) (sym read))
