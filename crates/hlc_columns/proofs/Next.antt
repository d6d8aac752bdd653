-- The first columns above a key are all those of a range of keys.
use Rattle.std.proofs.Common.{◌≡◌, ◌≢◌, ℕ, zero, suc, ◌<◌, ◌≤◌, Bool, true, false, cond, List, not, ltb-true}
use Rattle.std.proofs.Common.{append-nil, take-append-drop, [], ◌∷◌, ◌++◌, refl, sym, ap, ap₂, ◌∙◌, inl, inr, arith}
use Rattle.std.proofs.Common.{take, drop, filter, length, subst, All, Some, None, Option, Ordering, Less, Equal}
use Rattle.std.proofs.Common.{Greater, ltb, ◌&&◌, get_or}
use Rattle.std.specs.{Ordering.is_gt, Ordering.ordering_reverse, Cmp.Lexicographic.nat_list_cmp_total}
use Rattle.std.{specs.List.AllByRecursion, specs.List.Sorted.IsStrictlySortedBy, proofs.lemmas.Bool.cases_Bool}
use Rattle.std.proofs.lemmas.List.{length-map, Elements.All-from_recursion, Elements.All-nil, Elements.All-cons}
use Rattle.std.proofs.lemmas.List.{Elements.filter-append, Elements.All-map, Elements.All-take, Elements.All-weaker}
use Rattle.hlc_rows.specs.declared.row.Row.{Row}
use Rattle.hlc_table_index.specs.Entries.{keys_in, key_cmp}
use Rattle.hlc_table_index.proofs.SlotLemmas.{itself}
use Rattle.hlc_table_column.specs.Rows.{KeyCells, KeysAscend}
use Rattle.hlc_columns.{specs.Table.table_rows, specs.Table.keyed, proofs.Listed.ascend_from, proofs.Listed.ascend_upto}
use Rattle.hlc_columns.specs.Answers.{AreAbove, AreNext, in_part, is_upto, part_end, last_key}
use Rattle.hlc_columns.proofs.{Keys.rows_keyed, Keys.keys_keyed, KeptOf.all_left, KeptOf.all_right}
use Rattle.hlc_columns.proofs.WalkLemmas.{Entry, one_of, rows_both, rows_filtered, filter_all, filter_none}

-- the rows of columns whose keys all are of a kind, or none of them
pub pass_all : (is_of : List ℕ → Bool) (es : List Entry) → All (λ e. is_of e.0 ≡ true) es
    → filter (λ row. is_of row.key) (table_rows es) ≡ table_rows es
pass_all is_of es all = rows_filtered is_of es ∙ ap table_rows (filter_all (λ (e : Entry). is_of e.0) es all)

pub pass_none : (is_of : List ℕ → Bool) (es : List Entry) → All (λ e. is_of e.0 ≡ false) es
    → filter (λ row. is_of row.key) (table_rows es) ≡ []
pass_none is_of es none = rows_filtered is_of es ∙ ap table_rows (filter_none (λ (e : Entry). is_of e.0) es none)

-- the last key of ascending columns
below_last : (k other : List ℕ) (e : Entry) (es : List Entry)
    → AllByRecursion (λ x. key_cmp k x ≡ Less) (keys_in (e ∷ es)) → key_cmp k (last_key other (keyed (e ∷ es))) ≡ Less
below_last k other e [] h = h.0
below_last k other e (f ∷ es) h = below_last k e.0 f es h.1

first_upto : (e : Entry) (es : List Entry) → AllByRecursion (λ x. key_cmp e.0 x ≡ Less) (keys_in es)
    → is_gt (key_cmp e.0 (last_key e.0 (keyed es))) ≡ false
first_upto e [] h = ap is_gt (itself e.0)
first_upto e (f ∷ es) h = ap is_gt (below_last e.0 e.0 f es h)

upto_last : (key : List ℕ) (es : List Entry) → IsStrictlySortedBy key_cmp (keys_in es)
    → All (λ e. is_gt (key_cmp e.0 (last_key key (keyed es))) ≡ false) es
unfolding IsStrictlySortedBy
upto_last key [] up = All-nil (λ (e : Entry). is_gt (key_cmp e.0 (last_key key (keyed []))) ≡ false)
upto_last key (e ∷ es) up =
    All-cons (λ (x : Entry). is_gt (key_cmp x.0 (last_key e.0 (keyed es))) ≡ false) e es (first_upto e es up.0)
    (upto_last e.0 es up.1)

over_last : (key : List ℕ) (es more : List Entry) → IsStrictlySortedBy key_cmp (keys_in (es ++ more))
    → All (λ e. key_cmp e.0 key ≡ Greater) more → All (λ e. key_cmp e.0 (last_key key (keyed es)) ≡ Greater) more
unfolding IsStrictlySortedBy
over_last key [] more up over = over
over_last key (e ∷ es) more up over =
    over_last e.0 es more up.1
    (All-from_recursion (λ (x : Entry). key_cmp x.0 e.0 ≡ Greater) more (go es up.0))
  where
    last : (ms : List Entry) → AllByRecursion (λ k. key_cmp e.0 k ≡ Less) (keys_in ms)
        → AllByRecursion (λ (x : Entry). key_cmp x.0 e.0 ≡ Greater) ms
    last [] h = tt
    last (m ∷ ms) h = (nat_list_cmp_total.antisymm m.0 e.0 ∙ ap ordering_reverse h.0, last ms h.1)

    go : (es : List Entry) → AllByRecursion (λ k. key_cmp e.0 k ≡ Less) (keys_in (es ++ more))
        → AllByRecursion (λ (x : Entry). key_cmp x.0 e.0 ≡ Greater) more
    go [] h = last more h
    go (d ∷ ds) h = go ds h.1

take_few : (n : ℕ) (es : List Entry) → length (take n es) ≤ n
take_few zero es = omega arith
take_few (suc n) [] = omega arith
take_few (suc n) (e ∷ es) = let rest = take_few n es in omega (arith, rest)

-- what is left if fewer were taken
drop_none : (n : ℕ) (es : List Entry) → length (take n es) < n → drop n es ≡ []
drop_none zero es lt = absurd (omega (arith, lt))
drop_none (suc n) [] lt = refl
drop_none (suc n) (e ∷ es) lt = drop_none n es (omega (arith, lt))

not_greater_gt : (o : Ordering) → o ≢ Greater → is_gt o ≡ false
not_greater_gt Less ne = refl
not_greater_gt Equal ne = refl
not_greater_gt Greater ne = absurd (ne refl)

module _ (key : List ℕ) (limit : ℕ) (above : List Entry) (over : All (λ e. key_cmp e.0 key ≡ Greater) above)
    (up : IsStrictlySortedBy key_cmp (keys_in above)) where
  abbrev first : List Entry
  first = take limit above

  abbrev rest : List Entry
  rest = drop limit above

  abbrev end : Option (List ℕ)
  end = part_end key limit (keyed first)

  parts : above ≡ first ++ rest
  parts = sym (take-append-drop limit above)

  over_parts : All (λ e. key_cmp e.0 key ≡ Greater) (first ++ rest)
  over_parts = subst (All (λ (e : Entry). key_cmp e.0 key ≡ Greater)) parts over

  up_parts : IsStrictlySortedBy key_cmp (keys_in (first ++ rest))
  up_parts = subst (λ es. IsStrictlySortedBy key_cmp (keys_in es)) parts up

  first_up : IsStrictlySortedBy key_cmp (keys_in first)
  first_up = ascend_upto first rest up_parts

  upto_end : All (λ e. is_upto end e.0 ≡ true) first
  upto_end = elim (ltb (length (keyed first)) limit) as (λ b.
      All (λ (e : Entry). is_upto (cond b None (Some (last_key key (keyed first)))) e.0 ≡ true) first) [
        | true ↦ λ i d lt. refl
        | false ↦ All-weaker (λ (e : Entry). is_gt (key_cmp e.0 (last_key key (keyed first))) ≡ false)
            (λ e. is_upto (Some (last_key key (keyed first))) e.0 ≡ true) (λ e is. ap not is) first
            (upto_last key first first_up)
      ]

  pub first_inside : All (λ e. in_part key end e.0 ≡ true) first
  first_inside i d lt =
      ap₂ (λ a b. a && b)
      (ap is_gt (all_left (λ (e : Entry). key_cmp e.0 key ≡ Greater) first rest over_parts i d lt))
      (upto_end i d lt)

  rest_over : All (λ e. in_part key end e.0 ≡ false) rest
  rest_over = elim (cases_Bool (ltb (length (keyed first)) limit)) [
    | inl t ↦
        let few = ltb-true (length (keyed first)) limit t in
        let long = length-map first one_of in
        subst (All (λ (e : Entry). in_part key end e.0 ≡ false))
        (sym (drop_none limit above (omega (arith, few, long))))
        (All-nil (λ (e : Entry). in_part key end e.0 ≡ false))
    | inr f ↦ subst (λ b. All (λ (e : Entry). in_part key (cond b None (Some (last_key key (keyed first)))) e.0 ≡ false)
        rest) (sym f)
        (λ i d lt.
        let gt = over_last key first rest up_parts
        (all_right (λ (e : Entry). key_cmp e.0 key ≡ Greater) first rest over_parts) i d lt in
        ap₂ (λ a b. a && b)
        (ap is_gt (all_right (λ (e : Entry). key_cmp e.0 key ≡ Greater) first rest over_parts i d lt))
        (ap (λ o. not (is_gt o)) gt))
  ]

  pub above_exact : filter (λ row. in_part key end row.key) (table_rows above) ≡ table_rows first
  above_exact =
      ap (λ es. filter (λ (row : Row). in_part key end row.key) (table_rows es)) parts
      ∙ ap (filter (λ (row : Row). in_part key end row.key)) (rows_both first rest)
      ∙ filter-append (λ (row : Row). in_part key end row.key) (table_rows first) (table_rows rest)
      ∙ ap₂ (λ a b. a ++ b) (pass_all (in_part key end) first first_inside)
      (pass_none (in_part key end) rest rest_over) ∙ append-nil (table_rows first)

  pub next_few : length (keyed first) ≤ limit
  next_few = let few = take_few limit above in let long = length-map first one_of in omega (arith, few, long)

  pub next_ascend : KeysAscend (keyed first)
  next_ascend = keys_keyed first first_up

pub are_next : (es : List Entry) (key : List ℕ) (above : List Entry) → AreAbove es key above → (limit : ℕ)
    (columns : List KeyCells) → columns ≡ keyed (take limit above) → IsStrictlySortedBy key_cmp (keys_in es)
    → All (λ e. 0 < length e.1) es → AreNext (table_rows es) key limit columns
are_next es key above h limit columns is up filled =
    let up_whole : IsStrictlySortedBy key_cmp (keys_in (h.front ++ above)) =
    subst (λ es. IsStrictlySortedBy key_cmp (keys_in es)) h.whole up in
    let up_above = ascend_from h.front above up_whole in
    let some = subst (All (λ (e : Entry). 0 < length e.1)) h.whole filled in
    let some_above = all_right (λ (e : Entry). 0 < length e.1) h.front above some in
    let end : Option (List ℕ) = part_end key limit (keyed (take limit above)) in
    subst (AreNext (table_rows es) key limit) (sym is) (record {
      few = next_few key limit above h.all_above up_above;
      ascend = next_ascend key limit above h.all_above up_above;
      filled = All-map (λ (one : KeyCells). 0 < length one.cells) one_of (take limit above)
          (All-take (λ (e : Entry). 0 < length e.1) limit above some_above);
      inside = All-map (λ (one : KeyCells). in_part key end one.key ≡ true) one_of (take limit above)
          (first_inside key limit above h.all_above up_above);
      exact = ap (λ es. filter (λ (row : Row). in_part key end row.key) (table_rows es)) h.whole
          ∙ ap (filter (λ (row : Row). in_part key end row.key)) (rows_both h.front above)
          ∙ filter-append (λ (row : Row). in_part key end row.key) (table_rows h.front) (table_rows above)
          ∙ ap₂ (λ a b. a ++ b)
          (pass_none (in_part key end) h.front
          (λ i d lt. ap (λ b. b && is_upto end (get_or h.front i d).0)
          (not_greater_gt _ (h.not_above i d lt))))
          (above_exact key limit above h.all_above up_above) ∙ sym (rows_keyed (take limit above));
    })
