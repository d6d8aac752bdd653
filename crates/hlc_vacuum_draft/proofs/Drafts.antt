-- A draft: it begins with the flags of the rows above the bound, each change sets one more, and at the end it keeps the
-- newest row at each change, each row above the bound, and no other.
use Rattle.std.proofs.Common.{◌≡◌, ℕ, zero, suc, ◌+◌, ◌⊎◌, Contains, set, subst, refl, ◌<◌, Bool, true, false, List, []}
use Rattle.std.proofs.Common.{◌∷◌, ◌++◌, Some, None, length, map, get_or, sym, ap, ap₂, ◌∙◌, inl, inr, arith, ltb}
use Rattle.std.proofs.Common.{slice_get, ltb-true, lt-ltb, length-set, get_or-set_same, get_or-set_other}
use Rattle.std.proofs.Common.{get_or-append-add, length-append}
use Rattle.std.proofs.lemmas.{Bool.cases_eq, List.length-map, List.get_or_append_left}
use Rattle.std.proofs.lemmas.Option.{none-some, same_Some, slice_get_within, slice_get-get_or}
use Rattle.std.proofs.lemmas.List.Elements.{Contains-push_cases, Contains-append_left, Contains-append_right}
use Rattle.std.proofs.lemmas.List.Elements.{Contains-append_cases, Contains-push}
use Rattle.hlc_rows.specs.{declared.row.Row.Row, Rows.newest, Rows.IsRowSet}
use Rattle.hlc_witness.specs.declared.witness.Witness.{Witness}
use Rattle.hlc_clock.specs.Points.{last_point}
use Rattle.hlc_vacuum_draft.specs.{Vacuumed.KeepsNewest, Draft.IsDraft}
use Rattle.hlc_table_column.specs.{Cells.Cell, Rows.row_of, Rows.rows_of}
use Rattle.std.specs.List.{items_where_true}
use Rattle.hlc_values.proofs.MemberLemmas.{Contains-none}
use Rattle.hlc_table_column.proofs.FlagLemmas.{flagged-IsRowSet}
use Rattle.hlc_vacuum_draft.proofs.ChosenLemmas.{chosen_place, place_chosen, in_place}

-- the flag of a cell above a bound
flag_of : (key : List ℕ) (bound : ℕ) (cells : List Cell) (i : ℕ) (row : Row)
    → slice_get (rows_of key cells) i ≡ Some row
    → get_or (map (λ s. ltb bound s) (map (λ (c : Cell). c.stamp) cells)) i false ≡ ltb bound row.stamp
flag_of key bound [] i row e = absurd (none-some row e)
flag_of key bound (c ∷ cs) zero row e = ap (λ (w : Row). ltb bound w.stamp) (same_Some (row_of key c) row e)
flag_of key bound (c ∷ cs) (suc i) row e = flag_of key bound cs i row e

-- without a change the flags are those of the rows above the bound
pub draft-above : (key : List ℕ) (bound : ℕ) (cells : List Cell)
    → IsDraft (rows_of key cells) bound [] (map (λ s. ltb bound s) (map (λ (c : Cell). c.stamp) cells))
draft-above key bound cells = record {
  each = length-map (map (λ (c : Cell). c.stamp) cells) (λ s. ltb bound s) ∙ length-map cells (λ (c : Cell). c.stamp)
      ∙ sym (length-map cells (row_of key));
  above = λ place row e lt. flag_of key bound cells place row e ∙ lt-ltb bound row.stamp lt;
  serves = λ change row i. absurd (Contains-none change i);
  needed = λ place row e t. inl (ltb-true bound row.stamp (sym (flag_of key bound cells place row e) ∙ t));
}

-- one more change, whose newest row is marked
pub draft-marked : (rows : List Row) (bound : ℕ) (changes : List Witness) (keep : List Bool) (change : Witness)
    (place : ℕ) (row : Row) → IsDraft rows bound changes keep → slice_get rows place ≡ Some row
    → newest rows change.key change.at ≡ Some row → IsDraft rows bound (changes ++ change ∷ []) (set keep place true)
draft-marked rows bound changes keep change place row d is e =
    let l : place < length rows = slice_get_within rows place row is in
    let n = d.each in
    let stays : (j : ℕ) → get_or keep j false ≡ true → get_or (set keep place true) j false ≡ true =
    λ j t. elim (cases_eq j place) [
      | inl same ↦ ap (λ k. get_or (set keep place true) k false) same
          ∙ get_or-set_same keep place true false (omega arith)
      | inr other ↦ get_or-set_other keep place j true false other ∙ t
    ] in
    record {
      each = length-set keep place true ∙ d.each;
      above = λ j r at lt. stays j (d.above j r at lt);
      serves = λ c r i f. elim (Contains-push_cases changes change c i) [
        | inl old ↦ let h = d.serves c r old f in (h.0, h.1, stays h.0 h.2)
        | inr new ↦ (
          place,
          is ∙ sym e ∙ ap (λ (x : Witness). newest rows x.key x.at) new ∙ f,
          get_or-set_same keep place true false (omega arith),
        )
      ];
      needed = λ j r at t. elim (cases_eq j place) [
        | inl same ↦ inr (change, Contains-push changes change, e ∙ sym is ∙ ap (slice_get rows) (sym same) ∙ at)
        | inr other ↦ elim (d.needed j r at (sym (get_or-set_other keep place j true false other) ∙ t)) [
          | inl above ↦ inl above
          | inr (c, p, f) ↦ inr (c, Contains-append_left changes (change ∷ []) c p, f)
        ]
      ];
    }

-- one more change that has no newest row
pub draft-unmarked : (rows : List Row) (bound : ℕ) (changes : List Witness) (keep : List Bool) (change : Witness)
    → IsDraft rows bound changes keep → newest rows change.key change.at ≡ None
    → IsDraft rows bound (changes ++ change ∷ []) keep
draft-unmarked rows bound changes keep change d e = record {
  each = d.each;
  above = d.above;
  serves = λ c r i f. elim (Contains-push_cases changes change c i) [
    | inl old ↦ d.serves c r old f
    | inr new ↦ absurd (none-some r (sym e ∙ ap (λ (x : Witness). newest rows x.key x.at) new ∙ f))
  ];
  needed = λ j r at t. elim (d.needed j r at t) [
    | inl above ↦ inl above
    | inr (c, p, f) ↦ inr (c, Contains-append_left changes (change ∷ []) c p, f)
  ];
}

-- the rows that a draft of all changes keeps
pub draft-KeepsNewest : (rows : List Row) (points : List ℕ) (changes : List Witness) (keep : List Bool) → IsRowSet rows
    → IsDraft rows (last_point points) changes keep → KeepsNewest rows points changes (items_where_true keep rows)
draft-KeepsNewest rows points changes keep apart d = record {
  row_set = flagged-IsRowSet keep rows apart;
  within = λ row i. let h = chosen_place keep rows row i in in_place rows h.0 row h.1;
  above = λ row (i, l, e) lt. let at : slice_get rows i ≡ Some row = slice_get-get_or rows i row l ∙ ap Some e in
      place_chosen keep rows i row at (d.above i row at lt);
  serves = λ change row i e. let h = d.serves change row i e in place_chosen keep rows h.0 row h.1 h.2;
  needed = λ row i. let h = chosen_place keep rows row i in d.needed h.0 row h.1 h.2;
}

-- ---- two drafts, one after the other

at_left : {X : Type 0} (xs ys : List X) (i : ℕ) (x : X) → slice_get xs i ≡ Some x → slice_get (xs ++ ys) i ≡ Some x
at_left [] ys i x e = absurd (none-some x e)
at_left (z ∷ zs) ys zero x e = e
at_left (z ∷ zs) ys (suc i) x e = at_left zs ys i x e

at_right : {X : Type 0} (xs ys : List X) (j : ℕ) (x : X) → slice_get ys j ≡ Some x
    → slice_get (xs ++ ys) (length xs + j) ≡ Some x
at_right [] ys j x e = subst (λ k. slice_get ys k ≡ Some x) (let z : j ≡ 0 + j = omega arith in z) e
at_right (z ∷ zs) ys j x e = subst (λ k. slice_get (z ∷ zs ++ ys) k ≡ Some x)
    (let q : suc (length zs + j) ≡ length (z ∷ zs) + j = omega arith in q) (at_right zs ys j x e)

split_at : {X : Type 0} (xs ys : List X) (i : ℕ) (x : X) → slice_get (xs ++ ys) i ≡ Some x
    → (slice_get xs i ≡ Some x) ⊎ ((j : ℕ) × (i ≡ length xs + j) × (slice_get ys j ≡ Some x))
split_at [] ys i x e = inr (i, (let z : i ≡ 0 + i = omega arith in z), e)
split_at (z ∷ zs) ys zero x e = inl e
split_at (z ∷ zs) ys (suc i) x e = elim (split_at zs ys i x e) [
  | inl l ↦ inl l
  | inr r ↦ let k = r.1 in inr (r.0, (let q : suc i ≡ length (z ∷ zs) + r.0 = omega arith in q), r.2)
]

module _ (xs ys : List Row) (bound : ℕ) (cs ds : List Witness) (ks ms : List Bool) (first : IsDraft xs bound cs ks)
    (second : IsDraft ys bound ds ms)
    (firsts : (c : Witness) → Contains cs c → newest (xs ++ ys) c.key c.at ≡ newest xs c.key c.at)
    (seconds : (d : Witness) → Contains ds d → newest (xs ++ ys) d.key d.at ≡ newest ys d.key d.at) where
  flag_left : (i : ℕ) (row : Row) → slice_get xs i ≡ Some row → get_or (ks ++ ms) i false ≡ get_or ks i false
  flag_left i row e =
      let n = first.each in
      let l : i < length xs = slice_get_within xs i row e in
      get_or_append_left ks ms false i (omega arith)

  flag_right : (j : ℕ) → get_or (ks ++ ms) (length xs + j) false ≡ get_or ms j false
  flag_right j = ap (λ n. get_or (ks ++ ms) (n + j) false) (sym first.each) ∙ get_or-append-add ks ms j false

  pub draft-append : IsDraft (xs ++ ys) bound (cs ++ ds) (ks ++ ms)
  draft-append = record {
    each = length-append ks ms ∙ ap₂ (λ m n. m + n) first.each second.each ∙ sym (length-append xs ys);
    above = λ place row e lt. elim (split_at xs ys place row e) [
      | inl l ↦ flag_left place row l ∙ first.above place row l lt
      | inr r ↦ ap (λ i. get_or (ks ++ ms) i false) r.1 ∙ flag_right r.0 ∙ second.above r.0 row r.2 lt
    ];
    serves = λ change row i e. elim (Contains-append_cases cs ds change i) [
      | inl l ↦ let h = first.serves change row l (sym (firsts change l) ∙ e) in
          (h.0, at_left xs ys h.0 row h.1, flag_left h.0 row h.1 ∙ h.2)
      | inr r ↦ let h = second.serves change row r (sym (seconds change r) ∙ e) in
          (length xs + h.0, at_right xs ys h.0 row h.1, flag_right h.0 ∙ h.2)
    ];
    needed = λ place row e t. elim (split_at xs ys place row e) [
      | inl l ↦ elim (first.needed place row l (sym (flag_left place row l) ∙ t)) [
        | inl up ↦ inl up
        | inr (c, p, f) ↦ inr (c, Contains-append_left cs ds c p, firsts c p ∙ f)
      ]
      | inr r ↦ elim (second.needed r.0 row r.2 (sym (ap (λ i. get_or (ks ++ ms) i false) r.1 ∙ flag_right r.0) ∙ t)) [
        | inl up ↦ inl up
        | inr (d, p, f) ↦ inr (d, Contains-append_right cs ds d p, seconds d p ∙ f)
      ]
    ];
  }

pub draft-none : (bound : ℕ) → IsDraft [] bound [] []
draft-none bound = record {
  each = refl;
  above = λ place row e lt. absurd (none-some row e);
  serves = λ change row i. absurd (Contains-none change i);
  needed = λ place row e t. absurd (none-some row e);
}
