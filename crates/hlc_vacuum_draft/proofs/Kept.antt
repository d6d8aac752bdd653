-- Keeping the newest row at each change is enough. At a change the newest row is kept; if the answer does not change,
-- each kept row of the key was kept for an earlier point, so the answer of the kept rows does not change either. And
-- each row kept at or below the last point is the newest at some change, so they are no more than the changes; and no
-- fewer, since each change forces a row.
use Rattle.std.proofs.Common.{Contains, true≢false, sum_by, Option, Some, None, length, get_or, refl, sym, ap, ◌∙◌}
use Rattle.std.proofs.Common.{subst, ◌⊎◌, inl, inr, arith, leb, bytes_eq, ◌≡◌, ◌≢◌, ℕ, ◌≤◌, List, suc, ◌-◌, ◌<◌, zero}
use Rattle.std.proofs.lemmas.Bool.{cases_Bool, cases_lt, cases_order, leb-true}
use Rattle.std.proofs.lemmas.List.{get_or_default, Elements.All-contains, Elements.Contains-get_or}
use Rattle.std.proofs.lemmas.{Option.none-some, Option.same_Some, Slice.Eq.bytes_eq-Decides}
use Rattle.hlc_values.proofs.MemberLemmas.{Contains-from_filter}
use Rattle.hlc_values.proofs.PigeonLemmas.{served, sum_by_one}
use Rattle.hlc_clock.specs.Points.{IsPointBefore, PointsAscend, last_point}
use Rattle.hlc_rows.specs.{Rows.IsSameVersion, Rows.newest, Rows.answer, declared.row.Row.Row}
use Rattle.hlc_rows.proofs.NewestLemmas.{newest_is_greatest, no_later_stamp, answer_none, answer_some, answer_stays}
use Rattle.hlc_witness.specs.Changes.{AreChanges, IsChange, answer_at}
use Rattle.hlc_witness.specs.{Fewest.Alike, declared.witness.Witness.Witness}
use Rattle.hlc_vacuum_draft.specs.Vacuumed.{rows_to, KeepsNewest}
use Rattle.hlc_witness.proofs.ChangeLemmas.{changes_force_rows}
use Rattle.hlc_vacuum_draft.proofs.PartLemmas.{apart_rows, newest_in_part, none_in_part, answer-rows_to}
use Rattle.hlc_witness.proofs.PlaceLemmas.{first_point, next_point, before_one, last_upper}
use Rattle.hlc_table_column.proofs.FlagLemmas.{filter-IsRowSet}

-- answers are equal or not
equal_or_not : (a b : Option (List ℕ)) → (a ≡ b) ⊎ (a ≢ b)
equal_or_not None None = inl refl
equal_or_not None (Some y) = inr (λ e. none-some y e)
equal_or_not (Some x) None = inr (λ e. none-some x (sym e))
equal_or_not (Some x) (Some y) =
    elim (cases_Bool (bytes_eq x y)) [
      | inl t ↦ inl (ap Some ((bytes_eq-Decides x y).0 t))
      | inr f ↦ inr (λ e. true≢false (sym ((bytes_eq-Decides x y).1 (same_Some x y e)) ∙ f))
    ]

module _ (rows : List Row) (points : List ℕ) (changes : List Witness)
    (kept : List Row) (ascend : PointsAscend points) (are : AreChanges rows points changes)
    (keeps : KeepsNewest rows points changes kept) where
  -- the change for which a row at or below a point was kept is at or below the point
  kept_for : (p : ℕ) (row : Row) → Contains points p → Contains kept row → row.stamp ≤ p
      → (c : Witness) × Contains changes c × (newest rows c.key c.at ≡ Some row) × (c.at ≤ p)
  kept_for p row point in_kept below =
      elim (keeps.needed row in_kept) [
        | inl above ↦ let h = last_upper points ascend p point in absurd (omega arith)
        | inr (c, i, e) ↦ (
          c,
          i,
          e,
          elim (cases_lt p c.at) [
            | inr le ↦ le
            | inl lt ↦
                let is : IsChange rows points c = All-contains (IsChange rows points) changes c are.each i in
                let best = newest_is_greatest rows c.key c.at row e in
                elim c.before as (λ b. IsPointBefore points b c.at
                → (answer rows c.key c.at ≢ answer_at rows c.key b) → c.at ≤ p) [
                  | None ↦ λ n d. let h = All-contains (λ q. c.at ≤ q) points p n point in absurd (omega arith)
                  | Some b ↦ λ n d.
                      let h = All-contains (λ q. q < c.at → q ≤ b) points p n.2 point lt in
                      absurd (d (answer_stays rows c.key b c.at (omega (arith, n.1))
                      (λ r j k s. let t = no_later_stamp r row (best.greatest r j k s) in omega arith)))
                ] is.place.neighbour is.differs
          ],
        )
      ]

  -- at a change the newest row is kept
  kept_at : (c : Witness) → IsChange rows points c → answer kept c.key c.at ≡ answer rows c.key c.at
  kept_at c is =
      elim (newest rows c.key c.at) as (λ o. newest rows c.key c.at ≡ o
      → answer kept c.key c.at ≡ answer rows c.key c.at) [
        | None ↦ λ e. answer_none kept c.key c.at (none_in_part kept rows c.key c.at keeps.within e)
            ∙ sym (answer_none rows c.key c.at e)
        | Some row ↦ λ e.
            answer_some kept c.key c.at row (newest_in_part kept rows c.key c.at row keeps.row_set keeps.within
            (newest_is_greatest rows c.key c.at row e) (keeps.serves c row (are.every c is) e))
            ∙ sym (answer_some rows c.key c.at row e)
      ] refl

  -- if the answer does not change, each kept row of the key was kept for an earlier point
  kept_before : (k : List ℕ) (p : ℕ) (before : Option ℕ) → Contains points p → IsPointBefore points before p
      → answer rows k p ≡ answer_at rows k before → (u : Row) → Contains kept u → u.key ≡ k → u.stamp ≤ p
      → (q : ℕ) × Contains points q × (q < p) × (u.stamp ≤ q)
  kept_before k p before point is same u i key below =
      let f = kept_for p u point i below in
      let c : Witness = f.0 in
      let in_changes : Contains changes c = f.1 in
      let e : newest rows c.key c.at ≡ Some u = f.2 in
      let le : c.at ≤ p = f.3 in
      let change : IsChange rows points c = All-contains (IsChange rows points) changes c are.each in_changes in
      let n = newest_is_greatest rows c.key c.at u e in
      let keys : c.key ≡ k = sym n.of_key ∙ key in
      elim (cases_order c.at p) [
        | inl at_p ↦
            let b : c.before ≡ before = before_one points p c.before before
            (subst (IsPointBefore points c.before) at_p change.place.neighbour) is in
            absurd (change.differs (ap (λ x. answer rows x c.at) keys ∙ ap (answer rows k) at_p ∙ same
            ∙ ap (answer_at rows k) (sym b) ∙ ap (λ x. answer_at rows x c.before) (sym keys)))
        | inr (inl lt) ↦ (c.at, change.place.point, lt, n.in_bound)
        | inr (inr gt) ↦ absurd (omega arith)
      ]

  -- the same answers at each point, by its position
  alike_at : (k : List ℕ) (j : ℕ) → j < length points
      → answer kept k (get_or points j 0) ≡ answer rows k (get_or points j 0)
  alike_at k zero lt =
      let p : ℕ = get_or points 0 0 in
      let point : Contains points p = Contains-get_or points 0 0 lt in
      let is : IsPointBefore points None p = first_point points 0 p ascend lt refl refl in
      elim (equal_or_not (answer rows k p) None) [
        | inr differs ↦ kept_at (record { key = k; before = None; at = p })
            (record { place = record { point = point; neighbour = is }; differs = differs })
        | inl same ↦
            answer_none kept k p (elim (newest kept k p) as (λ o. newest kept k p ≡ o → o ≡ None) [
              | None ↦ λ _. refl
              | Some u ↦ λ f.
                  let n = newest_is_greatest kept k p u f in
                  let b = kept_before k p None point is same u n.member n.of_key n.in_bound in
                  let h = All-contains (λ q. p ≤ q) points b.0 is b.1 in
                  let l = b.2 in
                  absurd (omega arith)
            ] refl) ∙ sym same
      ]
  alike_at k (suc j) lt =
      let p : ℕ = get_or points (suc j) 0 in
      let q : ℕ = get_or points j 0 in
      let point : Contains points p = Contains-get_or points (suc j) 0 lt in
      let m : j < length points = omega arith in
      let is : IsPointBefore points (Some q) p = next_point points (suc j) p q ascend lt refl (omega arith)
      (ap (λ n. get_or points n 0) (let e : suc j - 1 ≡ j = omega arith in e)) in
      elim (equal_or_not (answer rows k p) (answer rows k q)) [
        | inr differs ↦ kept_at (record { key = k; before = Some q; at = p })
            (record { place = record { point = point; neighbour = is }; differs = differs })
        | inl same ↦
            answer_stays kept k q p (omega (arith, is.1)) (λ u i a l.
            let b = kept_before k p (Some q) point is same u i a l in
            let h = All-contains (λ r. r < p → r ≤ q) points b.0 is.2 b.1 b.2 in
            let m = b.3 in
            omega arith)
            ∙ alike_at k j m ∙ sym same
      ]

  pub kept_alike : Alike kept rows points
  kept_alike k p (j, l, e) =
      let f : get_or points j 0 ≡ p = get_or_default points j 0 p l ∙ e in
      ap (answer kept k) (sym f) ∙ alike_at k j l ∙ ap (answer rows k) f

  -- the kept rows at or below the last point
  abbrev low : List Row
  low = rows_to (last_point points) kept

  -- each was kept for a change
  low_for : (row : Row) → Contains low row → (c : Witness) × Contains changes c × (newest rows c.key c.at ≡ Some row)
  low_for row i =
      let h = Contains-from_filter (λ r. leb r.stamp (last_point points)) kept row i in
      elim (keeps.needed row h.0) [
        | inl above ↦ let l = leb-true row.stamp (last_point points) h.1 in absurd (omega arith)
        | inr f ↦ f
      ]

  low_alike : Alike low rows points
  low_alike k p i = answer-rows_to kept (last_point points) k p keeps.row_set (last_upper points ascend p i)
      ∙ kept_alike k p i

  pub low_count : length low ≡ length changes
  low_count =
      let a : sum_by (λ _. 1) low ≤ sum_by (λ _. 1) changes =
      served (λ (a b : Row). IsSameVersion a b → ⊥)
      (λ (row : Row) (c : Witness). newest rows c.key c.at ≡ Some row) (λ _. 1) (λ _. 1)
      (λ row c h. omega arith)
      (λ a b c d h k. let e = same_Some a b (sym h ∙ k) in d (record {
        key = ap (λ (r : Row). r.key) e;
        stamp = ap (λ (r : Row). r.stamp) e;
        node = ap (λ (r : Row). r.node) e;
      }))
      low changes
      (apart_rows low (filter-IsRowSet (λ r. leb r.stamp (last_point points)) kept keeps.row_set)) low_for in
      let b : length changes ≤ length low =
      changes_force_rows rows low points changes are.ascend are.each low_alike in
      let c = sum_by_one low in
      let d = sum_by_one changes in
      omega arith
