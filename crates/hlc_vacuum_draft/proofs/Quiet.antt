-- If no row is between two points, the answer does not change, so there is no change.
use Rattle.std.proofs.Common.{◌≡◌, ◌<◌, ◌≤◌, ◌+◌, ◌⊎◌, ◌∙◌, ℕ, zero, suc, List, [], ◌∷◌, length, map, drop, get_or}
use Rattle.std.proofs.Common.{slice_get, Contains, Option, Some, None, sym, ap, refl, subst, inl, inr, arith, IfSome}
use Rattle.std.proofs.Common.{length-drop, get_or-drop}
use Rattle.std.proofs.lemmas.Option.{none-some, same_Some, slice_get-get_or}
use Rattle.std.proofs.lemmas.List.{get_or_default, Elements.All-get_or, Elements.Contains-get_or}
use Rattle.hlc_clock.specs.Points.{PointsAscend, last_point}
use Rattle.hlc_rows.specs.{declared.row.Row.Row, Rows.newest, Rows.answer}
use Rattle.hlc_rows.proofs.NewestLemmas.{newest_is_greatest, answer_none, answer_stays}
use Rattle.hlc_table_column.specs.{Cells.Cell, Rows.row_of, Rows.rows_of}
use Rattle.hlc_witness.specs.{Changes.answer_at, AllChanges.key_changes}
use Rattle.hlc_witness.proofs.PlaceLemmas.{rising, last_upper}
use Rattle.hlc_vacuum_draft.{specs.Gaps.NoneBetween, proofs.SoFar.point_before, proofs.Steps.none_more}

-- each row is at or below the point before, or at or above the next stamp
abbrev pub IsQuiet : List Row → Option ℕ → ℕ → Type 0
IsQuiet rows None next = (row : Row) → Contains rows row → next ≤ row.stamp
IsQuiet rows (Some before) next = (row : Row) → Contains rows row → (row.stamp ≤ before) ⊎ (next ≤ row.stamp)

-- below the next stamp the answer is that at the point before
pub quiet_answer : (rows : List Row) (key : List ℕ) (before : Option ℕ) (next p : ℕ) → IsQuiet rows before next
    → p < next → IfSome before (λ b. b ≤ p) → answer rows key p ≡ answer_at rows key before
quiet_answer rows key None next p quiet lt le =
    elim (newest rows key p) as (λ o. newest rows key p ≡ o → answer rows key p ≡ None) [
      | None ↦ λ e. answer_none rows key p e
      | Some v ↦ λ e. let is = newest_is_greatest rows key p v e in
          let a = quiet v is.member in let b = is.in_bound in absurd (omega arith)
    ] refl
quiet_answer rows key (Some b) next p quiet lt le =
    answer_stays rows key b p le (λ row i own upto. elim (quiet row i) [
      | inl low ↦ low
      | inr high ↦ absurd (omega arith)
    ])

-- from such a point on there is no row either
pub quiet_on : (rows : List Row) (before : Option ℕ) (next p : ℕ) → IsQuiet rows before next
    → IfSome before (λ b. b ≤ p) → IsQuiet rows (Some p) next
quiet_on rows None next p quiet le = λ row i. inr (quiet row i)
quiet_on rows (Some b) next p quiet le = λ row i. elim (quiet row i) [
  | inl low ↦ inl (omega arith)
  | inr high ↦ inr high
]

-- the point before one is below it and the later ones
pub before_below : (points : List ℕ) (i j : ℕ) → PointsAscend points → i ≤ j → j < length points
    → IfSome (point_before points i) (λ b. b ≤ get_or points j 0)
before_below points zero j rise le lt = tt
before_below points (suc i) j rise le lt = let h = rising points rise i j (omega arith) lt in omega arith

-- the stamp of a row is that of its cell
stamp_at : (key : List ℕ) (cells : List Cell) (k : ℕ) (row : Row) → slice_get (rows_of key cells) k ≡ Some row
    → (k < length (map (λ (c : Cell). c.stamp) cells)) × (get_or (map (λ (c : Cell). c.stamp) cells) k 0 ≡ row.stamp)
stamp_at key [] k row e = absurd (none-some row e)
stamp_at key (c ∷ cs) zero row e = (omega arith, ap (λ (r : Row). r.stamp) (same_Some (row_of key c) row e))
stamp_at key (c ∷ cs) (suc k) row e = let h = stamp_at key cs k row e in let l = h.0 in (omega arith, h.1)

-- a gap among the stamps of the cells is one among the stamps of the rows
row_apart : (key : List ℕ) (cells : List Cell) (stamps : List ℕ) (from next : ℕ)
    → stamps ≡ map (λ (c : Cell). c.stamp) cells → NoneBetween stamps from next
    → (row : Row) → Contains (rows_of key cells) row → (row.stamp < from) ⊎ (next ≤ row.stamp)
row_apart key cells stamps from next is apart row (k, l, e) =
    let at : slice_get (rows_of key cells) k ≡ Some row = slice_get-get_or (rows_of key cells) k row l ∙ ap Some e in
    let here = stamp_at key cells k row at in
    let same : get_or stamps k 0 ≡ row.stamp = ap (λ ss. get_or ss k 0) is ∙ here.1 in
    let within : k < length stamps = subst (λ ss. k < length ss) (sym is) here.0 in
    subst (λ s. (s < from) ⊎ (next ≤ s)) same
    (All-get_or (λ s. (s < from) ⊎ (next ≤ s)) stamps k 0 within apart)

-- the gap that begins just above a point
pub quiet_from : (key : List ℕ) (cells : List Cell) (stamps : List ℕ) (from next p : ℕ)
    → stamps ≡ map (λ (c : Cell). c.stamp) cells → from ≤ p + 1 → NoneBetween stamps from next
    → IsQuiet (rows_of key cells) (Some p) next
quiet_from key cells stamps from next p is le apart = λ row i.
    elim (row_apart key cells stamps from next is apart row i) [
      | inl low ↦ inl (omega arith)
      | inr high ↦ inr high
    ]

-- the gap before all rows
pub quiet_first : (key : List ℕ) (cells : List Cell) (stamps : List ℕ) (next : ℕ)
    → stamps ≡ map (λ (c : Cell). c.stamp) cells → NoneBetween stamps 0 next → IsQuiet (rows_of key cells) None next
quiet_first key cells stamps next is apart = λ row i.
    elim (row_apart key cells stamps 0 next is apart row i) [
      | inl low ↦ absurd (omega arith)
      | inr high ↦ high
    ]

-- if the gap extends beyond the last point, no change is left
pub quiet_rest : (rows : List Row) (key points : List ℕ) (i next : ℕ) → PointsAscend points
    → IsQuiet rows (point_before points i) next → last_point points < next
    → key_changes rows key (point_before points i) (drop i points) ≡ []
quiet_rest rows key points i next rise quiet past =
    none_more rows key (point_before points i) (drop i points) (λ p (k, l, e).
    let drops = length-drop i points in
    let within : i + k < length points = omega arith in
    let at : get_or points (i + k) 0 ≡ p =
    get_or_default points (i + k) 0 p within ∙ sym (get_or-drop i points k p) ∙ e in
    let most = last_upper points rise p (subst (Contains points) at (Contains-get_or points (i + k) 0 within)) in
    quiet_answer rows key (point_before points i) next p quiet (omega arith)
    (subst (λ q. IfSome (point_before points i) (λ b. b ≤ q)) at
    (before_below points i (i + k) rise (omega arith) within)))
