-- Each change forces a row into any list that answers alike: the newest row there at the change's point is above the
-- point before, since otherwise the answer would not have changed. So it serves no other change.
use Rattle.std.proofs.Common.{Contains, nat_cmp, Less, Equal, Some, None, refl, sym, ap, ◌∙◌, inl, inr, arith, ◌≡◌, ◌≢◌}
use Rattle.std.proofs.Common.{ℕ, ◌≤◌, List, [], ◌∷◌, ◌<◌}
use Rattle.std.specs.{Cmp.Lexicographic.slice_cmp, Ordering.ordering_then}
use Rattle.std.proofs.lemmas.{Bool.cases_lt, Map.Keys.sorted_head, Map.Keys.sorted_tail}
use Rattle.std.proofs.lemmas.Cmp.{nat_list_cmp_total, tied_itself, ranked}
use Rattle.std.proofs.lemmas.List.Elements.{All-contains, All-from_recursion}
use Rattle.hlc_values.proofs.PigeonLemmas.{AreApart, Served}
use Rattle.hlc_clock.specs.Points.{IsPointBefore}
use Rattle.hlc_rows.specs.{Rows.newest, Rows.answer, Rows.IsNewest, declared.row.Row.Row}
use Rattle.hlc_rows.proofs.NewestLemmas.{newest_is_greatest, no_newest_no_row, no_later_stamp, answer_none, answer_some}
use Rattle.hlc_rows.proofs.NewestLemmas.{answer_stays}
use Rattle.hlc_witness.specs.Changes.{ChangesAscend, IsChange, change_cmp, answer_at}
use Rattle.hlc_witness.specs.{Fewest.Alike, declared.witness.Witness.Witness}

-- the row is of the change's key, above each earlier point and at or below its own, and has the changed value
pub record Serves (all : List Row) (points : List ℕ) (change : Witness) (row : Row) : Type 0 where
  pub key : row.key ≡ change.key
  pub value : row.value ≡ answer all change.key change.at
  pub point : Contains points change.at
  pub upto : row.stamp ≤ change.at
  pub above : (q : ℕ) → Contains points q → q < change.at → q < row.stamp

-- a change of all forces a row into others
pub forced : (all others : List Row) (points : List ℕ) (c : Witness) → IsChange all points c → Alike others all points
    → Served (Serves all points) others c
forced all others points c change alike =
    elim (newest others c.key c.at) as (λ o. newest others c.key c.at ≡ o → Served (Serves all points) others c) [
      | None ↦ λ e.
          elim c.before as (λ b. IsPointBefore points b c.at → (answer all c.key c.at ≢ answer_at all c.key b)
          → Served (Serves all points) others c) [
            | None ↦ λ n d. absurd (d (sym (alike c.key c.at change.place.point) ∙ answer_none others c.key c.at e))
            | Some q ↦ λ n d. absurd (d (sym (alike c.key c.at change.place.point)
                ∙ answer_stays others c.key q c.at (omega (arith, n.1))
                (λ w i a l. absurd (no_newest_no_row others c.key c.at w e i a l))
                ∙ alike c.key q n.0))
          ] change.place.neighbour change.differs
      | Some v ↦ λ e.
          let is : IsNewest others c.key c.at v = newest_is_greatest others c.key c.at v e in
          elim c.before as (λ b. IsPointBefore points b c.at → (answer all c.key c.at ≢ answer_at all c.key b)
          → Served (Serves all points) others c) [
            | None ↦ λ n d. (
              v,
              is.member,
              record {
                key = is.of_key;
                value = sym (answer_some others c.key c.at v e) ∙ alike c.key c.at change.place.point;
                point = change.place.point;
                upto = is.in_bound;
                above = λ q i l. let h = All-contains (λ r. c.at ≤ r) points q n i in absurd (omega arith);
              },
            )
            | Some b ↦ λ n d.
                let between : b < v.stamp =
                elim (cases_lt b v.stamp) [
                  | inl l ↦ l
                  | inr m ↦ absurd (d (sym (alike c.key c.at change.place.point)
                      ∙ answer_stays others c.key b c.at (omega (arith, n.1))
                      (λ w i a l. let f = no_later_stamp w v (is.greatest w i a l) in omega arith)
                      ∙ alike c.key b n.0))
                ] in (
                  v,
                  is.member,
                  record {
                    key = is.of_key;
                    value = sym (answer_some others c.key c.at v e) ∙ alike c.key c.at change.place.point;
                    point = change.place.point;
                    upto = is.in_bound;
                    above = λ q i l. let h = All-contains (λ r. r < c.at → r ≤ b) points q n.2 i l in omega arith;
                  },
                )
          ] change.place.neighbour change.differs
    ] refl

-- no row serves two changes
pub serves_once : (all : List Row) (points : List ℕ) (c d : Witness) (v : Row) → change_cmp c d ≡ Less
    → Serves all points c v → Serves all points d v → ⊥
serves_once all points c d v less s t =
    let keys : slice_cmp nat_cmp c.key d.key ≡ Equal = ap (slice_cmp nat_cmp c.key) (sym t.key ∙ s.key)
    ∙ tied_itself nat_list_cmp_total c.key in
    let ats : nat_cmp c.at d.at ≡ Less = ap (λ o. ordering_then o (nat_cmp c.at d.at)) (sym keys) ∙ less in
    let lt : c.at < d.at = ranked c.at d.at Less (sym ats) in
    let h = t.above c.at s.point lt in
    let l = s.upto in
    omega arith

-- ascending changes are apart
pub apart : (changes : List Witness) → ChangesAscend changes → AreApart (λ c d. change_cmp c d ≡ Less) changes
apart [] up = tt
apart (c ∷ changes) up = (
  λ d i. All-contains (λ e. change_cmp c e ≡ Less) changes d
      (All-from_recursion (λ e. change_cmp c e ≡ Less) changes (sorted_head change_cmp c changes up)) i,
  apart changes (sorted_tail change_cmp c changes up),
)
