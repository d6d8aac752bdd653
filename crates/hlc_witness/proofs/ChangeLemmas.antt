-- Changes: each forces a row into any list that answers alike, so rows that answer alike are at least as many as the
-- changes. The changes that are found key by key and point by point are all changes, and the only list of them; and
-- rows that are alike have the same changes.
use Rattle.std.proofs.Common.{Contains, All, nat_cmp, Less, Equal, sum_by, Some, None, length, sym, ◌∙◌, subst, arith}
use Rattle.std.proofs.Common.{◌≡◌, ◌≢◌, ℕ, ◌≤◌, List}
use Rattle.std.specs.{Cmp.Lexicographic.slice_cmp, List.Sorted.IsStrictlySortedBy}
use Rattle.std.proofs.lemmas.List.Elements.{All-contains, All-weaker}
use Rattle.std.proofs.lemmas.{Cmp.tied_itself, Map.Keys.Less-from_sorted}
use Rattle.hlc_values.proofs.SortedLemmas.{same_members}
use Rattle.hlc_values.proofs.PigeonLemmas.{served, sum_by_one}
use Rattle.hlc_clock.specs.Points.{IsPointBefore, PointsAscend}
use Rattle.hlc_rows.specs.{Rows.answer, declared.row.Row.Row}
use Rattle.hlc_witness.specs.AllChanges.{changes_of, keys_of, all_changes}
use Rattle.hlc_witness.specs.Changes.{AreChanges, ChangesAscend, IsChange, change_cmp, answer_at}
use Rattle.hlc_witness.specs.{Fewest.Alike, declared.witness.Witness.Witness}
use Rattle.hlc_witness.proofs.{Computed.keys_sorted, Computed.keys_every, Orders.change_cmp_total}
use Rattle.hlc_witness.proofs.Forced.{Serves, forced, serves_once, apart}
use Rattle.hlc_witness.proofs.ListedLemmas.{all_from, change_has_row, changes_each, changes_every, changes_sorted}

pub changes_force_rows : (all others : List Row) (points : List ℕ) (changes : List Witness)
    → ChangesAscend changes → All (IsChange all points) changes → Alike others all points
    → length changes ≤ length others
changes_force_rows all others points changes up each alike =
    let h : sum_by (λ _. 1) changes ≤ sum_by (λ _. 1) others =
    served (λ c d. change_cmp c d ≡ Less) (Serves all points) (λ _. 1) (λ _. 1)
    (λ c v s. omega arith)
    (serves_once all points) changes others (apart changes up)
    (λ c i. forced all others points c (All-contains (IsChange all points) changes c each i) alike) in
    let a = sum_by_one changes in
    let b = sum_by_one others in
    omega arith

pub changes_are_found_key_by_key : (rows : List Row) (points : List ℕ) (ks : List (List ℕ)) → PointsAscend points
    → IsStrictlySortedBy (slice_cmp nat_cmp) ks → ((v : Row) → Contains rows v → Contains ks v.key)
    → AreChanges rows points (changes_of rows points ks)
changes_are_found_key_by_key rows points ks rise up all = record {
  ascend = changes_sorted rows points rise ks up;
  each = all_from (IsChange rows points) (changes_of rows points ks) (λ c i. (changes_each rows points rise ks c i).0);
  every = λ c is. let v = change_has_row rows points c is in
      changes_every rows points rise ks c is (subst (Contains ks) v.2 (all v.0 v.1));
}

pub changes_are_computed : (rows : List Row) (points : List ℕ) → PointsAscend points
    → AreChanges rows points (all_changes rows points)
unfolding all_changes
changes_are_computed rows points rise =
    changes_are_found_key_by_key rows points (keys_of rows) rise (keys_sorted rows) (keys_every rows)

-- no change is before itself, so two ascending lists with the same changes are one
never_both : (c d : Witness) → change_cmp c d ≡ Less → change_cmp d c ≡ Less → ⊥
never_both c d up down =
    let e : Equal ≡ Less = sym (tied_itself change_cmp_total c) ∙ change_cmp_total.trans c d c up down in cc

changes_once : (rows : List Row) (points : List ℕ) (cs ds : List Witness) → AreChanges rows points cs
    → AreChanges rows points ds → cs ≡ ds
changes_once rows points cs ds a b =
    same_members (λ c d. change_cmp c d ≡ Less) never_both cs ds
    (λ i j d before within. Less-from_sorted change_cmp cs i j d a.ascend before within)
    (λ i j d before within. Less-from_sorted change_cmp ds i j d b.ascend before within)
    (λ c. (
      λ i. b.every c (All-contains (IsChange rows points) cs c a.each i),
      λ i. a.every c (All-contains (IsChange rows points) ds c b.each i),
    ))

pub changes_are_one : (rows : List Row) (points : List ℕ) (cs : List Witness) → PointsAscend points
    → AreChanges rows points cs → cs ≡ all_changes rows points
changes_are_one rows points cs rise are =
    changes_once rows points cs (all_changes rows points) are (changes_are_computed rows points rise)

-- a change of one is a change of the other, if they are alike
pub change_alike : (rows others : List Row) (points : List ℕ) (c : Witness) → Alike rows others points
    → IsChange rows points c → IsChange others points c
change_alike rows others points c alike is = record {
  place = is.place;
  differs = λ e.
      elim c.before as (λ b. IsPointBefore points b c.at → (answer rows c.key c.at ≢ answer_at rows c.key b)
      → answer others c.key c.at ≡ answer_at others c.key b → ⊥) [
        | None ↦ λ n d g. d (alike c.key c.at is.place.point ∙ g)
        | Some b ↦ λ n d g. d (alike c.key c.at is.place.point ∙ g ∙ sym (alike c.key b n.0))
      ] is.place.neighbour is.differs e;
}

pub changes_alike : (rows others : List Row) (points : List ℕ) (changes : List Witness) → Alike rows others points
    → AreChanges rows points changes → AreChanges others points changes
changes_alike rows others points changes alike are = record {
  ascend = are.ascend;
  each = All-weaker (IsChange rows points) (IsChange others points)
      (λ c is. change_alike rows others points c alike is) changes are.each;
  every = λ c is. are.every c (change_alike others rows points c (λ key point i. sym (alike key point i)) is);
}
