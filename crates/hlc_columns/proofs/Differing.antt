-- The differences of columns in turn are those of the table, since no other column has the key.
use Rattle.std.proofs.Common.{◌≡◌, ◌≢◌, ◌∙◌, ℕ, List, [], Option, Some, None, refl, sym, ap, ap₂, subst, inl, inr}
use Rattle.std.proofs.Common.{Contains}
use Rattle.std.specs.List.Sorted.{IsStrictlySortedBy}
use Rattle.std.proofs.lemmas.{Bool.cases_Bool, Option.none-some, Option.same_Some}
use Rattle.hlc_rows.specs.{declared.row.Row.Row, Rows.answer}
use Rattle.hlc_table_index.specs.Entries.{key_cmp}
use Rattle.hlc_columns.specs.{Table.table_rows, Answers.IsBetween}
use Rattle.hlc_columns.specs.Differences.{Difference, AreDifferences, is_same, difference_of, differences_in}
use Rattle.hlc_columns.proofs.Answered.{own, alone, answered}
use Rattle.hlc_columns.proofs.{Keys.names, WalkLemmas.Entry, SameLemmas.other_is, SameLemmas.apart_is}
use Rattle.hlc_columns.proofs.Paired.{pair_from, pair_in, pairs_ascend}
use Rattle.hlc_columns.proofs.Ranged.{within, sorted_within, from_within, is_within, any_between}

-- there is a difference where the first answer is another, and it is the second
difference_is : (before after value : Option (List ℕ)) → difference_of before after ≡ Some value
    → (after ≡ value) × (before ≢ after)
difference_is before after value is = elim (cases_Bool (is_same before after)) [
  | inl t ↦ absurd (none-some value (rw t at is))
  | inr f ↦ (same_Some after value (rw f at is), other_is before after f)
]

-- a key whose answers differ has an entry
entry_either : (es : List Entry) (key : List ℕ) (from to : ℕ) (before after : Option (List ℕ))
    → answer (table_rows es) key from ≡ before → answer (table_rows es) key to ≡ after → before ≢ after
    → (e : Entry) × Contains es e × (e.0 ≡ key)
entry_either es key from to None None p q apart = absurd (apart refl)
entry_either es key from to (Some value) after p q apart = answered es key value from p
entry_either es key from to None (Some value) p q apart = answered es key value to q

-- ---- those of the columns in a range are the differences of the keys in it
pub differences_are : (es : List Entry) (from to : ℕ) (first : List ℕ) (end : Option (List ℕ))
    → IsStrictlySortedBy key_cmp (names es)
    → AreDifferences (table_rows es) from to (IsBetween first end) (differences_in (within first end es) from to)
differences_are es from to first end up = record {
  ascending = pairs_ascend (λ e. difference_of (own e from) (own e to)) (within first end es)
      (sorted_within first end es up);
  exact = λ key value. (
    λ m.
        let r = pair_from (λ e. difference_of (own e from) (own e to)) (within first end es) key value m in
        let is = difference_is (own r.0 from) (own r.0 to) value r.3 in
        let at = from_within first end es r.0 r.1 in (
          subst (IsBetween first end) r.2 at.1,
          subst (λ k. answer (table_rows es) k to ≡ value) r.2 (alone es up r.0 at.0 to ∙ is.0),
          subst (λ k. answer (table_rows es) k from ≢ value) r.2
              (λ same. is.1 (sym (alone es up r.0 at.0 from) ∙ same ∙ sym is.0)),
        ),
    λ (wanted, is, apart).
        let e = entry_either es key from to (answer (table_rows es) key from) value refl is apart in
        let at : (bound : ℕ) → answer (table_rows es) key bound ≡ own e.0 bound =
        λ bound. ap (λ k. answer (table_rows es) k bound) (sym e.2) ∙ alone es up e.0 e.1 bound in
        subst (Contains (differences_in (within first end es) from to))
        (ap₂ (λ k v. (k, v)) e.2 (sym (at to) ∙ is))
        (pair_in (λ e. difference_of (own e from) (own e to)) (within first end es) e.0 (own e.0 to)
        (is_within first end es e.0 e.1 (subst (IsBetween first end) (sym e.2) wanted))
        (rw (apart_is (own e.0 from) (own e.0 to) (λ same. apart (at from ∙ same ∙ sym (at to) ∙ is))) refl)),
  );
}

-- those of the range of all keys are those of all keys
pub all_differ : (rows : List Row) (from to : ℕ) (differences : List Difference)
    → AreDifferences rows from to (IsBetween [] None) differences
    → AreDifferences rows from to (λ key. Unit {0}) differences
all_differ rows from to differences those = record {
  ascending = those.ascending;
  exact = λ key value. (
    λ m. let at = (those.exact key value).0 m in (tt, at.1, at.2),
    λ (any, is, apart). (those.exact key value).1 (any_between key, is, apart),
  );
}
