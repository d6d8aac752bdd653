-- The answers of columns in turn are those of the table, since no other column has the key.
use Rattle.std.proofs.Common.{◌≡◌, ◌++◌, ◌∷◌, ◌∙◌, ℕ, List, [], option_and_then, append_assoc, Option, Some, None, refl}
use Rattle.std.proofs.Common.{sym, ap, ap₂, reverse, subst, inl, inr, Contains}
use Rattle.std.{specs.List.Sorted.IsStrictlySortedBy, proofs.lemmas.List.reverse-append}
use Rattle.hlc_values.proofs.MemberLemmas.{Contains-none, Contains-first, Contains-rest, Contains-cons_cases}
use Rattle.hlc_values.proofs.MemberLemmas.{Contains-map}
use Rattle.hlc_rows.specs.{declared.row.Row.Row, Rows.newest, Rows.answer}
use Rattle.hlc_rows.proofs.NewestLemmas.{newest_is_greatest}
use Rattle.hlc_table_index.specs.Entries.{key_cmp}
use Rattle.hlc_table_column.specs.Rows.{rows_of}
use Rattle.hlc_columns.{specs.Table.table_rows, proofs.WalkLemmas.Entry, proofs.WalkLemmas.one_of}
use Rattle.hlc_columns.specs.Answers.{answers_in, pair_of, IsBetween, AreAnswers}
use Rattle.hlc_columns.proofs.{FoundLemmas.newest_alone, Keys.names, Keys.name_of_row}
use Rattle.hlc_columns.proofs.Paired.{pair_from, pair_in, pairs_ascend}
use Rattle.hlc_columns.proofs.Ranged.{within, sorted_within, from_within, is_within, any_between}

-- the answer of an entry's column alone
abbrev pub own : Entry → ℕ → Option (List ℕ)
own e bound = answer (rows_of e.0 e.1) e.0 bound

entry_of : (es : List Entry) (key : List ℕ) → Contains (names es) key → (e : Entry) × Contains es e × (e.0 ≡ key)
entry_of [] key m = absurd (Contains-none key m)
entry_of (e ∷ es) key m = elim (Contains-cons_cases e.0 key (names es) m) [
  | inl is ↦ (e, Contains-first e es, is)
  | inr there ↦ let r = entry_of es key there in (r.0, Contains-rest e r.0 es r.1, r.2)
]

-- ---- the answer of a column alone is that of the table
pub alone : (es : List Entry) → IsStrictlySortedBy key_cmp (names es) → (e : Entry) → Contains es e → (bound : ℕ)
    → answer (table_rows es) e.0 bound ≡ own e bound
alone es up e m bound =
    ap (option_and_then (λ (row : Row). row.value)) (newest_alone es up (one_of e) (Contains-map one_of es e m) bound)

some_row : (o : Option Row) (value : List ℕ) → option_and_then (λ (row : Row). row.value) o ≡ Some value
    → (row : Row) × (o ≡ Some row)
some_row None value is = absurd (cc)
some_row (Some row) value is = (row, refl)

-- a key with an answer has an entry
pub answered : (es : List Entry) (key value : List ℕ) (bound : ℕ) → answer (table_rows es) key bound ≡ Some value
    → (e : Entry) × Contains es e × (e.0 ≡ key)
answered es key value bound is =
    let top = some_row (newest (table_rows es) key bound) value is in
    let at = newest_is_greatest (table_rows es) key bound top.0 top.1 in
    entry_of es key (subst (Contains (names es)) at.of_key (name_of_row es top.0 at.member))

-- ---- from the last one on, they are the same from the last one on
answers_both : (es ds : List Entry) (bound : ℕ)
    → answers_in (es ++ ds) bound ≡ answers_in es bound ++ answers_in ds bound
answers_both [] ds bound = refl
answers_both (e ∷ es) ds bound =
    ap (λ l. pair_of e.0 (own e bound) ++ l) (answers_both es ds bound)
    ∙ sym (append_assoc (pair_of e.0 (own e bound)) (answers_in es bound) (answers_in ds bound))

one_pair : (key : List ℕ) (o : Option (List ℕ)) → pair_of key o ++ [] ≡ reverse (pair_of key o)
one_pair key None = refl
one_pair key (Some value) = refl

pub answers_reverse : (es : List Entry) (bound : ℕ) → answers_in (reverse es) bound ≡ reverse (answers_in es bound)
answers_reverse [] bound = refl
answers_reverse (e ∷ es) bound =
    ap (λ l. answers_in l bound) (reverse-append (e ∷ []) es) ∙ answers_both (reverse es) (e ∷ []) bound
    ∙ ap₂ (λ a b. a ++ b) (answers_reverse es bound) (one_pair e.0 (own e bound))
    ∙ sym (reverse-append (pair_of e.0 (own e bound)) (answers_in es bound))

-- ---- those of the columns in a range are the answers of the keys in it
pub answers_are : (es : List Entry) (bound : ℕ) (from : List ℕ) (to : Option (List ℕ))
    → IsStrictlySortedBy key_cmp (names es)
    → AreAnswers (table_rows es) bound (IsBetween from to) (answers_in (within from to es) bound)
answers_are es bound from to up = record {
  ascending = pairs_ascend (λ e. own e bound) (within from to es) (sorted_within from to es up);
  exact = λ key value. (
    λ m.
        let r = pair_from (λ e. own e bound) (within from to es) key value m in
        let at = from_within from to es r.0 r.1 in (
          subst (IsBetween from to) r.2 at.1,
          subst (λ k. answer (table_rows es) k bound ≡ Some value) r.2 (alone es up r.0 at.0 bound ∙ r.3),
        ),
    λ (wanted, is).
        let e = answered es key value bound is in
        let value_too : own e.0 bound ≡ Some value =
        sym (alone es up e.0 e.1 bound) ∙ ap (λ k. answer (table_rows es) k bound) e.2 ∙ is in
        subst (λ k. Contains (answers_in (within from to es) bound) (k, value)) e.2
        (pair_in (λ e. own e bound) (within from to es) e.0 value
        (is_within from to es e.0 e.1 (subst (IsBetween from to) (sym e.2) wanted)) value_too),
  );
}

-- those of the range of all keys are those of all keys
pub all_are : (rows : List Row) (bound : ℕ) (pairs : List (List ℕ × List ℕ))
    → AreAnswers rows bound (IsBetween [] None) pairs → AreAnswers rows bound (λ key. Unit {0}) pairs
all_are rows bound pairs those = record {
  ascending = those.ascending;
  exact = λ key value. (
    λ m. (tt, ((those.exact key value).0 m).1),
    λ (any, is). (those.exact key value).1 (any_between key, is),
  );
}
