-- Two answers are the same, or not.
use Rattle.std.proofs.Common.{◌≡◌, ◌≢◌, ◌∙◌, ℕ, List, true, false, Option, Some, None, refl, sym, ap, inl, inr}
use Rattle.std.proofs.Common.{true≢false, ◌⊎◌}
use Rattle.std.proofs.lemmas.{Bool.cases_Bool, Bool.false_from_ne_true, Slice.Eq.bytes_eq-Decides}
use Rattle.hlc_columns.specs.Differences.{is_same}

same_is : (a b : Option (List ℕ)) → is_same a b ≡ true → a ≡ b
same_is None None h = refl
same_is (Some a) (Some b) h = ap (λ x. Some x) ((bytes_eq-Decides a b).0 h)
same_is a b h = absurd (true≢false (sym h))

same_itself : (a : Option (List ℕ)) → is_same a a ≡ true
same_itself None = refl
same_itself (Some a) = (bytes_eq-Decides a a).1 refl

pub other_is : (a b : Option (List ℕ)) → is_same a b ≡ false → a ≢ b
other_is a b f same = true≢false (sym (same_itself a) ∙ ap (is_same a) same ∙ f)

pub cases_same : (a b : Option (List ℕ)) → (a ≡ b) ⊎ (a ≢ b)
cases_same a b = elim (cases_Bool (is_same a b)) [
  | inl t ↦ inl (same_is a b t)
  | inr f ↦ inr (other_is a b f)
]

pub apart_is : (a b : Option (List ℕ)) → a ≢ b → is_same a b ≡ false
apart_is a b apart = false_from_ne_true (is_same a b) (λ t. apart (same_is a b t))
