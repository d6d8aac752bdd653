-- The test of two answers is true exactly if they are equal.
use Rattle.std.proofs.Common.{◌≡◌, ℕ, List, true, true≢false, Option, Some, None, refl, sym, ap}
use Rattle.std.proofs.lemmas.{Option.none-some, Option.same_Some, Slice.Eq.bytes_eq-Decides}
use Rattle.hlc_witness.specs.AllChanges.{is_same_answer}

pub same_answer_true : (a b : Option (List ℕ)) → is_same_answer a b ≡ true → a ≡ b
same_answer_true None None h = refl
same_answer_true None (Some y) h = absurd (true≢false (sym h))
same_answer_true (Some x) None h = absurd (true≢false (sym h))
same_answer_true (Some x) (Some y) h = ap Some ((bytes_eq-Decides x y).0 h)

pub same_answer_from : (a b : Option (List ℕ)) → a ≡ b → is_same_answer a b ≡ true
same_answer_from None None h = refl
same_answer_from None (Some y) h = absurd (none-some y h)
same_answer_from (Some x) None h = absurd (none-some x (sym h))
same_answer_from (Some x) (Some y) h = (bytes_eq-Decides x y).1 (same_Some x y h)
