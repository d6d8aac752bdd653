-- Taking and dropping from two lists, one after the other.
use Rattle.std.proofs.Common.{◌≡◌, ℕ, ◌+◌, ◌-◌, List, [], ◌++◌, length, take, drop, sym, ap, ◌∙◌, arith, inl, inr}
use Rattle.std.proofs.{lemmas.Bool.cases_lt, Math.Seq.take-append-add, Math.Seq.drop-append-add}
use Rattle.std.proofs.lemmas.List.{take-append-le, drop-append-le, take_all, drop_all, append-nil, length-take}

pub take_over : (n : ℕ) (xs ys : List ℕ) → take n (xs ++ ys) ≡ take n xs ++ take (n - length xs) ys
take_over n xs ys =
    elim (cases_lt (length xs) n) [
      | inl lt ↦
          let k : length xs + (n - length xs) ≡ n = omega arith in
          let whole : take n xs ≡ xs = take_all n xs (omega arith) in
          ap (λ (m : ℕ). take m (xs ++ ys)) (sym k) ∙ take-append-add xs ys (n - length xs)
          ∙ ap (λ (l : List ℕ). l ++ take (n - length xs) ys) (sym whole)
      | inr le ↦
          let none : 0 ≡ n - length xs = omega arith in
          take-append-le n xs ys le ∙ sym (append-nil (take n xs)) ∙ ap (λ (m : ℕ). take n xs ++ take m ys) none
    ]

pub drop_over : (n : ℕ) (xs ys : List ℕ) → drop n (xs ++ ys) ≡ drop n xs ++ drop (n - length xs) ys
drop_over n xs ys =
    elim (cases_lt (length xs) n) [
      | inl lt ↦
          let k : length xs + (n - length xs) ≡ n = omega arith in
          let nothing : drop n xs ≡ [] = drop_all n xs (omega arith) in
          ap (λ (m : ℕ). drop m (xs ++ ys)) (sym k) ∙ drop-append-add xs ys (n - length xs)
          ∙ ap (λ (l : List ℕ). l ++ drop (n - length xs) ys) (sym nothing)
      | inr le ↦
          let none : 0 ≡ n - length xs = omega arith in
          drop-append-le n xs ys le ∙ ap (λ (m : ℕ). drop n xs ++ drop m ys) none
    ]

-- taking from what was taken, and from what follows
pub take_again : (n : ℕ) (xs ys : List ℕ) → take n (take n xs ++ ys) ≡ take n (xs ++ ys)
take_again n xs ys =
    elim (cases_lt n (length xs)) [
      | inl lt ↦
          let len : length (take n xs) ≡ n = omega (arith, length-take n xs) in
          let same : take n (take n xs) ≡ take n xs = take_all n (take n xs) (omega (arith, len)) in
          take-append-le n (take n xs) ys (omega (arith, len)) ∙ same ∙ sym (take-append-le n xs ys (omega arith))
      | inr le ↦ ap (λ (l : List ℕ). take n (l ++ ys)) (take_all n xs le)
    ]

-- dropping after what was taken
pub drop_again : (n : ℕ) (xs ys : List ℕ) → drop n xs ++ drop (n - length (take n xs)) ys ≡ drop n (xs ++ ys)
drop_again n xs ys =
    let same : n - length (take n xs) ≡ n - length xs = omega (arith, length-take n xs) in
    ap (λ (m : ℕ). drop n xs ++ drop m ys) same ∙ sym (drop_over n xs ys)
