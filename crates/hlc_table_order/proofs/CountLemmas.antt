-- An index has each of the first positions once, so its count is the count of a pass over the first rows.
use Rattle.std.proofs.Common.{◌≡◌, ℕ, zero, suc, ◌+◌, ◌-◌, ◌<◌, ◌≤◌, true, false, Bool, List, [], ◌∷◌, ◌++◌, length}
use Rattle.std.proofs.Common.{take_all, take-append-drop, length-append, length-take-le, length-drop, get_or, take}
use Rattle.std.proofs.Common.{drop, refl, sym, ap, ◌∙◌, subst, inl, inr, arith, Contains, leb, cond, count_by, sum_by}
use Rattle.std.{specs.List.Sorted.IsPartitionPoint, proofs.lemmas.List.take_more, proofs.lemmas.List.drop_more}
use Rattle.std.proofs.lemmas.List.Sums.{count_by_more_yes, count_by_more_no, sum_by-append, sum_by-take-drop}
use Rattle.std.proofs.lemmas.List.Elements.{Contains-append_cases, Contains-append_left, Contains-append_right}
use Rattle.hlc_values.proofs.MemberLemmas.{Contains-cons_cases}
use Rattle.hlc_table_order.specs.Order.{IsIndex}

-- a sum over the positions below n, in any order, is the sum over the first n
summed : (ss : List ℕ) (g : ℕ → ℕ) (n : ℕ) (xs : List ℕ) → n ≤ length ss → length xs ≡ n
    → ((p : ℕ) → p < n → Contains xs p) → sum_by (λ p. g (get_or ss p 0)) xs ≡ sum_by g (take n ss)
summed ss g zero [] le long every = refl
summed ss g zero (x ∷ xs) le long every = absurd (omega (arith, long))
summed ss g (suc n) xs le long every =
    let f = λ (p : ℕ). g (get_or ss p 0) in
    let m = every n (omega arith) in
    let k = m.0 in
    let front = take k xs in
    let back = drop (k + 1) xs in
    let split : xs ≡ front ++ n ∷ back =
    sym (take-append-drop k xs) ∙ ap (λ l. front ++ l) (drop_more xs k n m.1 ∙ ap (λ x. x ∷ back) m.2) in
    let within = m.1 in
    let low : length front ≡ k = length-take-le k xs (omega (arith, within)) in
    let high : length back ≡ length xs - (k + 1) = length-drop (k + 1) xs in
    let both = length-append front back in
    let less : length (front ++ back) ≡ n = omega (arith, low, high, both, long, within) in
    let others : (p : ℕ) → p < n → Contains (front ++ back) p =
    λ p lt. elim (Contains-append_cases front (n ∷ back) p
    (subst (λ l. Contains l p) split (every p (omega (arith, lt))))) [
      | inl here ↦ Contains-append_left front back p here
      | inr there ↦ elim (Contains-cons_cases n p back there) [
        | inl is ↦ absurd (omega (arith, is, lt))
        | inr rest ↦ Contains-append_right front back p rest
      ]
    ] in
    let rest = summed ss g n (front ++ back) (omega (arith, le)) less others in
    let whole = ap (sum_by f) split ∙ sum_by-append f front (n ∷ back) in
    let one = sum_by-append f (n ∷ []) back in
    let parts = sum_by-append f front back in
    let next = ap (sum_by g) (take_more ss n 0 (omega (arith, le)))
    ∙ sum_by-append g (take n ss) (get_or ss n 0 ∷ []) in
    let same : sum_by f (n ∷ []) ≡ sum_by g (get_or ss n 0 ∷ []) = refl in
    let to : n + 1 ≡ suc n = omega arith in
    subst (λ m. sum_by f xs ≡ sum_by g (take m ss)) to (omega (arith, rest, whole, one, parts, next, same))

-- the members that pass come first, so their count is where they end
module _ (p : ℕ → Bool) (xs : List ℕ) (count : ℕ) (inside : count ≤ length xs)
    (point : IsPartitionPoint (λ x. p x ≡ true) (λ x. p x ≡ false) xs count) where
  front_counted : (i : ℕ) → i ≤ count → count_by p (take i xs) ≡ i
  front_counted zero le = refl
  front_counted (suc i) le =
      subst (λ n. count_by p (take n xs) ≡ n) (let e : i + 1 ≡ suc i = omega arith in e)
      (count_by_more_yes p xs i 0 (omega (arith, le, inside)) (point.0 i 0 (omega arith) (omega (arith, le)))
      ∙ ap (λ n. n + 1)
      (front_counted i (omega (arith, le))))

  back_counted : (j : ℕ) → count + j ≤ length xs → count_by p (take (count + j) xs) ≡ count
  back_counted zero le =
      subst (λ n. count_by p (take n xs) ≡ count) (let e : count ≡ count + 0 = omega arith in e)
      (front_counted count (omega arith))
  back_counted (suc j) le =
      subst (λ n. count_by p (take n xs) ≡ count) (let e : count + j + 1 ≡ count + suc j = omega arith in e)
      (count_by_more_no p xs (count + j) 0 (omega (arith, le)) (point.1 (count + j) 0 (omega arith) (omega (arith, le)))
      ∙ back_counted j (omega (arith, le)))

  pub partition_counted : count_by p xs ≡ count
  partition_counted =
      let all' : length xs ≤ count + (length xs - count) = omega arith in
      sym (ap (count_by p) (take_all (count + (length xs - count)) xs all')) ∙ back_counted (length xs - count)
      (omega (arith, inside))

-- the count of an index
pub index_counted : (ss ns order : List ℕ) (bound count : ℕ) → IsIndex ss ns order → count ≤ length order
    → IsPartitionPoint (λ p. leb (get_or ss p 0) bound ≡ true) (λ p. leb (get_or ss p 0) bound ≡ false) order count
    → count ≡ count_by (λ s. leb s bound) (take (length order) ss)
index_counted ss ns order bound count (long, below, every, rises) inside point =
    sym (partition_counted (λ p. leb (get_or ss p 0) bound) order count inside point)
    ∙ summed ss (λ s. cond (leb s bound) 1 0) (length order) order long refl every

-- the first rows and those after them are all rows
pub counted_all : (p : ℕ → Bool) (xs : List ℕ) (i first rest : ℕ) → first ≡ count_by p (take i xs)
    → rest ≡ count_by p (drop i xs) → first + rest ≡ count_by p xs
counted_all p xs i first rest front back =
    let whole = sum_by-take-drop (λ x. cond (p x) 1 0) xs i in
    omega (arith, front, back, whole)
