-- The receipts of each caller are the trail's calls of that caller, in order: both lists rise by number and have the
-- same receipts.
use Rattle.std.proofs.Common.{◌≡◌, ℕ, suc, zero, ◌+◌, ◌<◌, ◌≤◌, ◌⊎◌, inl, inr, ⊎_elim, List, [], ◌∷◌, length, Bool}
use Rattle.std.proofs.Common.{true, false, ◌==◌, Option, Some, None, slice_get, refl, sym, ap, ◌∙◌, subst, arith}
use Rattle.std.{specs.Prelude.if◌then◌else◌, proofs.lemmas.Bool.Decides.nat_tests, proofs.lemmas.Bool.false≢true}
use Rattle.hlc_server.specs.{declared.entry.Entry.Entry, declared.entry.Receipt.Receipt, Trails.entry}
use Rattle.hlc_server.specs.Settling.{Claim, key_of, IsBelow, IsInTrail, AreGood, IsSettled, receipt_of, receipts_from}
use Rattle.hlc_server.specs.Settling.{of_caller, receipts_in, EachIsClaimed}
use Rattle.hlc_server.proofs.Settlings.{all_claimed}

-- the numbers rise strictly, from n on
Above : ℕ → List Receipt → Type 0
Above n [] = Unit {0}
Above n (r ∷ rs) = (n ≤ r.number) × Above (r.number + 1) rs

lower : (m n : ℕ) (rs : List Receipt) → m ≤ n → Above n rs → Above m rs
unfolding Above
lower m n [] le h = tt
lower m n (r ∷ rs) le h = (omega (arith, h.0), h.1)

In : Receipt → List Receipt → Type 0
In r [] = ⊥
In r (x ∷ xs) = (r ≡ x) ⊎ In r xs

-- each receipt of a rising list is at or above its start
in_above : (n : ℕ) (r : Receipt) (rs : List Receipt) → Above n rs → In r rs → n ≤ r.number
unfolding Above In
in_above n r [] h i = absurd i
in_above n r (x ∷ xs) h (inl e) = omega (arith, h.0, ap (λ (y : Receipt). y.number) e)
in_above n r (x ∷ xs) h (inr i) = omega (arith, h.0, in_above (x.number + 1) r xs h.1 i)

-- two rising lists with the same receipts are equal
same_rising : (n : ℕ) (xs ys : List Receipt) → Above n xs → Above n ys → ((r : Receipt) → In r xs → In r ys)
    → ((r : Receipt) → In r ys → In r xs) → xs ≡ ys
unfolding Above In
same_rising n [] [] a b f g = refl
same_rising n [] (y ∷ ys) a b f g = absurd (g y (inl refl))
same_rising n (x ∷ xs) [] a b f g = absurd (f x (inl refl))
same_rising n (x ∷ xs) (y ∷ ys) a b f g =
    let m = x.number + 1 in
    let same : x ≡ y = heads n x y xs ys a b (f x (inl refl)) (g y (inl refl)) in
    let nums : x.number ≡ y.number = ap (λ (z : Receipt). z.number) same in
    let b' : Above m ys = lower m (y.number + 1) ys (omega arith) b.1 in
    let rest = same_rising m xs ys a.1 b'
    (λ r i. ⊎_elim (λ e. absurd (omega (arith, in_above m r xs a.1 i, ap (λ (z : Receipt). z.number) e)))
    (λ j. j) (f r (inr i)))
    (λ r i. ⊎_elim (λ e. absurd (omega (arith, in_above m r ys b' i, ap (λ (z : Receipt). z.number) e))) (λ j. j)
    (g r (inr i))) in
    cc (same, rest)
  where
    heads : (n : ℕ) (x y : Receipt) (xs ys : List Receipt) → Above n (x ∷ xs) → Above n (y ∷ ys)
        → In x (y ∷ ys) → In y (x ∷ xs)
        → x ≡ y
    heads n x y xs ys a b (inl e) j = e
    heads n x y xs ys a b (inr i) (inl e) = sym e
    heads n x y xs ys a b (inr i) (inr j) =
        absurd (omega (arith, in_above (y.number + 1) x ys b.1 i, in_above (x.number + 1) y xs a.1 j))

if_case : {A : Type 0} (b : Bool) (x y : A) (P : A → Type 0) → (b ≡ true → P x) → (b ≡ false → P y)
    → P (if b then x else y)
if_case true x y P f g = f refl
if_case false x y P f g = g refl

below_trans : (a : Option (ℕ × ℕ)) (b c : ℕ × ℕ) → IsBelow a b → IsBelow (Some b) c → IsBelow a c
below_trans None b c h k = tt
below_trans (Some a) b c (inl h) (inl k) = inl (omega arith)
below_trans (Some a) b c (inl h) (inr k) = inl (omega (arith, k.0))
below_trans (Some a) b c (inr h) (inl k) = inl (omega (arith, h.0))
below_trans (Some a) b c (inr h) (inr k) = inr (h.0 ∙ k.0, omega (arith, h.1, k.1))

is_eq : (a b : ℕ) → (a == b) ≡ true → a ≡ b
is_eq a b h = grind (arith, nat_tests)

eq_is : (a b : ℕ) → a ≡ b → (a == b) ≡ true
eq_is a b h = grind (arith, nat_tests)

-- the good receipts of one caller rise
good_above : (t : List Entry) (k : ℕ) (b : Option (ℕ × ℕ)) (cs : List Claim) → AreGood t b cs → (n : ℕ)
    → ((j : ℕ) → IsBelow b (k, j) → n ≤ j) → Above n (of_caller k (receipts_in cs))
unfolding Above
good_above t k b [] g n h = tt
good_above t k b (c ∷ cs) g n h =
    let r = c.receipt in
    if_case (r.caller == k) (r ∷ of_caller k (receipts_in cs)) (of_caller k (receipts_in cs)) (λ rs. Above n rs)
    (λ is.
    let same : r.caller ≡ k = is_eq r.caller k is in (
      h r.number (subst (λ (m : ℕ). IsBelow b (m, r.number)) same g.0.2),
      good_above t k (Some (key_of r)) cs g.1 (r.number + 1)
          (λ j below. ⊎_elim (λ l. absurd (omega (arith, l, same))) (λ l. omega (arith, l.1)) below),
    ))
    (λ is. good_above t k (Some (key_of r)) cs g.1 n (λ j below. h j (below_trans b (key_of r) (k, j) g.0.2 below)))

-- the trail's calls of one caller rise
entries_above : (k n : ℕ) (es : List Entry) → Above n (of_caller k (receipts_from n es))
unfolding Above
entries_above k n [] = tt
entries_above k n (e ∷ es) =
    if_case (e.caller == k) (receipt_of n e ∷ of_caller k (receipts_from (n + 1) es))
    (of_caller k (receipts_from (n + 1) es))
    (λ rs. Above n rs)
    (λ is. (omega arith, entries_above k (n + 1) es))
    (λ is. lower n (n + 1) _ (omega arith) (entries_above k (n + 1) es))

in_of_caller : (k : ℕ) (r : Receipt) (rs : List Receipt) → r.caller ≡ k → In r rs → In r (of_caller k rs)
unfolding In
in_of_caller k r [] is i = absurd i
in_of_caller k r (x ∷ xs) is i =
    if_case (x.caller == k) (x ∷ of_caller k xs) (of_caller k xs) (λ rs. In r rs)
    (λ here. ⊎_elim (λ e. inl e) (λ j. inr (in_of_caller k r xs is j)) i)
    (λ away.
    ⊎_elim (λ e. absurd (false≢true (sym away ∙ eq_is x.caller k (ap (λ (y : Receipt). y.caller) (sym e) ∙ is))))
    (λ j. in_of_caller k r xs is j) i)

of_caller_in : (k : ℕ) (r : Receipt) (rs : List Receipt) → In r (of_caller k rs) → (r.caller ≡ k) × In r rs
unfolding In
of_caller_in k r [] = λ i. absurd i
of_caller_in k r (x ∷ xs) =
    if_case (x.caller == k) (x ∷ of_caller k xs) (of_caller k xs) (λ rs. In r rs → (r.caller ≡ k) × In r (x ∷ xs))
    (λ here i. ⊎_elim (λ e. (ap (λ (y : Receipt). y.caller) e ∙ is_eq x.caller k here, inl e))
    (λ j. let p = of_caller_in k r xs j in (p.0, inr p.1)) i)
    (λ away i. let p = of_caller_in k r xs i in (p.0, inr p.1))

-- a receipt that is in the trail is one of those expected for it
expected_of : (n m : ℕ) (es : List Entry) (r : Receipt) → slice_get es m ≡ Some (entry r.caller r.event r.reply)
    → r.number ≡ n + m
    → In r (receipts_from n es)
unfolding In
expected_of n m [] r at is = absurd (cc)
expected_of n zero (e ∷ es) r at is =
    inl (let same : e ≡ entry r.caller r.event r.reply = cc in
    let num : r.number ≡ n = omega (arith, is) in
    sym (ap (λ (x : Entry). receipt_of n x) same
    ∙ ap (λ (k : ℕ). receipt_of k (entry r.caller r.event r.reply)) (sym num)))
expected_of n (suc m) (e ∷ es) r at is = inr (expected_of (n + 1) m es r at (omega (arith, is)))

-- and the other way around
is_in_trail_of : (n : ℕ) (es : List Entry) (r : Receipt) → In r (receipts_from n es)
    → (m : ℕ) × (r.number ≡ n + m) × (m < length es) × (slice_get es m ≡ Some (entry r.caller r.event r.reply))
unfolding In
is_in_trail_of n [] r i = absurd i
is_in_trail_of n (e ∷ es) r (inl same) = (
  0,
  (let q = ap (λ (x : Receipt). x.number) same in omega (arith, q)),
  omega arith,
  ap (λ (x : Receipt). Some (entry x.caller x.event x.reply)) (sym same),
)
is_in_trail_of n (e ∷ es) r (inr i) = let p = is_in_trail_of (n + 1) es r i in
    (suc p.0, omega (arith, p.1), omega (arith, p.2), p.3)

good_is_in_trail : (t : List Entry) (b : Option (ℕ × ℕ)) (cs : List Claim) (r : Receipt) → AreGood t b cs
    → In r (receipts_in cs)
    → IsInTrail t r
unfolding In
good_is_in_trail t b [] r g i = absurd i
good_is_in_trail t b (c ∷ cs) r g (inl e) = subst (λ (x : Receipt). IsInTrail t x) (sym e) g.0.0
good_is_in_trail t b (c ∷ cs) r g (inr i) = good_is_in_trail t (Some (key_of c.receipt)) cs r g.1 i

in_at : (cs : List Claim) (i : ℕ) (c : Claim) → slice_get cs i ≡ Some c → In c.receipt (receipts_in cs)
unfolding In
in_at [] i c at = absurd (cc)
in_at (x ∷ cs) zero c at = inl (let same : x ≡ c = cc in ap (λ (y : Claim). y.receipt) (sym same))
in_at (x ∷ cs) (suc i) c at = inr (in_at cs i c at)

-- two receipts of one number that are in the trail are equal
one_in_trail : (t : List Entry) (r s : Receipt) → IsInTrail t r → IsInTrail t s → r.number ≡ s.number → r ≡ s
one_in_trail t r s a b is =
    let same : entry r.caller r.event r.reply ≡ entry s.caller s.event s.reply = cc (sym a ∙ ap (slice_get t) is ∙ b) in
    ap (λ (k : ℕ). receipt_of k (entry r.caller r.event r.reply)) is ∙ ap (receipt_of s.number) same

pub each_is_claimed : (t : List Entry) (cs : List Claim) → IsSettled t cs → EachIsClaimed t cs
each_is_claimed t cs s k =
    same_rising 0 (of_caller k (receipts_in cs)) (of_caller k (receipts_from 0 t))
    (good_above t k None cs s.0 0 (λ j h. omega arith)) (entries_above k 0 t)
    (λ r i. let p = of_caller_in k r (receipts_in cs) i in in_of_caller k r (receipts_from 0 t) p.0
    (expected_of 0 r.number t r (good_is_in_trail t None cs r s.0 p.1) (omega arith)))
    (λ r i.
    let p = of_caller_in k r (receipts_from 0 t) i in
    let q = is_in_trail_of 0 t r p.1 in
    let num : r.number ≡ q.0 = omega (arith, q.1) in
    let represents : IsInTrail t r = ap (slice_get t) num ∙ q.3 in
    let returned = all_claimed t cs s r.number (omega (arith, num, q.2)) in
    let there = in_at cs returned.0 returned.1 returned.2 in
    let same : returned.1.receipt ≡ r =
    one_in_trail t returned.1.receipt r (good_is_in_trail t None cs returned.1.receipt s.0 there) represents
    returned.3 in
    in_of_caller k r (receipts_in cs) p.0 (subst (λ (x : Receipt). In x (receipts_in cs)) same there))
