-- Heads are ordered as the keys: if the heads differ, the first byte that differs is among the bytes of the heads.
use Rattle.std.proofs.Common.{◌≡◌, ◌≤◌, ◌<◌, ◌+◌, ◌-◌, ◌*◌, ◌^◌, ◌∙◌, ℕ, zero, suc, List, [], ◌∷◌, get_or, length}
use Rattle.std.proofs.Common.{get_or-drop, arith, refl, ap, sym, inl, inr, All, subst, nat_cmp, Less, Greater, Equal}
use Rattle.std.proofs.Common.{map, drop, ap₂}
use Rattle.std.proofs.lemmas.{Bool.cases_lt, Bool.Decides.nat_tests, Slice.Eq.bytes_eq-Decides}
use Rattle.std.specs.Cmp.Lexicographic.{slice_cmp, nat_list_cmp_total, texts_ties}
use Rattle.std.specs.Ordering.{ordering_then, ordering_reverse, is_eq}
use Rattle.std.proofs.lemmas.List.{get_or-map, length-map, drop_all, get_or_past}
use Rattle.hlc_table_index.specs.Entries.{IsBelowAt, IsAboveAt, key_cmp, keys_in}
use Rattle.hlc_table_index.specs.Head.{head_of, head_upto, AreBytes}

-- 256 ^ n
abbrev most : ℕ → ℕ
most zero = 1
most (suc n) = most n * 256

most_up : (n d : ℕ) → most n ≤ most (n + d)
most_up n zero = let e : n + 0 ≡ n = omega arith in rw e (omega arith)
most_up n (suc d) = let e : n + suc d ≡ suc (n + d) = omega arith in rw e (omega (arith, most_up n d))

most_few : (n : ℕ) → n < 8 → most (suc n) ≤ 2 ^ 64
most_few n few =
    let e : 8 ≡ suc n + (7 - n) = omega (arith, few) in
    let whole : most 8 ≤ 2 ^ 64 = omega arith in
    let up : most (suc n) ≤ most 8 = subst (λ m. most (suc n) ≤ most m) (sym e) (most_up (suc n) (7 - n)) in
    omega (arith, up, whole)

bounded : (n : ℕ) (key : List ℕ) → AreBytes key → head_upto n key < most n
unfolding head_upto
bounded zero key bytes = omega arith
bounded (suc n) key bytes = omega (arith, bounded n key bytes, bytes n)

pub head_fits : (n : ℕ) (key : List ℕ) → AreBytes key → n < 8 → head_upto n key * 256 + get_or key n 0 < 2 ^ 64
unfolding head_upto
head_fits n key bytes few = omega (arith, bounded (suc n) key bytes, most_few n few)

pub head_none : (key : List ℕ) → head_upto 0 key ≡ 0
unfolding head_upto
head_none key = refl

pub head_more : (n : ℕ) (key : List ℕ) → head_upto (n + 1) key ≡ head_upto n key * 256 + get_or key n 0
unfolding head_upto
head_more n key = ap (λ m. head_upto m key) (let e : n + 1 ≡ suc n = omega arith in e)

pub head_whole : (key : List ℕ) → head_upto 8 key ≡ ((((((((get_or key 0 0) * 256 + get_or key 1 0) * 256 + get_or key 2
    0) * 256 + get_or key 3 0) * 256 + get_or key 4 0) * 256 + get_or key 5 0) * 256 + get_or key 6 0) * 256 + get_or
    key 7 0)
unfolding head_upto
head_whole key = omega arith

-- the first bytes, and the bytes after them
step : (a h p b x y : ℕ) → a ≡ h * p + b → x ≡ y → a * 256 + x ≡ h * (p * 256) + (b * 256 + y)
step a h p b x y e f = grind arith

head_split : (n m k : ℕ) (key : List ℕ) → m ≡ k + n → head_upto m key ≡ head_upto k key * most n + head_upto n (drop k
    key)
unfolding head_upto
head_split zero m k key e = ap (λ i. head_upto i key) (let f : m ≡ k = omega (arith, e) in f) ∙ omega arith
head_split (suc n) zero k key e = absurd (omega (arith, e))
head_split (suc n) (suc m) k key e =
    step (head_upto m key) (head_upto k key) (most n) (head_upto n (drop k key)) (get_or key m 0) (get_or (drop k key) n
    0)
    (head_split n m k key (omega (arith, e)))
    (ap (λ i. get_or key i 0) (let f : m ≡ k + n = omega (arith, e) in f) ∙ sym (get_or-drop k key n 0))

none_upto : (n : ℕ) → head_upto n [] ≡ 0
unfolding head_upto
none_upto zero = refl
none_upto (suc n) = let e = none_upto n in omega (arith, e)

eight_most : most 8 ≡ 2 ^ 64
eight_most = refl

pub head_two : (key : List ℕ) (front back : ℕ) → front ≡ head_upto 8 key → back ≡ head_upto 8 (drop 8 key)
    → front * 2 ^ 64 + back ≡ head_of key
head_two key front back e f =
    ap₂ (λ x y. x * 2 ^ 64 + y) e f ∙ ap (λ p. head_upto 8 key * p + head_upto 8 (drop 8 key)) (sym eight_most)
    ∙ sym (head_split 8 16 8 key (omega arith))

pub head_one : (key : List ℕ) (front : ℕ) → front ≡ head_upto 8 key → length key ≤ 8 → front * 2 ^ 64 ≡ head_of key
head_one key front e few =
    (let m : front * 2 ^ 64 ≡ front * 2 ^ 64 + 0 = omega arith in m)
    ∙ head_two key front 0 e (sym (ap (head_upto 8) (drop_all 8 key few) ∙ none_upto 8))

digits : (n : ℕ) (a b : List ℕ) → AreBytes a → AreBytes b → head_upto n a ≡ head_upto n b → (i : ℕ) → i < n → get_or a i
    0 ≡ get_or b i 0
unfolding head_upto
digits zero a b p q e i lt = absurd (omega (arith, lt))
digits (suc n) a b p q e i lt =
    let x = p n in
    let y = q n in
    let front : head_upto n a ≡ head_upto n b = omega (arith, e, x, y) in
    let back : get_or a n 0 ≡ get_or b n 0 = omega (arith, e, x, y) in
    elim (cases_lt i n) [
      | inl below ↦ digits n a b p q front i below
      | inr above ↦ let here : i ≡ n = omega (arith, above, lt) in rw here back
    ]

is_less : (x y : ℕ) → x < y → nat_cmp x y ≡ Less
is_less x y lt = grind (arith, nat_tests)

pub is_equal : (x y : ℕ) → x ≡ y → nat_cmp x y ≡ Equal
is_equal x y e = grind (arith, nat_tests)

less_from : (j : ℕ) (a b : List ℕ) → ((i : ℕ) → i < j → get_or a i 0 ≡ get_or b i 0) → get_or a j 0 < get_or b j 0
    → key_cmp a b ≡ Less
less_from j a [] same lt = absurd (omega (arith, lt))
less_from j [] (y ∷ ys) same lt = refl
less_from zero (x ∷ xs) (y ∷ ys) same lt = ap (λ o. ordering_then o (slice_cmp nat_cmp xs ys)) (is_less x y lt)
less_from (suc j) (x ∷ xs) (y ∷ ys) same lt =
    ap (λ o. ordering_then o (slice_cmp nat_cmp xs ys)) (is_equal x y (same 0 (omega arith)))
    ∙ less_from j xs ys (λ i few. same (suc i) (omega (arith, few))) lt

pub head_upto_below : (n : ℕ) (a b : List ℕ) → AreBytes a → AreBytes b → head_upto n a < head_upto n b → key_cmp a b ≡
    Less
unfolding head_upto
head_upto_below zero a b p q lt = absurd (omega (arith, lt))
head_upto_below (suc n) a b p q lt =
    let x = p n in
    let y = q n in
    elim (cases_lt (head_upto n a) (head_upto n b)) [
      | inl below ↦ head_upto_below n a b p q below
      | inr above ↦
          let front : head_upto n a ≡ head_upto n b = omega (arith, above, lt, x, y) in
          less_from n a b (digits n a b p q front) (omega (arith, lt, front))
    ]

-- if one head is below another, the key is too
pub head_below : (a b : List ℕ) → AreBytes a → AreBytes b → head_of a < head_of b → key_cmp a b ≡ Less
head_below a b p q lt = head_upto_below 16 a b p q lt

pub head_above : (a b : List ℕ) → AreBytes a → AreBytes b → head_of b < head_of a → key_cmp a b ≡ Greater
head_above a b p q lt = nat_list_cmp_total.antisymm a b ∙ ap ordering_reverse (head_below b a q p lt)

pub same_key : (a b : List ℕ) → key_cmp a b ≡ Equal → a ≡ b
same_key a b e = (bytes_eq-Decides a b).0 (texts_ties a b ∙ ap is_eq e)

-- heads next to keys: what is known of a head at a position is known of the key there
module _ (keys : List (List ℕ)) (heads : List ℕ) (is : heads ≡ map head_of keys) (bytes : All AreBytes keys) (key : List
    ℕ)
    (own : AreBytes key) where
  at : (n : ℕ) → n < length keys → get_or heads n 0 ≡ head_of (get_or keys n [])
  at n lt = ap (λ (hs : List ℕ). get_or hs n 0) is ∙ get_or-map head_of keys n [] 0 lt

  pub below_by_head : (n : ℕ) → n ≤ length keys → (0 < n → get_or heads (n - 1) 0 < head_of key) → IsBelowAt keys n key
  below_by_head n le lt some =
      let h = lt some in
      let inside : n - 1 < length keys = omega (arith, le, some) in
      head_below (get_or keys (n - 1) []) key (bytes (n - 1) [] inside) own
      (subst (λ m. m < head_of key) (at (n - 1) inside) h)

  pub above_by_head : (n : ℕ) → (n < length keys → head_of key < get_or heads n 0) → IsAboveAt keys n key
  above_by_head n lt inside =
      head_above (get_or keys n []) key (bytes n [] inside) own
      (subst (λ m. head_of key < m) (at n inside) (lt inside))

pub length_keys : {V : Type 0} (es : List (List ℕ × V)) → length (keys_in es) ≡ length es
length_keys {V} es = length-map es (λ (e : List ℕ × V). e.0)

-- what the heads of a leaf imply for its keys
module _ {V : Type 0} (es now : List (List ℕ × V)) (view : es ≡ now) (heads slice : List ℕ) (same : slice ≡ heads)
    (inv : (heads ≡ map head_of (keys_in es)) × All AreBytes (keys_in es)) (key : List ℕ) (own : AreBytes key) (head :
    ℕ)
    (is : head ≡ head_of key) (n : ℕ) where
  heads_are : slice ≡ map head_of (keys_in now)
  heads_are = same ∙ inv.0 ∙ ap (λ (l : List (List ℕ × V)). map head_of (keys_in l)) view

  bytes_are : All AreBytes (keys_in now)
  bytes_are = subst (λ (l : List (List ℕ × V)). All AreBytes (keys_in l)) view inv.1

  pub as_many : length slice ≡ length (keys_in now)
  as_many = ap length heads_are ∙ length-map (keys_in now) head_of

  pub headed_below : n ≤ length slice → (0 < n → get_or slice (n - 1) 0 < head) → IsBelowAt (keys_in now) n key
  headed_below inside lt =
      below_by_head (keys_in now) slice heads_are bytes_are key own n (omega (arith, inside, as_many))
      (λ some. subst (λ m. get_or slice (n - 1) 0 < m) is (lt some))

  pub headed_above : (n < length slice → head < get_or slice n 0) → IsAboveAt (keys_in now) n key
  headed_above lt =
      above_by_head (keys_in now) slice heads_are bytes_are key own n
      (λ inside. subst (λ m. m < get_or slice n 0) is (lt (omega (arith, inside, as_many))))

-- keys with the same bytes, where one may continue with zeros, compare as their lengths
same_upto : (a b : List ℕ) → ((i : ℕ) → get_or a i 0 ≡ get_or b i 0) → key_cmp a b ≡ nat_cmp (length a) (length b)
same_upto [] [] f = refl
same_upto [] (y ∷ ys) f = grind (arith, nat_tests)
same_upto (x ∷ xs) [] f = grind (arith, nat_tests)
same_upto (x ∷ xs) (y ∷ ys) f =
    ap (λ o. ordering_then o (slice_cmp nat_cmp xs ys)) (is_equal x y (f 0)) ∙ same_upto xs ys (λ i. f (suc i))
    ∙ grind (arith, nat_tests)

-- keys that are no longer than a head compare by their heads and then by their lengths
pub alike_short : (a b : List ℕ) → AreBytes a → AreBytes b → head_of a ≡ head_of b → length a ≤ 16 → length b ≤ 16
    → key_cmp a b ≡ nat_cmp (length a) (length b)
alike_short a b p q e la lb = same_upto a b each
  where
    each : (i : ℕ) → get_or a i 0 ≡ get_or b i 0
    each i = elim (cases_lt i 16) [
      | inl below ↦ digits 16 a b p q e i below
      | inr above ↦ get_or_past a i 0 (omega (arith, above, la)) ∙ sym (get_or_past b i 0 (omega (arith, above, lb)))
    ]
