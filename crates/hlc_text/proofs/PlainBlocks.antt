-- Each byte passes a test if all bytes of some blocks do that cover them all, though the last block overlaps the one
-- before it.
use Rattle.std.proofs.Common.{◌≡◌, ℕ, zero, suc, ◌+◌, ◌-◌, ◌*◌, ◌≤◌, ◌%◌, ◌^◌, Bool, true, false, not, ◌&&◌, List, []}
use Rattle.std.proofs.Common.{◌∷◌, ◌++◌, get_or, map, length, take, drop, eqb, Fits, w8, refl, sym, ap, ap₂, ◌∙◌, arith}
use Rattle.std.proofs.Common.{if◌then◌else◌}
use Rattle.std.proofs.lemmas.Bool.{and_parts, agree_below_at, agree_below, false≢true, ne_eqb}
use Rattle.std.proofs.lemmas.List.{take-append-drop, drop-take, take-take, length-map, take_all, length-drop}
use Rattle.std.{proofs.lemmas.List.Folds.list_all-append, specs.List.list_all}
use Rattle.std.proofs.lemmas.Simd.{map-map, mask_l-mod, length-chunk, chunk-fits}
use lib.Lanes.{chunk, mask_l, top, Each1}

-- the first bytes pass, so only those from a place among them on are left to check
pub rest_decides : (p : ℕ → Bool) (xs : List ℕ) (a b : ℕ) → b ≤ a → list_all p (take a xs) ≡ true
    → list_all p (drop b xs) ≡ list_all p xs
rest_decides p xs a zero le h = refl
rest_decides p [] a (suc b) le h = refl
rest_decides p (x ∷ xs) zero (suc b) le h = absurd (omega (arith, le))
rest_decides p (x ∷ xs) (suc a) (suc b) le h =
    let both = and_parts (p x) (list_all p (take a xs)) h in
    rest_decides p xs a b (omega (arith, le)) both.1 ∙ ap (λ t. t && list_all p xs) (sym both.0)

and_false : (b : Bool) → (b && false) ≡ false
and_false true = refl
and_false false = refl

-- if some of the bytes from a place on fail, the whole fails
fails_drop : (p : ℕ → Bool) (xs : List ℕ) (i : ℕ) → list_all p (drop i xs) ≡ false → list_all p xs ≡ false
fails_drop p xs zero h = h
fails_drop p [] (suc i) h = h
fails_drop p (x ∷ xs) (suc i) h = rw (fails_drop p xs i h) (and_false (p x))

fails_cons : (b s t : Bool) → (s ≡ false → t ≡ false) → (b && s) ≡ false → (b && t) ≡ false
fails_cons true s t f h = f h
fails_cons false s t f h = refl

fails_take : (p : ℕ → Bool) (xs : List ℕ) (n : ℕ) → list_all p (take n xs) ≡ false → list_all p xs ≡ false
fails_take p xs zero h = absurd (false≢true (sym h))
fails_take p [] (suc n) h = h
fails_take p (x ∷ xs) (suc n) h = fails_cons (p x) (list_all p (take n xs)) (list_all p xs) (fails_take p xs n) h

pub fails_chunk : (p : ℕ → Bool) (xs : List ℕ) (i n : ℕ) → list_all p (chunk i n xs) ≡ false → list_all p xs ≡ false
fails_chunk p xs i n h = fails_drop p xs i (fails_take p (drop i xs) n h)

-- the bytes so far pass, and so do the next ones
pub passes_more : (p : ℕ → Bool) (xs : List ℕ) (a n : ℕ) → list_all p (take a xs) ≡ true
    → list_all p (chunk a n xs) ≡ true → list_all p (take (a + n) xs) ≡ true
passes_more p xs a n h g =
    let split : take a xs ++ take n (drop a xs) ≡ take (a + n) xs =
    ap₂ (λ l r. l ++ r) (sym (take-take a (a + n) xs (omega arith))) (sym (drop-take a n xs))
    ∙ take-append-drop a (take (a + n) xs) in
    ap (list_all p) (sym split) ∙ list_all-append p (take a xs) (take n (drop a xs)) ∙ ap₂ (λ s t. s && t) h g

double_zero : (m : ℕ) → eqb (2 * m) 0 ≡ eqb m 0
double_zero zero = refl
double_zero (suc m) =
    ne_eqb (2 * suc m) 0 (λ e. absurd (omega (arith, e))) ∙ sym (ne_eqb (suc m) 0 (λ e. absurd (omega (arith, e))))

one : (b q : Bool) (m : ℕ) (rest : Bool) → b ≡ not q → eqb m 0 ≡ rest
    → eqb ((if b then 1 else 0) + 2 * m) 0 ≡ (q && rest)
one b true m rest e h =
    let none : 0 + 2 * m ≡ 2 * m = omega arith in rw e (ap (λ k. eqb k 0) none ∙ double_zero m ∙ h)
one b false m rest e h = rw e (ne_eqb (1 + 2 * m) 0 (λ e'. absurd (omega (arith, e'))))

-- no bit is set if each lane passes the test, since a set bit means that its lane fails
mask_decides : (bit p : ℕ → Bool) (xs : List ℕ) → Each1 (λ x. bit x ≡ not (p x)) xs
    → eqb (mask_l (map bit xs)) 0 ≡ list_all p xs
mask_decides bit p [] each = refl
mask_decides bit p (x ∷ xs) each = one (bit x) (p x) (mask_l (map bit xs)) (list_all p xs) each.0
    (mask_decides bit p xs each.1)

each_below : (f g : ℕ → Bool) (xs : List ℕ) → agree_below f g 256 ≡ true → Each1 (Fits w8) xs
    → Each1 (λ x. f x ≡ g x) xs
each_below f g [] all each = tt
each_below f g (x ∷ xs) all each = (agree_below_at f g 256 x all each.0.fits, each_below f g xs all each.1)

-- the test of a load by a mask of its lanes
pub block_decides : (f : ℕ → ℕ) (p : ℕ → Bool) (xs : List ℕ) (i n : ℕ) (z : List ℕ) → i + n ≤ length xs → n ≤ 64
    → ((k : ℕ) → Fits w8 (get_or xs k 0)) → agree_below (λ x. top 7 (f x)) (λ x. not (p x)) 256 ≡ true
    → z ≡ map f (chunk i n xs) → eqb (mask_l (map (top 7) z) % 2 ^ 64) 0 ≡ list_all p (chunk i n xs)
block_decides f p xs i n z room few fits agree lanes =
    let v = chunk i n xs in
    let long = length-chunk i n xs room in
    ap (λ l. eqb (mask_l l % 2 ^ 64) 0) (ap (map (top 7)) lanes ∙ map-map (top 7) f v)
    ∙ ap (λ m. eqb m 0) (mask_l-mod (map (λ x. top 7 (f x)) v) 64 (omega (arith, length-map v (λ x. top 7 (f x)))))
    ∙ mask_decides (λ x. top 7 (f x)) p v (each_below (λ x. top 7 (f x)) (λ x. not (p x)) v agree
    (chunk-fits w8 i n xs fits))

-- a last block is all bytes from its place on
pub last_chunk : (xs : List ℕ) (n : ℕ) → n ≤ length xs → chunk (length xs - n) n xs ≡ drop (length xs - n) xs
last_chunk xs n le = take_all n (drop (length xs - n) xs) (omega (arith, length-drop (length xs - n) xs))
