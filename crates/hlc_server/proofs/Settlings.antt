-- Good receipts, one after another, and how many there can be. Their callers and numbers rise, and each is in the
-- trail, so there are no more of them than entries; and where there are as many, each entry is that of some receipt.
use Rattle.std.proofs.Common.{◌≡◌, ℕ, suc, zero, ◌+◌, ◌<◌, ◌≤◌, ◌⊎◌, inl, inr, ⊎_elim, List, [], ◌∷◌, ◌++◌, length, map}
use Rattle.std.proofs.Common.{take, Bool, true, false, ◌&&◌, ◌||◌, not, ◌==◌, nat_lt, Option, Some, None, slice_get}
use Rattle.std.proofs.Common.{refl, sym, ap, ◌∙◌, subst, arith, append_assoc, length-append, drop, get_or, length-take}
use Rattle.std.specs.{Prelude.if◌then◌else◌, declared.vec.Vec.Vec}
use Rattle.std.proofs.lemmas.{Bool.Decides.nat_tests, List.take_more, List.append-nil, List.take-append-le}
use Rattle.std.proofs.lemmas.{List.take-append-drop, List.map-append, List.length-map, List.take-map}
use Rattle.hlc_server.specs.{declared.entry.Entry.Entry, declared.entry.Receipt.Receipt, Trails.entry, Seats.CallerView}
use Rattle.hlc_server.specs.Settling.{Claim, claim, claims_of, IsFirstBad, key_of, IsBelow, IsGood, AreGood, IsSettled}
use Rattle.hlc_server.specs.Settling.{last_key}

-- each entry of the trail is that of a receipt
abbrev pub AllClaimed : List Entry → List Claim → Type 0
AllClaimed trail claims =
    (number : ℕ) → number < length trail
    → (i : ℕ) × (c : Claim) × (slice_get claims i ≡ Some c) × (c.receipt.number ≡ number)

pub good-append : (t : List Entry) (b : Option (ℕ × ℕ)) (xs ys : List Claim) → AreGood t b xs
    → AreGood t (last_key b xs) ys
    → AreGood t b (xs ++ ys)
good-append t b [] ys g h = h
good-append t b (x ∷ xs) ys g h = (g.0, good-append t (Some (key_of x.receipt)) xs ys g.1 h)

pub good-rest : (t : List Entry) (b : Option (ℕ × ℕ)) (xs ys : List Claim) → AreGood t b (xs ++ ys)
    → AreGood t (last_key b xs) ys
good-rest t b [] ys g = g
good-rest t b (x ∷ xs) ys g = good-rest t (Some (key_of x.receipt)) xs ys g.1

pub last_key-append : (b : Option (ℕ × ℕ)) (xs ys : List Claim) → last_key b (xs ++ ys) ≡ last_key (last_key b xs) ys
last_key-append b [] ys = refl
last_key-append b (x ∷ xs) ys = last_key-append (Some (key_of x.receipt)) xs ys

-- (caller, number) is above the one before
is_above : Option (ℕ × ℕ) → ℕ × ℕ → Bool
is_above None b = true
is_above (Some a) b = nat_lt a.0 b.0 || (a.0 == b.0 && nat_lt a.1 b.1)

above_of : (a : Option (ℕ × ℕ)) (b : ℕ × ℕ) → IsBelow a b → is_above a b ≡ true
unfolding is_above
above_of None b h = refl
above_of (Some a) b h = ⊎_elim (λ l. grind (arith, nat_tests)) (λ r. grind (arith, nat_tests)) h

not_above : (a : ℕ × ℕ) → is_above (Some a) a ≡ false
unfolding is_above
not_above a = grind (arith, nat_tests)

above_above : (a : Option (ℕ × ℕ)) (b c : ℕ × ℕ) → IsBelow a b → is_above (Some b) c ≡ true → is_above a c ≡ true
unfolding is_above
above_above None b c h k = refl
above_above (Some a) b c h k = ⊎_elim (λ l. grind (arith, nat_tests)) (λ r. grind (arith, nat_tests)) h

-- how many entries pass a test of their place and themselves, where the first has place n
counts : (ℕ → Entry → Bool) → ℕ → List Entry → ℕ
counts p n [] = 0
counts p n (e ∷ es) = (if p n e then 1 else 0) + counts p (n + 1) es

one_or_none : (a : Bool) → (if a then 1 else 0) ≤ 1
one_or_none true = omega arith
one_or_none false = omega arith

counts-le : (p : ℕ → Entry → Bool) (n : ℕ) (es : List Entry) → counts p n es ≤ length es
unfolding counts
counts-le p n [] = omega arith
counts-le p n (e ∷ es) = omega (arith, one_or_none (p n e), counts-le p (n + 1) es)

one_le : (a b : Bool) → (a ≡ true → b ≡ true) → (if a then 1 else 0) ≤ (if b then 1 else 0)
one_le false b h = omega arith
one_le true b h = let is = h refl in rw is (omega arith)

fewer-le : (p q : ℕ → Entry → Bool) → ((n : ℕ) (e : Entry) → q n e ≡ true → p n e ≡ true) → (n : ℕ) (es : List Entry)
    → counts q n es ≤ counts p n es
unfolding counts
fewer-le p q h n [] = omega arith
fewer-le p q h n (e ∷ es) = omega (arith, one_le (q n e) (p n e) (h n e), fewer-le p q h (n + 1) es)

-- where one entry passes p and not q, and each that passes q passes p, fewer pass q
fewer : (p q : ℕ → Entry → Bool) → ((n : ℕ) (e : Entry) → q n e ≡ true → p n e ≡ true)
    → (n m : ℕ) (es : List Entry) (x : Entry)
    → slice_get es m ≡ Some x → p (n + m) x ≡ true → q (n + m) x ≡ false → counts q n es < counts p n es
unfolding counts
fewer p q h n m [] x at passes fails = absurd (cc)
fewer p q h n zero (e ∷ es) x at passes fails =
    let same : e ≡ x = cc in
    let here : n + 0 ≡ n = omega arith in
    let is_p : p n e ≡ true = ap (λ (y : Entry). p n y) same ∙ ap (λ (k : ℕ). p k x) (sym here) ∙ passes in
    let is_q : q n e ≡ false = ap (λ (y : Entry). q n y) same ∙ ap (λ (k : ℕ). q k x) (sym here) ∙ fails in
    rw (is_p, is_q) (omega (arith, fewer-le p q h (n + 1) es))
fewer p q h n (suc m) (e ∷ es) x at passes fails =
    let here : n + suc m ≡ (n + 1) + m = omega arith in
    let rest =
    fewer p q h (n + 1) m es x at (ap (λ (k : ℕ). p k x) (sym here) ∙ passes)
    (ap (λ (k : ℕ). q k x) (sym here) ∙ fails) in
    omega (arith, one_le (q n e) (p n e) (h n e), rest)

-- the receipts' numbers pass a test
AllPass : (ℕ → Bool) → List Claim → Type 0
AllPass test [] = Unit {0}
AllPass test (c ∷ cs) = (test c.receipt.number ≡ true) × AllPass test cs

both_true : (a b : Bool) → a ≡ true → b ≡ true → (a && b) ≡ true
both_true a b p q = ap (λ (x : Bool). x && b) p ∙ q

and_true : (a b : Bool) → (a && b) ≡ true → (a ≡ true) × (b ≡ true)
and_true true b e = (refl, e)
and_true false b e = absurd (cc)

and_false : (a b : Bool) → b ≡ false → (a && b) ≡ false
and_false true b e = e
and_false false b e = refl

candidates : (ℕ → Bool) → Option (ℕ × ℕ) → ℕ → Entry → Bool
candidates test b n e = test n && is_above b (e.caller, n)

-- there are no more good receipts than entries above the one before
good-bound : (t : List Entry) (test : ℕ → Bool) (b : Option (ℕ × ℕ)) (cs : List Claim)
    → AreGood t b cs → AllPass test cs
    → length cs ≤ counts (candidates test b) 0 t
unfolding AllPass candidates
good-bound t test b [] g pass = omega arith
good-bound t test b (c ∷ cs) g pass =
    let k = key_of c.receipt in
    let rest = good-bound t test (Some k) cs g.1 pass.1 in
    let x = entry c.receipt.caller c.receipt.event c.receipt.reply in
    let m = c.receipt.number in
    let here : 0 + m ≡ m = omega arith in
    let passes : candidates test b (0 + m) x ≡ true =
    rw here (both_true (test m) (is_above b k) pass.0 (above_of b k g.0.2)) in
    let fails : candidates test (Some k) (0 + m) x ≡ false =
    rw here (and_false (test m) (is_above (Some k) k) (not_above k)) in
    let less =
    fewer (candidates test b) (candidates test (Some k))
    (λ n e h. let p = and_true (test n) _ h in
    both_true (test n) _ p.0 (above_above b k (e.caller, n) g.0.2 p.1)) 0 m t x
    g.0.0 passes fails in
    omega (arith, rest, less)

all_pass : (cs : List Claim) → AllPass (λ n. true) cs
unfolding AllPass
all_pass [] = tt
all_pass (c ∷ cs) = (refl, all_pass cs)

-- there are no more good receipts than entries
pub good-le : (t : List Entry) (b : Option (ℕ × ℕ)) (cs : List Claim) → AreGood t b cs → length cs ≤ length t
good-le t b cs g =
    omega (arith, good-bound t (λ n. true) b cs g (all_pass cs), counts-le (candidates (λ n. true) b) 0 t)

Claimed : ℕ → List Claim → Type 0
Claimed number cs = (i : ℕ) × (c : Claim) × (slice_get cs i ≡ Some c) × (c.receipt.number ≡ number)

claimed_or_not : (number : ℕ) (cs : List Claim) → Claimed number cs ⊎ AllPass (λ n. not (n == number)) cs
unfolding Claimed AllPass
claimed_or_not number [] = inr tt
claimed_or_not number (c ∷ cs) = go (c.receipt.number == number) refl (claimed_or_not number cs)
  where
    go : (b : Bool) → (c.receipt.number == number) ≡ b
        → (Claimed number cs ⊎ AllPass (λ n. not (n == number)) cs) → Claimed number
        (c ∷ cs) ⊎ AllPass (λ n. not (n == number)) (c ∷ cs)
    go true is rest = inl (0, c, refl, grind (arith, nat_tests))
    go false is (inl h) = inl (suc h.0, h.1, h.2, h.3)
    go false is (inr h) = inr (ap not is, h)

place_of : (t : List Entry) (m : ℕ) → m < length t → (x : Entry) × (slice_get t m ≡ Some x)
place_of [] m lt = absurd (omega arith)
place_of (e ∷ t) zero lt = (e, refl)
place_of (e ∷ t) (suc m) lt = place_of t m (omega arith)

pub all_claimed : (t : List Entry) (cs : List Claim) → IsSettled t cs → AllClaimed t cs
unfolding Claimed candidates
all_claimed t cs s number lt = ⊎_elim (λ h. h) (λ none. absurd (fails none)) (claimed_or_not number cs)
  where
    fails : AllPass (λ n. not (n == number)) cs → ⊥
    fails none =
        let x = place_of t number lt in
        let test : ℕ → Bool = λ n. not (n == number) in
        let bound = good-bound t test None cs s.0 none in
        let here : 0 + number ≡ number = omega arith in
        let same : (number == number) ≡ true = grind (arith, nat_tests) in
        let less = fewer (λ n e. true) (candidates test None) (λ n e h. refl) 0 number t x.0 x.1 refl
        (rw here (rw same refl)) in
        omega (arith, bound, less, counts-le (λ n e. true) 0 t, s.1)

pub claims_of-append : {Z : Type 0} (xs ys : List (CallerView × Vec Receipt Z))
    → claims_of (xs ++ ys) ≡ claims_of xs ++ claims_of ys
claims_of-append [] ys = refl
claims_of-append (x ∷ xs) ys =
    ap (λ (cs : List Claim). map (claim x.0.number) x.1.items ++ cs) (claims_of-append xs ys) ∙ sym
    (append_assoc (map (claim x.0.number) x.1.items) (claims_of xs) (claims_of ys))

-- the claims of one more list
pub claims_more : {Z : Type 0} (lists : List (CallerView × Vec Receipt Z)) (i : ℕ) (x : CallerView × Vec Receipt Z)
    → i < length lists
    → x ≡ get_or lists i x
    → claims_of (take (i + 1) lists) ≡ claims_of (take i lists) ++ map (claim x.0.number) x.1.items
claims_more {Z} lists i x lt is =
    ap claims_of (take_more lists i x lt ∙ ap (λ (y : CallerView × Vec Receipt Z). take i lists ++ y ∷ []) (sym is))
    ∙ claims_of-append (take i lists) (x ∷ []) ∙ ap (λ (cs : List Claim). claims_of (take i lists) ++ cs)
    (append-nil (map (claim x.0.number) x.1.items))

-- all claims begin with those of the first lists
pub claims_split : {Z : Type 0} (lists : List (CallerView × Vec Receipt Z)) (i : ℕ)
    → claims_of lists ≡ claims_of (take i lists) ++ claims_of (drop i lists)
claims_split lists i = ap claims_of (sym (take-append-drop i lists)) ∙ claims_of-append (take i lists) (drop i lists)

take_past : (xs ys : List Claim) (k : ℕ) → take (length xs + k) (xs ++ ys) ≡ xs ++ take k ys
take_past [] ys k =
    let e : 0 + k ≡ k = omega arith in ap (λ (n : ℕ). take n ys) e
take_past (x ∷ xs) ys k =
    let e : suc (length xs) + k ≡ suc (length xs + k) = omega arith in
    ap (λ (n : ℕ). take n (x ∷ (xs ++ ys))) e ∙ ap (λ (l : List Claim). x ∷ l) (take_past xs ys k)

-- the first bad receipt, within the list of one caller
pub first_within : (t : List Entry) (front list rest all : List Claim) (k : ℕ)
    → all ≡ (front ++ list) ++ rest → k < length list
    → AreGood t None front → AreGood t (last_key None front) (take k list)
    → ¬ AreGood t (last_key None front) (take (k + 1) list) → IsFirstBad t all (length front + k)
first_within t front list rest all k is lt good here bad =
    let whole : all ≡ front ++ (list ++ rest) = is ∙ append_assoc front list rest in
    let cut : (n : ℕ) → n ≤ length list → take (length front + n) all ≡ front ++ take n list =
    λ n le. ap (λ (l : List Claim). take (length front + n) l) whole ∙ take_past front (list ++ rest) n ∙ ap
    (λ (l : List Claim). front ++ l) (take-append-le n list rest le) in
    let next : length front + k + 1 ≡ length front + (k + 1) = omega arith in (
      subst (λ (l : List Claim). AreGood t None l) (sym (cut k (omega arith)))
          (good-append t None front (take k list) good here),
      inl (
        omega (arith, ap length whole, length-append front (list ++ rest), length-append list rest),
        λ g. bad (good-rest t None front (take (k + 1) list)
            (subst (λ (l : List Claim). AreGood t None l)
            (ap (λ (n : ℕ). take n all) next ∙ cut (k + 1) (omega arith)) g)),
      ),
    )

-- a front and a good part of the next list have no more receipts than there are entries
pub fits_within : (t : List Entry) (front list : List Claim) → AreGood t None front
    → AreGood t (last_key None front) list
    → length front + length list ≤ length t
fits_within t front list good here =
    omega (arith, length-append front list, good-le t None (front ++ list) (good-append t None front list good here))

map_more : (by : ℕ) (xs : List Receipt) (i : ℕ) (x : Receipt) → i < length xs → x ≡ get_or xs i x
    → map (claim by) (take (i + 1) xs) ≡ map (claim by) (take i xs) ++ claim by x ∷ []
map_more by xs i x lt is =
    ap (map (claim by)) (take_more xs i x lt ∙ ap (λ (y : Receipt). take i xs ++ y ∷ []) (sym is))
    ∙ map-append (claim by)
    (take i xs) (x ∷ [])

-- one more good receipt
pub one_more_good : (t : List Entry) (b last : Option (ℕ × ℕ)) (by : ℕ) (xs : List Receipt) (i : ℕ) (x : Receipt)
    → i < length xs → x ≡ get_or xs i x
    → AreGood t b (map (claim by) (take i xs)) → last ≡ last_key b (map (claim by) (take i xs))
    → IsGood t last (claim by x)
    → AreGood t b (map (claim by) (take (i + 1) xs)) × (Some (key_of x) ≡ last_key b (map (claim by) (take (i + 1) xs)))
one_more_good t b last by xs i x lt is good key here =
    let front = map (claim by) (take i xs) in
    let more = map_more by xs i x lt is in (
      subst (λ (l : List Claim). AreGood t b l) (sym more)
          (good-append t b front (claim by x ∷ []) good
          (subst (λ (k : Option (ℕ × ℕ)). IsGood t k (claim by x)) key here, tt)),
      sym (ap (last_key b) more ∙ last_key-append b front (claim by x ∷ [])),
    )

-- one more bad receipt
pub one_more_bad : (t : List Entry) (b last : Option (ℕ × ℕ)) (by : ℕ) (xs : List Receipt) (i : ℕ) (x : Receipt)
    → i < length xs
    → x ≡ get_or xs i x
    → last ≡ last_key b (map (claim by) (take i xs)) → ¬ IsGood t last (claim by x)
    → ¬ AreGood t b (map (claim by) (take (i + 1) xs))
one_more_bad t b last by xs i x lt is key bad good =
    let front = map (claim by) (take i xs) in
    bad (subst (λ (k : Option (ℕ × ℕ)). IsGood t k (claim by x)) (sym key)
    (good-rest t b front (claim by x ∷ [])
    (subst (λ (l : List Claim). AreGood t b l) (map_more by xs i x lt is) good)).0)

-- one more caller's good receipts
pub list_good : {Z : Type 0} (t : List Entry) (lists : List (CallerView × Vec Receipt Z)) (i : ℕ)
    (x : CallerView × Vec Receipt Z) (by : ℕ)
    (items : List Receipt) (last key : Option (ℕ × ℕ)) (count len : ℕ)
    → i < length lists → x ≡ get_or lists i x → by ≡ x.0.number → items ≡ x.1.items
    → AreGood t None (claims_of (take i lists)) → last ≡ last_key None (claims_of (take i lists)) → count ≡ length
    (claims_of (take i lists))
    → AreGood t last (map (claim by) items) → key ≡ last_key last (map (claim by) items) → len ≡ length items
    → (AreGood t None
    (claims_of (take (i + 1) lists)) × (key ≡ last_key None (claims_of (take (i + 1) lists))) × (count + len ≡ length
    (claims_of (take (i + 1) lists)))) × (count + len ≤ length t)
list_good t lists i x by items last key count len lt is by_is items_is good last_is count_is here key_is len_is =
    let front = claims_of (take i lists) in
    let list = map (claim by) items in
    let more : claims_of (take (i + 1) lists) ≡ front ++ list =
    claims_more lists i x lt is ∙ ap (λ (l : List Receipt). front ++ map (claim x.0.number) l) (sym items_is) ∙ ap
    (λ (n : ℕ). front ++ map (claim n) items) (sym by_is) in
    let after : AreGood t (last_key None front) list = subst (λ (k : Option (ℕ × ℕ)). AreGood t k list) last_is here in
    let many : length list ≡ len = length-map items (claim by) ∙ sym len_is in (
      (
        subst (λ (l : List Claim). AreGood t None l) (sym more) (good-append t None front list good after),
        key_is ∙ ap (λ (k : Option (ℕ × ℕ)). last_key k list) last_is ∙ sym (last_key-append None front list) ∙ ap
            (last_key None) (sym more),
        omega (arith, ap length more, length-append front list, many, count_is),
      ),
      omega (arith, fits_within t front list good after, many, count_is),
    )

-- a bad receipt in one caller's list
pub list_bad : {Z : Type 0} (t : List Entry) (lists : List (CallerView × Vec Receipt Z)) (i : ℕ)
    (x : CallerView × Vec Receipt Z) (by : ℕ)
    (items : List Receipt) (last : Option (ℕ × ℕ)) (count k : ℕ)
    → i < length lists → x ≡ get_or lists i x → by ≡ x.0.number → items ≡ x.1.items
    → AreGood t None (claims_of (take i lists)) → last ≡ last_key None (claims_of (take i lists)) → count ≡ length
    (claims_of (take i lists))
    → (k < length items) × AreGood t last (map (claim by) (take k items))
    × ¬ AreGood t last (map (claim by) (take (k + 1) items))
    → IsFirstBad t (claims_of lists) (count + k) × (count + k ≤ length t)
list_bad t lists i x by items last count k lt is by_is items_is good last_is count_is bad =
    let front = claims_of (take i lists) in
    let list = map (claim by) items in
    let rest = claims_of (drop (i + 1) lists) in
    let more : claims_of (take (i + 1) lists) ≡ front ++ list =
    claims_more lists i x lt is ∙ ap (λ (l : List Receipt). front ++ map (claim x.0.number) l) (sym items_is) ∙ ap
    (λ (n : ℕ). front ++ map (claim n) items) (sym by_is) in
    let all : claims_of lists ≡ (front ++ list) ++ rest = claims_split lists (i + 1)
    ∙ ap (λ (l : List Claim). l ++ rest) more in
    let P : List Claim → Type 0 = λ l. AreGood t (last_key None front) l in
    let here : P (take k list) =
    subst P (sym (take-map (claim by) k items))
    (subst (λ (key : Option (ℕ × ℕ)). AreGood t key (map (claim by) (take k items))) last_is bad.1) in
    let next : ¬ P (take (k + 1) list) =
    λ g. bad.2
    (subst (λ (key : Option (ℕ × ℕ)). AreGood t key (map (claim by) (take (k + 1) items))) (sym last_is)
    (subst P (take-map (claim by) (k + 1) items) g)) in
    let many = length-map items (claim by) in
    let some = length-map (take k items) (claim by) in (
      subst (λ (n : ℕ). IsFirstBad t (claims_of lists) (n + k)) (sym count_is)
          (first_within t front list rest (claims_of lists) k all (omega (arith, many, bad.0)) good here next),
      omega (arith, fits_within t front (take k list) good here, length-take k list, many, bad.0, count_is),
    )
