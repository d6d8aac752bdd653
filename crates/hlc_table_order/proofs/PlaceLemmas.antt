-- An index: its members, the result of a binary search in it, and how it stays an index when rows are added. Its order
-- is total, so a sorted list ascends.
use Rattle.std.proofs.Common.{◌≡◌, ℕ, ◌+◌, ◌-◌, ◌<◌, ◌≤◌, true, false, List, [], ◌∷◌, ◌++◌, Some, None, length, get_or}
use Rattle.std.proofs.Common.{get_or-take, get_or-drop, length-drop, length-take-le, take-append-drop, length-append}
use Rattle.std.proofs.Common.{append_assoc, take, drop, refl, sym, ap, ◌∙◌, subst, inl, inr, arith, Contains, All, leb}
use Rattle.std.proofs.Common.{ltb, Bool}
use Rattle.std.specs.List.Sorted.{IsPartitionedBy, IsPartitionPoint, IsPermutation, IsSortedBy}
use Rattle.std.specs.{Cmp.IsTotalOrder, Ordering.nat_cmp, Ordering.ordering_then, Ordering.is_lt}
use Rattle.std.proofs.lemmas.Cmp.{then_total, on_total, back_total, nat_cmp_total}
use Rattle.std.proofs.lemmas.{Bool.cases_lt, Bool.Decides.nat_tests, List.get_or_default, List.get_or_append_left}
use Rattle.std.proofs.lemmas.{List.get_or-append_right, List.take-append-le, List.length_push, List.get_or_push}
use Rattle.std.proofs.lemmas.List.Sorted.{All-permutation, Contains-permutation, IsPermutation-append_right}
use Rattle.std.proofs.lemmas.List.Sorted.{length_permutation, sorted_far, ranks_by}
use Rattle.hlc_table_order.specs.Newest.{NotAbove, IsNewestBelow}
use Rattle.hlc_table_order.specs.Order.{Rises, IsIndex, IsNumbered, AreFirstWithin, place_cmp}
use Rattle.hlc_table_order.proofs.Best.{not_above_itself, not_above_trans}

-- the stamps ascend along an index, so those that pass a test come first if each lesser stamp passes it too
partitioned_by : (passes : ℕ → Bool) → ((x y : ℕ) → x ≤ y → passes y ≡ true → passes x ≡ true)
    → (ss ns order : List ℕ) → IsIndex ss ns order → IsPartitionedBy (λ p. passes (get_or ss p 0)) order
partitioned_by passes lesser ss ns order (long, below, every, rises) i j d le lt pass =
    let e = get_or_default order i 0 d (omega (arith, le, lt)) in
    let f = get_or_default order j 0 d lt in
    subst (λ p. passes (get_or ss p 0) ≡ true) e
    (lesser (get_or ss (get_or order i 0) 0) (get_or ss (get_or order j 0) 0) (rises i j le lt).0
    (subst (λ p. passes (get_or ss p 0) ≡ true) (sym f) pass))

pub stamps_partitioned : (ss ns order : List ℕ) (bound : ℕ) → IsIndex ss ns order
    → IsPartitionedBy (λ p. leb (get_or ss p 0) bound) order
stamps_partitioned ss ns order bound =
    partitioned_by (λ s. leb s bound) (λ x y le pass. grind (arith, nat_tests)) ss ns order

pub stamps_partitioned_below : (ss ns order : List ℕ) (stamp : ℕ) → IsIndex ss ns order
    → IsPartitionedBy (λ p. ltb (get_or ss p 0) stamp) order
stamps_partitioned_below ss ns order stamp =
    partitioned_by (λ s. ltb s stamp) (λ x y le pass. grind (arith, nat_tests)) ss ns order

-- if the last is at or below the bound, all are
pub all_indexed : (ss ns order : List ℕ) (bound : ℕ) → IsIndex ss ns order
    → get_or ss (get_or order (length order - 1) 0) 0 ≤ bound
    → IsPartitionPoint (λ p. leb (get_or ss p 0) bound ≡ true) (λ p. leb (get_or ss p 0) bound ≡ false) order
    (length order)
all_indexed ss ns order bound (long, below, every, rises) last = (
  λ i d lt inside.
      let e : get_or order i d ≡ get_or order i 0 = get_or_default order i d 0 inside in
      let le = (rises i (length order - 1) (omega (arith, inside)) (omega (arith, inside))).0 in
      subst (λ (p : ℕ). leb (get_or ss p 0) bound ≡ true) (sym e) (let low = le in grind (arith, nat_tests)),
  λ i d past inside. absurd (omega (arith, past, inside)),
)

-- those before one at or below the bound are at or below it too
pub first_within : (ss ns order : List ℕ) (bound count : ℕ) → IsIndex ss ns order → 0 < count → count ≤ length order
    → get_or ss (get_or order (count - 1) 0) 0 ≤ bound → AreFirstWithin ss order bound count
first_within ss ns order bound count (long, below, every, rises) some inside last i lt =
    let le = (rises i (count - 1) (omega (arith, lt)) (omega (arith, some, inside))).0 in omega (arith, le, last)

-- one more is
pub within_more : (ss order : List ℕ) (bound count : ℕ) → AreFirstWithin ss order bound count
    → get_or ss (get_or order count 0) 0 ≤ bound → AreFirstWithin ss order bound (count + 1)
within_more ss order bound count first here i lt = elim (cases_lt i count) [
  | inl before ↦ first i before
  | inr after ↦ let e : i ≡ count = omega (arith, lt, after) in
      subst (λ j. get_or ss (get_or order j 0) 0 ≤ bound) (sym e) here
]

-- the first are at or below the bound, and the next is not
pub point_after : (ss ns order : List ℕ) (bound count : ℕ) → IsIndex ss ns order → count ≤ length order
    → AreFirstWithin ss order bound count → (count < length order → bound < get_or ss (get_or order count 0) 0)
    → IsPartitionPoint (λ p. leb (get_or ss p 0) bound ≡ true) (λ p. leb (get_or ss p 0) bound ≡ false) order count
point_after ss ns order bound count (long, below, every, rises) some first next = (
  λ i d least lt.
      let e : get_or order i d ≡ get_or order i 0 = get_or_default order i d 0 (omega (arith, lt, some)) in
      subst (λ (p : ℕ). leb (get_or ss p 0) bound ≡ true) (sym e) (let low = first i lt in grind (arith, nat_tests)),
  λ i d past inside.
      let e : get_or order i d ≡ get_or order i 0 = get_or_default order i d 0 inside in
      let high = next (omega (arith, past, inside)) in
      let le = (rises count i past inside).0 in
      subst (λ (p : ℕ). leb (get_or ss p 0) bound ≡ false) (sym e) (let h = high in let l = le in
      grind (arith, nat_tests)),
)

-- no row is at or below the bound
pub none_indexed : (ss ns order : List ℕ) (bound : ℕ) → IsIndex ss ns order
    → IsPartitionPoint (λ p. leb (get_or ss p 0) bound ≡ true) (λ p. leb (get_or ss p 0) bound ≡ false) order 0
    → IsNewestBelow ss ns bound (length order) None
none_indexed ss ns order bound (long, below, every, rises) (front, back) p lt =
    let m = every p lt in
    let h = back m.0 p (omega arith) m.1 in
    let g : leb (get_or ss p 0) bound ≡ false = subst (λ (q : ℕ). leb (get_or ss q 0) bound ≡ false) m.2 h in
    grind (arith, nat_tests)

-- the last of those at or below the bound is the best
pub last_indexed : (ss ns order : List ℕ) (bound count : ℕ) → IsIndex ss ns order → 0 < count → count ≤ length order
    → IsPartitionPoint (λ p. leb (get_or ss p 0) bound ≡ true) (λ p. leb (get_or ss p 0) bound ≡ false) order count
    → IsNewestBelow ss ns bound (length order) (Some (get_or order (count - 1) 0))
last_indexed ss ns order bound count (long, below, every, rises) some inside (front, back) =
    let l : count - 1 < length order = omega (arith, some, inside) in
    let seen = front (count - 1) 0 (omega arith) (omega (arith, some)) in (
      below (count - 1) 0 l,
      (let s = seen in grind (arith, nat_tests)),
      λ p lt within.
          let m = every p lt in
          let at : get_or order m.0 0 ≡ p = get_or_default order m.0 0 p m.1 ∙ m.2 in
          elim (cases_lt m.0 count) [
            | inl before ↦ subst (λ (q : ℕ). NotAbove ss ns q (get_or order (count - 1) 0)) at
                (rises m.0 (count - 1) (omega (arith, before)) l)
            | inr after ↦ absurd
                (let h = subst (λ (q : ℕ). leb (get_or ss q 0) bound ≡ false) at (back m.0 0 after m.1) in
                grind (arith, nat_tests))
          ],
    )

-- the order of the index

pub place_order : (ss ns : List ℕ) → IsTotalOrder (place_cmp ss ns)
place_order ss ns =
    then_total (then_total (on_total (λ p. get_or ss p 0) nat_cmp_total) (on_total (λ p. get_or ns p 0) nat_cmp_total))
    (back_total nat_cmp_total)

not_less : (s t m n p q : ℕ) → is_lt (ordering_then (ordering_then (nat_cmp s t) (nat_cmp m n)) (nat_cmp p q)) ≡ false
    → (t ≤ s) × (t ≡ s → n ≤ m) × (t ≡ s → n ≡ m → q ≤ p)
not_less s t m n p q h =
    (grind (arith, nat_tests), λ x. grind (arith, nat_tests), λ x y. grind (arith, nat_tests))

pub sorted_rises : (ss ns order : List ℕ) → IsSortedBy (λ p q. is_lt (place_cmp ss ns p q)) order → Rises ss ns order
sorted_rises ss ns order sorted i j le lt =
    not_less (get_or ss (get_or order j 0) 0) (get_or ss (get_or order i 0) 0) (get_or ns (get_or order j 0) 0)
    (get_or ns (get_or order i 0) 0) (get_or order i 0) (get_or order j 0)
    (sorted_far (λ p q. is_lt (place_cmp ss ns p q))
    (ranks_by (place_order ss ns) (λ (p : ℕ). p)) order sorted i j 0 le lt)

-- all positions below the length, in ascending order of the rows
pub risen_index : (ss ns xs ys : List ℕ) → IsPermutation xs ys → length xs ≤ length ss → All (λ p. p < length xs) xs
    → ((p : ℕ) → p < length xs → Contains xs p) → Rises ss ns ys → IsIndex ss ns ys
risen_index ss ns xs ys moved long below every rises =
    let same : length ys ≡ length xs = length_permutation xs ys moved in (
      omega (arith, same, long),
      subst (λ (n : ℕ). All (λ p. p < n) ys) (sym same) (All-permutation (λ p. p < length xs) xs ys moved below),
      λ p lt. Contains-permutation xs ys p moved (every p (omega (arith, lt, same))),
      rises,
    )

-- an ascending front below a stamp, and an ascending tail that is not below it
pub joined_rises : (ss ns front tail : List ℕ) (stamp : ℕ) → Rises ss ns front → Rises ss ns tail
    → ((i : ℕ) → i < length front → get_or ss (get_or front i 0) 0 < stamp)
    → All (λ p. stamp ≤ get_or ss p 0) tail → Rises ss ns (front ++ tail)
joined_rises ss ns front tail stamp rises risen under over i j le lt =
    let wide = length-append front tail in
    elim (cases_lt j (length front)) [
      | inl before ↦
          subst (λ (p : ℕ). NotAbove ss ns p (get_or (front ++ tail) j 0))
          (sym (get_or_append_left front tail 0 i (omega (arith, le, before))))
          (subst (λ (q : ℕ). NotAbove ss ns (get_or front i 0) q) (sym (get_or_append_left front tail 0 j before))
          (rises i j le before))
      | inr after ↦
          subst (λ (q : ℕ). NotAbove ss ns (get_or (front ++ tail) i 0) q)
          (sym (get_or-append_right front tail (length front) j 0 refl after))
          (elim (cases_lt i (length front)) [
            | inl inside ↦ subst (λ (p : ℕ). NotAbove ss ns p (get_or tail (j - length front) 0))
                (sym (get_or_append_left front tail 0 i inside))
                (let a = under i inside in
                let b = over (j - length front) 0 (omega (arith, wide, lt, after)) in (
                  omega (arith, a, b),
                  λ same. absurd (omega (arith, a, b, same)),
                  λ same alike. absurd (omega (arith, a, b, same)),
                ))
            | inr beyond ↦ subst (λ (p : ℕ). NotAbove ss ns p (get_or tail (j - length front) 0))
                (sym (get_or-append_right front tail (length front) i 0 refl beyond))
                (risen (i - length front) (j - length front) (omega (arith, le, beyond, after))
                (omega (arith, wide, lt, after)))
          ])
    ]

-- all positions below the length, sorted
pub sorted_index : (ss ns xs ys : List ℕ) → IsPermutation xs ys → length xs ≤ length ss → All (λ p. p < length xs) xs
    → ((p : ℕ) → p < length xs → Contains xs p) → IsSortedBy (λ p q. is_lt (place_cmp ss ns p q)) ys → IsIndex ss ns ys
sorted_index ss ns xs ys moved long below every sorted =
    risen_index ss ns xs ys moved long below every (sorted_rises ss ns ys sorted)

-- the members of a numbered list
pub numbered_below : (old new : List ℕ) (count : ℕ) → IsNumbered old new count → length old ≤ count
    → All (λ p. p < length old) old → All (λ p. p < length new) new
numbered_below old new count (front, long, numbers) le below k d lt =
    elim (cases_lt k (length old)) [
      | inl before ↦
          let e : get_or new k d ≡ get_or old k d = ap (λ (l : List ℕ). get_or l k d) front.1
          ∙ get_or_append_left old front.0 d k before in
          let h = below k d before in
          omega (arith, e, h, long, le)
      | inr after ↦
          let e = get_or_default new k 0 d lt in
          let h = numbers k after (omega (arith, lt, long)) in
          omega (arith, e, h, lt)
    ]

pub numbered_every : (old new : List ℕ) (count : ℕ) → IsNumbered old new count
    → ((p : ℕ) → p < length old → Contains old p) → (p : ℕ) → p < length new → Contains new p
numbered_every old new count (front, long, numbers) every p lt =
    elim (cases_lt p (length old)) [
      | inl before ↦
          let m = every p before in
          let wide : length new ≡ length old + length front.0 = ap length front.1 ∙ length-append old front.0 in
          let l = m.1 in (
            m.0,
            omega (arith, wide, l),
            ap (λ (l : List ℕ). get_or l m.0 p) front.1 ∙ get_or_append_left old front.0 p m.0 m.1 ∙ m.2,
          )
      | inr after ↦ (p, lt, sym (get_or_default new p 0 p lt) ∙ numbers p after (omega (arith, lt, long)))
    ]

take_front : (xs ys : List ℕ) → take (length xs) (xs ++ ys) ≡ xs
take_front [] ys = refl
take_front (x ∷ xs) ys = ap (λ (l : List ℕ). x ∷ l) (take_front xs ys)

pub numbered_front : (old new : List ℕ) (count : ℕ) → IsNumbered old new count → take (length old) new ≡ old
numbered_front old new count (front, long, numbers) = ap (take (length old)) front.1 ∙ take_front old front.0

pub numbered_more : (old new : List ℕ) (count : ℕ) → IsNumbered old new count
    → IsNumbered old (new ++ count ∷ []) (count + 1)
numbered_more old new count (front, long, numbers) = (
  (front.0 ++ count ∷ [], ap (λ (l : List ℕ). l ++ count ∷ []) front.1 ∙ append_assoc old front.0 (count ∷ [])),
  length_push new count ∙ ap (λ n. n + 1) long,
  λ p le lt. elim (cases_lt p count) [
    | inl below ↦ get_or_append_left new (count ∷ []) 0 p (omega (arith, below, long)) ∙ numbers p le below
    | inr here ↦ let e : p ≡ count = omega (arith, lt, here) in get_or_push new count 0 p (long ∙ sym e) ∙ sym e
  ],
)

-- if all positions were numbered and those from one on sorted, which are the positions of all rows that are not below a
-- stamp
pub tail_index : (ss ns order all tail : List ℕ) (from least : ℕ) → IsIndex ss ns order
    → IsNumbered order all (length ss) → from ≤ length order
    → ((i : ℕ) → i < from → get_or ss (get_or order i 0) 0 < least)
    → ((i : ℕ) → from ≤ i → i < length order → least ≤ get_or ss (get_or order i 0) 0)
    → ((p : ℕ) → length order ≤ p → p < length ss → least ≤ get_or ss p 0)
    → IsPermutation (drop from all) tail → Rises ss ns tail → IsIndex ss ns (take from all ++ tail)
tail_index ss ns order all tail from least (room, below, every, rises) numbered fits under over new moved risen =
    let (rest, long, numbers) = numbered in
    let front : take from all ≡ take from order = ap (take from) rest.1 ∙ take-append-le from order rest.0 fits in
    let few : length (take from order) ≡ from = length-take-le from order fits in
    let at : (i : ℕ) → i < length (take from order) → get_or (take from order) i 0 ≡ get_or order i 0 =
    λ i lt. get_or-take from order i 0 (omega (arith, lt, few)) in
    risen_index ss ns all (take from all ++ tail)
    (subst (λ (xs : List ℕ). IsPermutation xs (take from all ++ tail)) (take-append-drop from all)
    (IsPermutation-append_right (take from all) (drop from all) tail moved))
    (omega (arith, long)) (numbered_below order all (length ss) numbered room below)
    (numbered_every order all (length ss) numbered every)
    (subst (λ (xs : List ℕ). Rises ss ns (xs ++ tail)) (sym front)
    (joined_rises ss ns (take from order) tail least
    (λ i j le lt.
    subst (λ (p : ℕ). NotAbove ss ns p (get_or (take from order) j 0)) (sym (at i (omega (arith, le, lt))))
    (subst (λ (q : ℕ). NotAbove ss ns (get_or order i 0) q) (sym (at j lt))
    (rises i j le (omega (arith, lt, few, fits)))))
    risen (λ i lt. subst (λ (p : ℕ). get_or ss p 0 < least) (sym (at i lt)) (under i (omega (arith, lt, few))))
    (All-permutation (λ p. least ≤ get_or ss p 0) (drop from all) tail moved (λ k d lt.
    let wide = length-drop from all in
    subst (λ (p : ℕ). least ≤ get_or ss p 0) (sym (get_or-drop from all k d))
    (elim (cases_lt (from + k) (length order)) [
      | inl before ↦
          subst (λ (p : ℕ). least ≤ get_or ss p 0)
          (sym (ap (λ (l : List ℕ). get_or l (from + k) d) rest.1 ∙ get_or_append_left order rest.0 d (from + k) before
          ∙ sym (get_or_default order (from + k) 0 d before)))
          (over (from + k) (omega arith) before)
      | inr after ↦
          let inside : from + k < length all = omega (arith, lt, wide) in
          subst (λ (p : ℕ). least ≤ get_or ss p 0) (sym
          (sym (get_or_default all (from + k) 0 d inside) ∙ numbers (from + k) after (omega (arith, inside, long))))
          (new (from + k) after (omega (arith, inside, long)))
    ])))))

-- the next position is appended if its row is above the last
pub pushed_index : (ss ns order : List ℕ) → IsIndex ss ns order → length order < length ss → 0 < length order
    → NotAbove ss ns (get_or order (length order - 1) 0) (length order) → IsIndex ss ns (order ++ length order ∷ [])
pushed_index ss ns order (long, below, every, rises) room some last =
    let n = length order in
    let same = length_push order n in (
      omega (arith, same, room),
      λ k d lt. elim (cases_lt k n) [
        | inl before ↦ let e = get_or_append_left order (n ∷ []) d k before in let h = below k d before in
            omega (arith, same, e, h)
        | inr after ↦ let e = get_or_push order n d k (omega (arith, lt, same, after)) in omega (arith, same, e)
      ],
      λ p lt. elim (cases_lt p n) [
        | inl before ↦ let m = every p before in let l = m.1 in
            (m.0, omega (arith, l, same), get_or_append_left order (n ∷ []) p m.0 m.1 ∙ m.2)
        | inr after ↦ (
          n,
          omega (arith, same),
          get_or_push order n p n refl ∙ (let e : n ≡ p = omega (arith, lt, same, after) in e),
        )
      ],
      λ i j le lt. elim (cases_lt j n) [
        | inl before ↦
            subst (λ (p : ℕ). NotAbove ss ns p (get_or (order ++ n ∷ []) j 0))
            (sym (get_or_append_left order (n ∷ []) 0 i (omega (arith, le, before))))
            (subst (λ (q : ℕ). NotAbove ss ns (get_or order i 0) q) (sym (get_or_append_left order (n ∷ []) 0 j before))
            (rises i j le before))
        | inr after ↦
            subst (λ (q : ℕ). NotAbove ss ns (get_or (order ++ n ∷ []) i 0) q)
            (sym (get_or_push order n 0 j (omega (arith, lt, same, after))))
            (elim (cases_lt i n) [
              | inl inside ↦ subst (λ (p : ℕ). NotAbove ss ns p n) (sym (get_or_append_left order (n ∷ []) 0 i inside))
                  (not_above_trans ss ns (get_or order i 0) (get_or order (n - 1) 0) n
                  (rises i (n - 1) (omega (arith, inside)) (omega (arith, some))) last)
              | inr end ↦ subst (λ (p : ℕ). NotAbove ss ns p n)
                  (sym (get_or_push order n 0 i (omega (arith, le, lt, same, end)))) (not_above_itself ss ns n)
            ])
      ],
    )

-- an index of some rows is an index of more rows
pub index_of_more : (ss ns order : List ℕ) (s n : ℕ) → length ns ≡ length ss → IsIndex ss ns order
    → IsIndex (ss ++ s ∷ []) (ns ++ n ∷ []) order
index_of_more ss ns order s n beside (long, below, every, rises) =
    let wide = length_push ss s in (
      omega (arith, wide, long),
      below,
      every,
      λ i j le lt.
          let li = below i 0 (omega (arith, le, lt)) in
          let lj = below j 0 lt in
          let (a, b, c) = rises i j le lt in
          let si = get_or_append_left ss (s ∷ []) 0 (get_or order i 0) (omega (arith, li, long)) in
          let sj = get_or_append_left ss (s ∷ []) 0 (get_or order j 0) (omega (arith, lj, long)) in
          let ni = get_or_append_left ns (n ∷ []) 0 (get_or order i 0) (omega (arith, li, long, beside)) in
          let nj = get_or_append_left ns (n ∷ []) 0 (get_or order j 0) (omega (arith, lj, long, beside)) in (
            omega (arith, a, si, sj),
            λ x. let h = b (sym si ∙ x ∙ sj) in omega (arith, h, ni, nj),
            λ x y. c (sym si ∙ x ∙ sj) (sym ni ∙ y ∙ nj),
          ),
    )

pub index_as : (ss ns rs ms order : List ℕ) → rs ≡ ss → ms ≡ ns → IsIndex ss ns order → IsIndex rs ms order
index_as ss ns rs ms order e f i =
    subst (λ (l : List ℕ). IsIndex l ms order) (sym e) (subst (λ (l : List ℕ). IsIndex ss l order) (sym f) i)
