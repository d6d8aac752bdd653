-- The position of a key among ascending keys determines the result of its look-up and the position of a new entry.
use Rattle.std.proofs.Common.{Bool, filter, ◌≡◌, ◌≤◌, ◌<◌, ◌+◌, ◌-◌, ◌++◌, ◌∷◌, ◌∙◌, ℕ, zero, suc, List, [], get_or}
use Rattle.std.proofs.Common.{length, arith, slice_get, length-append, refl, ap, sym, subst, unwrap_or, false, cond}
use Rattle.std.proofs.Common.{None, Some, Less, Equal, Greater, nat_cmp, inl, inr, is_eq, insert}
use Rattle.std.specs.Ordering.{ordering_then, ordering_reverse, match_ordering}
use Rattle.hlc_table_index.proofs.Heads.{is_equal, length_keys}
use Rattle.std.specs.{List.AllByRecursion, List.Sorted.IsStrictlySortedBy, Map.lookup, BTreeMap.insert_entry}
use Rattle.std.specs.Cmp.Lexicographic.{slice_cmp, nat_list_cmp_total}
use Rattle.std.proofs.lemmas.{Map.Keys.Less-from_sorted, Map.Keys.sorted_tail, Bool.cases_lt, Bool.cond_both}
use Rattle.std.proofs.lemmas.List.{length-map, map-append, get_or_append_left}
use Rattle.hlc_table_index.specs.Entries.{keys_in, key_cmp, is_key, IsSlot, first_key}

pub other : (a b : List ℕ) → key_cmp a b ≡ Less → key_cmp b a ≡ Greater
other a b lt = nat_list_cmp_total.antisymm b a ∙ ap ordering_reverse lt

over : (a b : List ℕ) → key_cmp a b ≡ Greater → key_cmp b a ≡ Less
over a b gt = nat_list_cmp_total.antisymm b a ∙ ap ordering_reverse gt

pub itself : (key : List ℕ) → key_cmp key key ≡ Equal
itself [] = refl
itself (x ∷ xs) = ap (λ o. ordering_then o (slice_cmp nat_cmp xs xs)) (is_equal x x refl) ∙ itself xs

all_past : (a b : List ℕ) (ks : List (List ℕ)) → key_cmp a b ≡ Less → AllByRecursion (λ y. key_cmp b y ≡ Less) ks
    → AllByRecursion (λ y. key_cmp a y ≡ Less) ks
all_past a b [] lt all = tt
all_past a b (k ∷ ks) lt all = (nat_list_cmp_total.trans a b k lt all.0, all_past a b ks lt all.1)

pub none_some : {X : Type 0} {x : X} → None ≡ Some x → ⊥
none_some e = cc

module _ {V : Type 0} where
  -- every key before the position is below the key, and every key from there on is above it
  abbrev Parts : List (List ℕ × V) → List ℕ → ℕ → Type 0
  Parts es key n =
      ((i : ℕ) → i < n → key_cmp (get_or (keys_in es) i []) key ≡ Less)
      × ((i : ℕ) → n ≤ i → i < length es → key_cmp (get_or (keys_in es) i []) key ≡ Greater)

  tail_front : (e : List ℕ × V) (es : List (List ℕ × V)) (key : List ℕ) (n : ℕ) → Parts (e ∷ es) key (suc n) → Parts es
      key n
  tail_front e es key n p = (
    λ i lt. p.0 (suc i) (omega (arith, lt)),
    λ i le lt. p.1 (suc i) (omega (arith, le)) (omega
        (arith, lt)),
  )

  tail_back : (e : List ℕ × V) (es : List (List ℕ × V)) (key : List ℕ) → Parts (e ∷ es) key 0 → Parts es key 0
  tail_back e es key p = (λ i lt. absurd (omega (arith, lt)), λ i le lt. p.1 (suc i) (omega arith) (omega (arith, lt)))

  pub absent_lookup : (es : List (List ℕ × V)) (key : List ℕ) (n : ℕ) → Parts es key n → lookup (is_key key) es ≡ None
  absent_lookup [] key n p = refl
  absent_lookup (e ∷ es) key zero p =
      ap (λ o. cond (is_eq o) (Some e.1) (lookup (is_key key) es)) (over e.0 key (p.1 0 (omega arith) (omega arith)))
      ∙ absent_lookup es key 0 (tail_back e es key p)
  absent_lookup (e ∷ es) key (suc n) p =
      ap (λ o. cond (is_eq o) (Some e.1) (lookup (is_key key) es)) (other e.0 key (p.0 0 (omega arith)))
      ∙ absent_lookup es key n (tail_front e es key n p)

  pub inserted_at : (es : List (List ℕ × V)) (key : List ℕ) (v : V) (n : ℕ) → n ≤ length es → Parts es key n
      → insert_entry key_cmp es key v ≡ insert es n (key, v)
  inserted_at [] key v zero le p = refl
  inserted_at [] key v (suc n) le p = absurd (omega (arith, le))
  inserted_at (e ∷ es) key v zero le p =
      ap (λ o. match_ordering o ((key, v) ∷ e ∷ es) ((e.0, v) ∷ es) (e ∷ insert_entry key_cmp es key v))
      (over e.0 key (p.1 0 (omega arith) (omega arith)))
  inserted_at (e ∷ es) key v (suc n) le p =
      ap (λ o. match_ordering o ((key, v) ∷ e ∷ es) ((e.0, v) ∷ es) (e ∷ insert_entry key_cmp es key v))
      (other e.0 key (p.0 0 (omega arith)))
      ∙ ap (λ l. e ∷ l) (inserted_at es key v n (omega (arith, le)) (tail_front e es key n p))

  -- among ascending keys, the neighbours of a slot decide about all keys
  pub parts : (es : List (List ℕ × V)) (key : List ℕ) (n : ℕ) → IsStrictlySortedBy key_cmp (keys_in es)
      → IsSlot (keys_in es) key n false → Parts es key n
  parts es key n up slot = (
    λ i lt. elim (cases_lt i (n - 1)) [
      | inl less ↦ nat_list_cmp_total.trans (get_or (keys_in es) i []) (get_or (keys_in es) (n - 1) []) key
          (Less-from_sorted key_cmp (keys_in es) i (n - 1) [] up less (let le = slot.0 in omega (arith, le, lt)))
          (slot.1 (omega (arith, lt)))
      | inr more ↦ subst (λ m. key_cmp (get_or (keys_in es) m []) key ≡ Less)
          (let e : n - 1 ≡ i = omega (arith, lt, more) in e) (slot.1 (omega (arith, lt)))
    ],
    λ i le lt. let long = length-map es (λ (e : List ℕ × V). e.0) in
        elim (cases_lt n i) [
          | inl less ↦ other key (get_or (keys_in es) i []) (nat_list_cmp_total.trans key (get_or (keys_in es) n [])
              (get_or (keys_in es) i [])
              (over (get_or (keys_in es) n []) key (slot.2 (omega (arith, less, lt, long))))
              (Less-from_sorted key_cmp (keys_in es) n i [] up less (omega (arith, lt, long))))
          | inr more ↦ subst (λ m. key_cmp (get_or (keys_in es) m []) key ≡ Greater)
              (let e : n ≡ i = omega (arith, le, more) in e) (slot.2 (omega (arith, le, lt, more, long)))
        ],
  )

  -- a key at a slot among ascending keys is found there
  pub at_key : (es : List (List ℕ × V)) (n : ℕ) (key : List ℕ) (v : V) → slice_get es n ≡ Some (key, v)
      → get_or (keys_in es) n [] ≡ key
  at_key [] n key v is = absurd (none_some is)
  at_key (e ∷ es) zero key v is = ap (λ o. (unwrap_or {T = List ℕ × V} o (key, v)).0) is
  at_key (e ∷ es) (suc n) key v is = at_key es n key v is

  pub found_lookup : (es : List (List ℕ × V)) (key : List ℕ) (v : V) (n : ℕ) → IsStrictlySortedBy key_cmp (keys_in es)
      → n < length es → slice_get es n ≡ Some (key, v) → lookup (is_key key) es ≡ Some v
  found_lookup [] key v n up lt is = absurd (omega (arith, lt))
  found_lookup (e ∷ es) key v zero up lt is =
      let same : e ≡ (key, v) = ap (λ o. unwrap_or {T = List ℕ × V} o (key, v)) is in
      ap (λ (p : List ℕ × V). cond (is_eq (key_cmp key p.0)) (Some p.1) (lookup (is_key key) es)) same
      ∙ ap (λ o. cond (is_eq o) (Some v) (lookup (is_key key) es)) (itself key)
  found_lookup (e ∷ es) key v (suc n) up lt is =
      let long = length_keys es in
      let less : key_cmp e.0 (get_or (keys_in es) n []) ≡ Less =
      Less-from_sorted key_cmp (keys_in (e ∷ es)) 0 (suc n) [] up (omega arith) (omega (arith, lt, long)) in
      ap (λ o. cond (is_eq o) (Some e.1) (lookup (is_key key) es))
      (other e.0 key (subst (λ k. key_cmp e.0 k ≡ Less) (at_key es n key v is) less))
      ∙ found_lookup es key v n (sorted_tail key_cmp e.0 (keys_in es) up) (omega (arith, lt)) is

  -- with a new key at its slot the keys still ascend
  all_with : (P : List ℕ → Type 0) (es : List (List ℕ × V)) (n : ℕ) (e : List ℕ × V) → AllByRecursion P (keys_in es) → P
      e.0 → AllByRecursion P (keys_in (insert es n e))
  all_with P [] zero e all one = (one, tt)
  all_with P [] (suc n) e all one = (one, tt)
  all_with P (x ∷ xs) zero e all one = (one, all)
  all_with P (x ∷ xs) (suc n) e all one = (all.0, all_with P xs n e all.1 one)

  pub ascend_with : (es : List (List ℕ × V)) (key : List ℕ) (v : V) (n : ℕ) → n ≤ length es → Parts es key n
      → IsStrictlySortedBy key_cmp (keys_in es) → IsStrictlySortedBy key_cmp (keys_in (insert es n (key, v)))
  unfolding IsStrictlySortedBy
  ascend_with [] key v zero le p up = (tt, tt)
  ascend_with [] key v (suc n) le p up = absurd (omega (arith, le))
  ascend_with (e ∷ es) key v zero le p up =
      let lt = over e.0 key (p.1 0 (omega arith) (omega arith)) in
      ((lt, all_past key e.0 (keys_in es) lt up.0), up)
  ascend_with (e ∷ es) key v (suc n) le p up = (
    all_with (λ y. key_cmp e.0 y ≡ Less) es n (key, v) up.0 (p.0 0 (omega arith)),
    ascend_with es key v n (omega (arith, le)) (tail_front e es key n p) up.1,
  )

  -- the keys of some of the entries are some of the keys, and still ascend
  pub all_kept : (P : List ℕ → Type 0) (p : List ℕ × V → Bool) (es : List (List ℕ × V)) → AllByRecursion P (keys_in es)
      → AllByRecursion P (keys_in (filter p es))
  all_kept P p [] all = tt
  all_kept P p (e ∷ es) all =
      cond_both (p e) (e ∷ filter p es) (filter p es) (λ l. AllByRecursion P (keys_in l))
      (λ t. (all.0, all_kept P p es all.1)) (λ f. all_kept P p es all.1)

  pub ascend_kept : (p : List ℕ × V → Bool) (es : List (List ℕ × V)) → IsStrictlySortedBy key_cmp (keys_in es)
      → IsStrictlySortedBy key_cmp (keys_in (filter p es))
  unfolding IsStrictlySortedBy
  ascend_kept p [] up = tt
  ascend_kept p (e ∷ es) up =
      cond_both (p e) (e ∷ filter p es) (filter p es) (λ l. IsStrictlySortedBy key_cmp (keys_in l))
      (λ t. (all_kept (λ k. key_cmp e.0 k ≡ Less) p es up.0, ascend_kept p es up.1)) (λ f. ascend_kept p es up.1)

  -- from a leaf's slot to the whole list
  pub keys_joined : (front leaf back : List (List ℕ × V)) (i : ℕ) → i < length leaf
      → get_or (keys_in (front ++ leaf ++ back)) (length front + i) [] ≡ get_or (keys_in leaf) i []
  keys_joined [] leaf back i lt =
      ap (λ (ks : List (List ℕ)). get_or ks (0 + i) []) (map-append (λ (e : List ℕ × V). e.0) leaf back)
      ∙ get_or_append_left (keys_in leaf) (keys_in back) [] (0 + i) (let m = length_keys leaf in omega (arith, lt, m))
      ∙ ap (λ m. get_or (keys_in leaf) m []) (let e : 0 + i ≡ i = omega arith in e)
  keys_joined (x ∷ xs) leaf back i lt =
      ap (λ m. get_or (keys_in (x ∷ (xs ++ leaf ++ back))) m []) (let e : length (x ∷ xs) + i ≡ suc (length xs + i) =
      omega arith in e) ∙ keys_joined xs leaf back i lt

  pub entry_joined : (front leaf back : List (List ℕ × V)) (i : ℕ) → i < length leaf
      → slice_get (front ++ leaf ++ back) (length front + i) ≡ slice_get leaf i
  entry_joined [] leaf back i lt =
      ap (slice_get (leaf ++ back)) (let e : 0 + i ≡ i = omega arith in e) ∙ entry_front leaf back i lt
    where
      entry_front : (leaf back : List (List ℕ × V)) (i : ℕ) → i < length leaf → slice_get (leaf ++ back) i ≡ slice_get
          leaf i
      entry_front [] back i lt = absurd (omega (arith, lt))
      entry_front (y ∷ ys) back zero lt = refl
      entry_front (y ∷ ys) back (suc i) lt = entry_front ys back i (omega (arith, lt))
  entry_joined (x ∷ xs) leaf back i lt =
      ap (λ m. slice_get (x ∷ (xs ++ leaf ++ back)) m) (let e : length (x ∷ xs) + i ≡ suc (length xs + i) = omega arith
      in e) ∙ entry_joined xs leaf back i lt

  first_back : (front back : List (List ℕ × V)) (n : ℕ) → n ≡ length front → 0 < length back
      → get_or (keys_in (front ++ back)) n [] ≡ first_key back
  first_back front back n is some =
      ap (λ m. get_or (keys_in (front ++ back)) m []) is ∙ at_end front back
    where
      at_end : (front back : List (List ℕ × V)) → get_or (keys_in (front ++ back)) (length front) [] ≡ first_key back
      at_end [] back = refl
      at_end (x ∷ xs) back = at_end xs back

  pub slot_joined : (front leaf back : List (List ℕ × V)) (key : List ℕ) (n : ℕ) → 0 < n → IsSlot (keys_in leaf) key n
      false → (0 < length back → key_cmp (first_key back) key ≡ Greater)
      → IsSlot (keys_in (front ++ leaf ++ back)) key (length front + n) false
  slot_joined front leaf back key n some slot above =
      let long = length_keys (front ++ leaf ++ back) in
      let few = length_keys leaf in
      let sum = length-append (front ++ leaf) back in
      let sum' = length-append front leaf in
      let le = slot.0 in (
        omega (arith, long, few, sum, sum', le),
        λ _. subst (λ k. key_cmp k key ≡ Less)
            (sym (ap (λ m. get_or (keys_in (front ++ leaf ++ back)) m []) (let e : length front + n - 1 ≡ length front +
            (n - 1) = omega (arith, some) in e) ∙ keys_joined front leaf back (n - 1) (omega (arith, some, le, few))))
            (slot.1 some),
        λ inside. elim (cases_lt n (length leaf)) [
          | inl less ↦ subst (λ k. key_cmp k key ≡ Greater) (sym (keys_joined front leaf back n less)) (slot.2 (omega
              (arith, less, few)))
          | inr more ↦
              let end : n ≡ length leaf = omega (arith, more, le, few) in
              let left : 0 < length back = omega (arith, inside, long, sum, sum', end) in
              subst (λ k. key_cmp k key ≡ Greater)
              (sym (first_back (front ++ leaf) back (length front + n) (omega (arith, sum', end)) left))
              (above left)
        ],
      )
