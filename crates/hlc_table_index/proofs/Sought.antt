-- The position of a key divides the entries: keys ascend, so all entries before it are below the key, and no later one
-- is.
use Rattle.std.proofs.Common.{◌≡◌, ◌≢◌, ◌≤◌, ◌<◌, ◌+◌, ◌-◌, ◌++◌, ◌∷◌, ◌∙◌, ℕ, List, length-append, length-take}
use Rattle.std.proofs.Common.{take-append-drop, get_or-append-add, [], get_or, length, arith, refl, ap, sym, subst}
use Rattle.std.proofs.Common.{take, drop, Bool, true, false, All, Less, Equal, Greater, Ordering, inl, inr}
use Rattle.std.proofs.Common.{append_assoc}
use Rattle.std.specs.List.Sorted.{IsStrictlySortedBy}
use Rattle.std.proofs.lemmas.{Map.Keys.Less-from_sorted, Bool.cases_lt, List.get_or_append_left, List.get_or-map}
use Rattle.hlc_table_index.specs.Entries.{keys_in, key_cmp, IsSlot, IsAboveAt, IsUptoAt, first_keys, entries_in}
use Rattle.hlc_table_index.specs.Entries.{entries_before, entries_from}
use Rattle.hlc_table_index.proofs.{Heads.length_keys, Joined.joined_all, Places.slot_whole, Places.slot_first}
use Rattle.hlc_table_index.proofs.SlotLemmas.{parts, itself, other, keys_joined}

unlike : {a b : Ordering} → (a ≡ b → ⊥) → (o : Ordering) → o ≡ a → o ≡ b → ⊥
unlike ne o e f = ne (sym e ∙ f)

greater_less : Greater ≡ Less → ⊥
greater_less e = cc

equal_less : Equal ≡ Less → ⊥
equal_less e = cc

module _ {V : Type 0} where
  -- a position in the whole list
  module _ (es : List (List ℕ × V)) (key : List ℕ) (n : ℕ) (up : IsStrictlySortedBy key_cmp (keys_in es)) where
    below : (b : Bool) → IsSlot (keys_in es) key n b → (i : ℕ) → i < n → key_cmp (get_or (keys_in es) i []) key ≡ Less
    below false slot i lt = (parts es key n up slot).0 i lt
    below true slot i lt =
        subst (λ k. key_cmp (get_or (keys_in es) i []) k ≡ Less) slot.1
        (Less-from_sorted key_cmp (keys_in es) i n [] up lt slot.0)

    not_below : (b : Bool) → IsSlot (keys_in es) key n b → (i : ℕ) → n ≤ i → i < length es
        → key_cmp (get_or (keys_in es) i []) key ≢ Less
    not_below false slot i le lt = unlike greater_less _ ((parts es key n up slot).1 i le lt)
    not_below true slot i le lt = elim (cases_lt n i) [
      | inl less ↦ unlike greater_less _ (other key (get_or (keys_in es) i [])
          (subst (λ k. key_cmp k (get_or (keys_in es) i []) ≡ Less) slot.1
          (Less-from_sorted key_cmp (keys_in es) n i [] up less (let m = length_keys es in omega (arith, lt, m)))))
      | inr more ↦ unlike equal_less _
          (subst (λ m. key_cmp (get_or (keys_in es) m []) key ≡ Equal) (let e : n ≡ i = omega (arith, le, more) in e)
          (subst (λ k. key_cmp k key ≡ Equal) (sym slot.1) (itself key)))
    ]

    -- two lists that are the whole one, divided at the position
    module _ (b : Bool) (slot : IsSlot (keys_in es) key n b) (front back : List (List ℕ × V)) (is : es ≡ front ++ back)
        (at : length front ≡ n) where
      key_of : (i : ℕ) (d : List ℕ × V) → i < length es → (get_or es i d).0 ≡ get_or (keys_in es) i []
      key_of i d lt = sym (get_or-map (λ (e : List ℕ × V). e.0) es i d [] lt)

      long : length es ≡ length front + length back
      long = ap length is ∙ length-append front back

      pub front_below : All (λ e. key_cmp e.0 key ≡ Less) front
      front_below i d lt =
          let m = long in
          let e : (get_or front i d).0 ≡ get_or (keys_in es) i [] =
          ap (λ (x : List ℕ × V). x.0) (sym (get_or_append_left front back d i lt))
          ∙ ap (λ l. (get_or l i d).0) (sym is) ∙ key_of i d (omega (arith, lt, m)) in
          subst (λ k. key_cmp k key ≡ Less) (sym e) (below b slot i (omega (arith, lt, at)))

      pub back_not_below : All (λ e. key_cmp e.0 key ≢ Less) back
      back_not_below i d lt =
          let m = long in
          let e : (get_or back i d).0 ≡ get_or (keys_in es) (length front + i) [] =
          ap (λ (x : List ℕ × V). x.0) (sym (get_or-append-add front back i d))
          ∙ ap (λ l. (get_or l (length front + i) d).0) (sym is) ∙ key_of (length front + i) d (omega (arith, lt, m)) in
          subst (λ k. key_cmp k key ≢ Less) (sym e)
          (not_below b slot (length front + i) (omega (arith, at)) (omega (arith, lt, m)))

  -- a slot of a leaf divides the whole list
  pub parted : (ls : List (List (List ℕ × V))) (at slot : ℕ) → at < length ls
      → entries_in ls ≡ entries_before ls at slot ++ entries_from ls at slot
  parted ls at slot inside =
      joined_all ls at inside ∙ ap (λ m. entries_in (take at ls) ++ m ++ entries_in (drop (at + 1) ls))
      (sym (take-append-drop slot (get_or ls at []))) ∙ simp append_assoc

  pub parted_first : (ls : List (List (List ℕ × V))) → entries_in ls ≡ entries_before ls 0 0 ++ entries_from ls 0 0
  parted_first [] = refl
  parted_first (l ∷ ls) = refl

  -- the slot that the search of a leaf found
  module _ (ls : List (List (List ℕ × V))) (count slot : ℕ) (key : List ℕ) (leaf : List (List ℕ × V)) (b : Bool)
      (filled : All (λ leaf. 0 < length leaf) ls) (some : count ≡ 0 → ⊥) (inside : count ≤ length ls)
      (upto : IsUptoAt (first_keys ls) count key) (above : IsAboveAt (first_keys ls) count key)
      (own : leaf ≡ get_or ls (count - 1) []) (is : IsSlot (keys_in leaf) key slot b)
      (up : IsStrictlySortedBy key_cmp (keys_in (entries_in ls))) where
    more : 0 < count
    more = omega (arith, some)

    pub slot_inside : slot ≤ length (get_or ls (count - 1) [])
    slot_inside = subst (λ l. slot ≤ length l) own (go b is)
      where
        go : (b : Bool) → IsSlot (keys_in leaf) key slot b → slot ≤ length leaf
        go true is = let lt = is.0 in let m = length_keys leaf in omega (arith, lt, m)
        go false is = let le = is.0 in let m = length_keys leaf in omega (arith, le, m)

    front_long : length (entries_before ls (count - 1) slot) ≡ length (entries_in (take (count - 1) ls)) + slot
    front_long =
        let m = length-append (entries_in (take (count - 1) ls)) (take slot (get_or ls (count - 1) [])) in
        omega (arith, length-take slot (get_or ls (count - 1) []), slot_inside)

    pub leaf_parted : entries_in ls ≡ entries_before ls (count - 1) slot ++ entries_from ls (count - 1) slot
    leaf_parted = parted ls (count - 1) slot (omega (arith, some, inside))

    whole_slot : (b : Bool) → IsSlot (keys_in (get_or ls (count - 1) [])) key slot b
        → IsSlot (keys_in (entries_in ls)) key (length (entries_in (take (count - 1) ls)) + slot) b
    whole_slot false is = slot_whole ls count slot key filled more inside upto above is
    whole_slot true is =
        let a : List (List ℕ × V) = entries_in (take (count - 1) ls) in
        let l : List (List ℕ × V) = get_or ls (count - 1) [] in
        let z : List (List ℕ × V) = entries_in (drop (count - 1 + 1) ls) in
        let lt = is.0 in
        let few = length_keys l in
        let joined = joined_all ls (count - 1) (omega (arith, some, inside)) in
        let long = ap length joined in
        let one = length-append (a ++ l) z in
        let two = length-append a l in
        let keys = length_keys (entries_in ls) in (
          omega (arith, lt, few, long, one, two, keys),
          ap (λ (es : List (List ℕ × V)). get_or (keys_in es) (length a + slot) []) joined
              ∙ keys_joined a l z slot (omega (arith, lt, few)) ∙ is.1,
        )

    there : IsSlot (keys_in (entries_in ls)) key (length (entries_in (take (count - 1) ls)) + slot) b
    there = whole_slot b (subst (λ l. IsSlot (keys_in l) key slot b) own is)

    pub leaf_front : All (λ e. key_cmp e.0 key ≡ Less) (entries_before ls (count - 1) slot)
    leaf_front = front_below (entries_in ls) key (length (entries_in (take (count - 1) ls)) + slot) up b there
        (entries_before ls (count - 1) slot) (entries_from ls (count - 1) slot) leaf_parted front_long

    pub leaf_back : All (λ e. key_cmp e.0 key ≢ Less) (entries_from ls (count - 1) slot)
    leaf_back = back_not_below (entries_in ls) key (length (entries_in (take (count - 1) ls)) + slot) up b there
        (entries_before ls (count - 1) slot) (entries_from ls (count - 1) slot) leaf_parted front_long

  -- before all leaves
  pub first_back : (ls : List (List (List ℕ × V))) (key : List ℕ) (count : ℕ) → All (λ leaf. 0 < length leaf) ls
      → IsAboveAt (first_keys ls) count key → count ≡ 0 → IsStrictlySortedBy key_cmp (keys_in (entries_in ls))
      → All (λ e. key_cmp e.0 key ≢ Less) (entries_from ls 0 0)
  first_back ls key count filled above none up =
      back_not_below (entries_in ls) key 0 up false
      (slot_first ls key filled (subst (λ n. IsAboveAt (first_keys ls) n key) none above))
      [] (entries_from ls 0 0) (parted_first ls) refl
