-- From a leaf and a slot to the position in the whole list, and what is known of that position.
use Rattle.std.proofs.Common.{◌≡◌, ◌≤◌, ◌<◌, ◌+◌, ◌-◌, ◌++◌, ◌∷◌, ◌∙◌, ℕ, List, [], get_or, length, arith, slice_get}
use Rattle.std.proofs.Common.{take_all, length-append, length-drop, refl, ap, sym, subst, take, drop, Bool, true, false}
use Rattle.std.proofs.Common.{None, Some, Less, Greater, All, ◌⊎◌, inl, inr, ap₂, true≢false, Ok, Err, OnOk, OnErr}
use Rattle.std.proofs.Common.{Result}
use Rattle.std.specs.{List.insert, List.Sorted.IsStrictlySortedBy, Map.lookup, BTreeMap.insert_entry}
use Rattle.std.proofs.lemmas.Bool.{cases_lt}
use Rattle.std.proofs.lemmas.List.{Concat.flat_map-append, drop_all, drop_more, get_or-map, length-map}
use Rattle.hlc_table_index.specs.Entries.{keys_in, key_cmp, is_key, IsSlot, IsAboveAt, IsUptoAt, first_key, first_keys}
use Rattle.hlc_table_index.specs.Entries.{entries_in, entries_with, IsGap}
use Rattle.hlc_table_index.proofs.{Joined.joined_all, Joined.insert_front, Joined.insert_back, Heads.length_keys}
use Rattle.hlc_table_index.proofs.SlotLemmas.{parts, absent_lookup, inserted_at, found_lookup, ascend_with}
use Rattle.hlc_table_index.proofs.SlotLemmas.{entry_joined, slot_joined}

module _ {V : Type 0} where
  -- a new entry at a slot of the whole list
  pub put_at : (es : List (List ℕ × V)) (key : List ℕ) (v : V) (n : ℕ) → IsStrictlySortedBy key_cmp (keys_in es)
      → IsSlot (keys_in es) key n false → insert_entry key_cmp es key v ≡ insert es n (key, v)
  put_at es key v n up slot =
      inserted_at es key v n (let le = slot.0 in let m = length_keys es in omega (arith, le, m)) (parts es key n up
      slot)

  pub still_ascend : (es now : List (List ℕ × V)) (key : List ℕ) (v : V) (n : ℕ) → IsStrictlySortedBy key_cmp (keys_in
      es) → IsSlot (keys_in es) key n false → now ≡ insert es n (key, v) → IsStrictlySortedBy key_cmp (keys_in now)
  still_ascend es now key v n up slot is =
      subst (λ l. IsStrictlySortedBy key_cmp (keys_in l)) (sym is)
      (ascend_with es key v n (let le = slot.0 in let m = length_keys es in omega (arith, le, m)) (parts es key n up
      slot) up)

  -- the entries with one more in a leaf are the whole list with one more at its position
  pub with_is : (ls : List (List (List ℕ × V))) (at slot : ℕ) (e : List ℕ × V) → at < length ls → slot ≤ length (get_or
      ls at []) → entries_with ls at slot e ≡ insert (entries_in ls) (length (entries_in (take at ls)) + slot) e
  with_is ls at slot e inside le =
      ap (λ zs. zs ++ entries_in (drop (at + 1) ls))
      (insert_back (entries_in (take at ls)) (get_or ls at []) (length (entries_in (take at ls)) + slot) slot e refl)
      ∙ insert_front (entries_in (take at ls) ++ get_or ls at []) (entries_in (drop (at + 1) ls))
      (length (entries_in (take at ls)) + slot) e
      (let m = length-append (entries_in (take at ls)) (get_or ls at []) in omega (arith, m, le))
      ∙ ap (λ l. insert l (length (entries_in (take at ls)) + slot) e) (sym (joined_all ls at inside))

  first_of : (x y : List (List ℕ × V)) → 0 < length x → first_key (x ++ y) ≡ first_key x
  first_of [] y some = absurd (omega (arith, some))
  first_of (e ∷ x) y some = refl

  -- after the leaves that begin at or below a key all keys are above it
  pub first_after : (ls : List (List (List ℕ × V))) (n : ℕ) (key : List ℕ) → All (λ leaf. 0 < length leaf) ls
      → IsAboveAt (first_keys ls) n key → 0 < length (entries_in (drop n ls)) → key_cmp (first_key (entries_in (drop n
      ls))) key ≡ Greater
  first_after ls n key filled above some = elim (cases_lt n (length ls)) [
    | inl less ↦
        let e : drop n ls ≡ get_or ls n [] ∷ drop (n + 1) ls = drop_more ls n [] less in
        let f : get_or (first_keys ls) n [] ≡ first_key (get_or ls n []) = get_or-map first_key ls n [] [] less in
        subst (λ k. key_cmp k key ≡ Greater)
        (f ∙ sym (ap (λ l. first_key (entries_in l)) e ∙ first_of (get_or ls n []) (entries_in (drop (n + 1) ls))
        (filled n [] less)))
        (above (let m = length-map ls first_key in omega (arith, m, less)))
    | inr more ↦ absurd (none_left (drop n ls) (let m = length-drop n ls in omega (arith, m, more)) some)
  ]
    where
      none_left : (xs : List (List (List ℕ × V))) → length xs ≡ 0 → 0 < length (entries_in xs) → ⊥
      none_left [] e some = omega (arith, some)
      none_left (x ∷ xs) e some = omega (arith, e)

  -- the leaf before those that begin above a key
  module _ (ls : List (List (List ℕ × V))) (count slot : ℕ) (key : List ℕ) (filled : All (λ leaf. 0 < length leaf) ls)
      (some : 0 < count) (inside : count ≤ length ls) (upto : IsUptoAt (first_keys ls) count key)
      (above : IsAboveAt (first_keys ls) count key) where
    abbrev pub place : ℕ
    place = length (entries_in (take (count - 1) ls)) + slot

    next : count - 1 + 1 ≡ count
    next = omega (arith, some)

    whole : entries_in ls ≡ entries_in (take (count - 1) ls) ++ get_or ls (count - 1) [] ++ entries_in (drop (count - 1
        + 1) ls)
    whole = joined_all ls (count - 1) (omega (arith, some, inside))

    first_is : get_or (first_keys ls) (count - 1) [] ≡ get_or (keys_in (get_or ls (count - 1) [])) 0 []
    first_is = get_or-map first_key ls (count - 1) [] [] (omega (arith, some, inside))

    not_first : IsSlot (keys_in (get_or ls (count - 1) [])) key slot false → 0 < slot
    not_first is = elim (cases_lt 0 slot) [
      | inl less ↦ less
      | inr more ↦
          let none : slot ≡ 0 = omega (arith, more) in
          absurd (upto some (ap (λ k. key_cmp k key) first_is
          ∙ subst (λ n. key_cmp (get_or (keys_in (get_or ls (count - 1) [])) n []) key ≡ Greater) none
          (is.2 (let m = length_keys (get_or ls (count - 1) []) in
          let f = filled (count - 1) [] (omega (arith, some, inside)) in omega (arith, none, m, f)))))
    ]

    pub slot_whole : IsSlot (keys_in (get_or ls (count - 1) [])) key slot false → IsSlot (keys_in (entries_in ls)) key
        place false
    slot_whole is =
        subst (λ l. IsSlot (keys_in l) key place false) (sym whole)
        (slot_joined (entries_in (take (count - 1) ls)) (get_or ls (count - 1) []) (entries_in (drop (count - 1 + 1)
        ls)) key slot
        (not_first is) is (first_after ls (count - 1 + 1) key filled (subst (λ n. IsAboveAt (first_keys ls) n key) (sym
        next) above)))

    pub entry_whole : (v : V) → slot < length (get_or ls (count - 1) []) → slice_get (get_or ls (count - 1) []) slot ≡
        Some (key, v)
        → IsStrictlySortedBy key_cmp (keys_in (entries_in ls)) → lookup (is_key key) (entries_in ls) ≡ Some v
    entry_whole v lt is up =
        let front = length-append (entries_in (take (count - 1) ls)) (get_or ls (count - 1) []) in
        let long = length-append (entries_in (take (count - 1) ls) ++ get_or ls (count - 1) []) (entries_in (drop (count
        - 1 + 1) ls)) in
        let same = ap length whole in
        found_lookup (entries_in ls) key v place up ((let p : place ≡ length (entries_in (take (count - 1) ls)) + slot =
        refl in omega (arith, lt, front, long, same, p)))
        (ap (λ l. slice_get l place) whole
        ∙ entry_joined (entries_in (take (count - 1) ls)) (get_or ls (count - 1) []) (entries_in (drop (count - 1 + 1)
        ls)) slot lt ∙ is)

  -- before all leaves
  pub slot_first : (ls : List (List (List ℕ × V))) (key : List ℕ) → All (λ leaf. 0 < length leaf) ls → IsAboveAt
      (first_keys ls) 0 key → IsSlot (keys_in (entries_in ls)) key 0 false
  slot_first ls key filled above = (
    omega arith,
    (λ some. absurd (omega (arith, some))),
    λ some. first_after ls 0 key filled above (let m = length_keys (entries_in ls) in omega (arith, m, some)),
  )

  -- ---- the look-up of a key
  -- a key that is at no slot of its leaf belongs there
  pub gap_there : (ls : List (List (List ℕ × V))) (count slot : ℕ) (key : List ℕ) (leaf : List (List ℕ × V)) (b : Bool)
      → All (λ leaf. 0 < length leaf) ls
      → (count ≡ 0 → ⊥) → count ≤ length ls → IsUptoAt (first_keys ls) count key → IsAboveAt (first_keys ls) count key
      → leaf ≡ get_or ls (count - 1) [] → IsSlot (keys_in leaf) key slot b → b ≡ false
      → (slot ≤ length (get_or ls (count - 1) []))
      × IsSlot (keys_in (entries_in ls)) key (length (entries_in (take (count - 1) ls)) + slot) false
  gap_there ls count slot key leaf true filled some inside upto above own is not_there = absurd (true≢false not_there)
  gap_there ls count slot key leaf false filled some inside upto above own is not_there = (
    let le = is.0 in let m = length_keys leaf in let same = ap length own in omega (arith, le, m, same),
    slot_whole ls count slot key filled (omega (arith, some)) inside upto above
        (subst (λ l. IsSlot (keys_in l) key slot false) own is),
  )

  -- a key below all leaves belongs at the first slot
  pub gap_first : (ls : List (List (List ℕ × V))) (key : List ℕ) (count : ℕ) → All (λ leaf. 0 < length leaf) ls
      → IsAboveAt (first_keys ls) count key → count ≡ 0 → IsGap ls key 0 0
  gap_first ls key count filled above none = (
    some_leaf ls,
    omega arith,
    slot_first ls key filled (subst (λ n. IsAboveAt (first_keys ls) n key) none above),
  )
    where
      some_leaf : (xs : List (List (List ℕ × V))) → (0 < length xs) ⊎ (xs ≡ [])
      some_leaf [] = inr refl
      some_leaf (x ∷ xs) = inl (omega arith)

  pub gap_empty : (ls : List (List (List ℕ × V))) (key : List ℕ) → length ls ≡ 0 → IsGap ls key 0 0
  gap_empty [] key none = (
    inr refl,
    omega arith,
    (omega arith, (λ some. absurd (omega (arith, some))), λ some. absurd (omega (arith, some))),
  )
  gap_empty (x ∷ xs) key none = absurd (omega (arith, none))

  -- a key above the last one belongs after all
  pub gap_end : (ls : List (List (List ℕ × V))) (count slot : ℕ) (key : List ℕ) (leaf : List (List ℕ × V))
      → (count ≡ 0 → ⊥) → count ≡ length ls → leaf ≡ get_or ls (count - 1) [] → 0 < length leaf → slot ≡ length leaf
      → key_cmp (get_or (keys_in leaf) (slot - 1) []) key ≡ Less → IsGap ls key (count - 1) slot
  gap_end ls count slot key leaf some all own filled end below =
      let inside : count - 1 < length ls = omega (arith, some, all) in
      let same = ap length own in
      let long = length_keys leaf in
      let slot_in : IsSlot (keys_in leaf) key slot false = (
        omega (arith, end, long),
        (λ more. below),
        λ lt. absurd (omega (arith, lt, end, long)),
      ) in
      let after : drop (count - 1 + 1) ls ≡ [] = drop_all (count - 1 + 1) ls (omega (arith, some, all)) in (
        inl inside,
        omega (arith, end, same),
        subst (λ l. IsSlot (keys_in l) key (length (entries_in (take (count - 1) ls)) + slot) false)
            (sym (joined_all ls (count - 1) inside))
            (slot_joined (entries_in (take (count - 1) ls)) (get_or ls (count - 1) []) (entries_in (drop (count - 1 + 1)
            ls)) key slot
            (omega (arith, filled, end)) (subst (λ l. IsSlot (keys_in l) key slot false) own slot_in)
            (λ more. let none = ap (λ l. length (entries_in l)) after in absurd (omega (arith, more, none)))),
      )

  -- and no entry has a key that belongs at a slot
  pub gap_absent : (ls : List (List (List ℕ × V))) (key : List ℕ) (at slot : ℕ)
      → IsStrictlySortedBy key_cmp (keys_in (entries_in ls)) → IsGap ls key at slot
      → lookup (is_key key) (entries_in ls) ≡ None
  gap_absent ls key at slot up gap =
      absent_lookup (entries_in ls) key (length (entries_in (take at ls)) + slot)
      (parts (entries_in ls) key (length (entries_in (take at ls)) + slot) up gap.2)

  pub none_first : (ls : List (List (List ℕ × V))) (now : List (List ℕ × V)) (key : List ℕ) (count : ℕ) → All (λ leaf. 0
      < length leaf) ls
      → IsAboveAt (first_keys ls) count key → count ≡ 0 → IsStrictlySortedBy key_cmp (keys_in (entries_in ls)) →
      entries_in ls ≡ now → None ≡ lookup (is_key key) now
  none_first ls now key count filled above none up view =
      sym (ap (lookup (is_key key)) (sym view) ∙ gap_absent ls key 0 0 up (gap_first ls key count filled above none))

  pub none_there : (ls : List (List (List ℕ × V))) (now : List (List ℕ × V)) (count slot : ℕ) (key : List ℕ)
      (leaf : List (List ℕ × V)) (b : Bool) → All (λ leaf. 0 < length leaf) ls
      → (count ≡ 0 → ⊥) → count ≤ length ls → IsUptoAt (first_keys ls) count key → IsAboveAt (first_keys ls) count key
      → leaf ≡ get_or ls (count - 1) [] → IsSlot (keys_in leaf) key slot b → b ≡ false
      → IsStrictlySortedBy key_cmp (keys_in (entries_in ls)) → entries_in ls ≡ now → None ≡ lookup (is_key key) now
  none_there ls now count slot key leaf b filled some inside upto above own is not_there up view =
      let at = gap_there ls count slot key leaf b filled some inside upto above own is not_there in
      sym (ap (lookup (is_key key)) (sym view)
      ∙ gap_absent ls key (count - 1) slot up (inl (omega (arith, some, inside)), at.0, at.1))

  pub some_there : (ls : List (List (List ℕ × V))) (now : List (List ℕ × V)) (count slot : ℕ) (key : List ℕ)
      (leaf : List (List ℕ × V)) (b : Bool) (v : V) → All (λ leaf. 0 < length leaf) ls
      → (count ≡ 0 → ⊥) → count ≤ length ls → IsUptoAt (first_keys ls) count key → IsAboveAt (first_keys ls) count key
      → leaf ≡ get_or ls (count - 1) [] → IsSlot (keys_in leaf) key slot b → b ≡ true
      → slice_get leaf slot ≡ Some (get_or (keys_in leaf) slot [], v)
      → IsStrictlySortedBy key_cmp (keys_in (entries_in ls)) → entries_in ls ≡ now → Some v ≡ lookup (is_key key) now
  some_there ls now count slot key leaf false v filled some inside upto above own is there_too there up view = absurd
      (true≢false (sym there_too))
  some_there ls now count slot key leaf true v filled some inside upto above own is there_too there up view =
      sym (ap (lookup (is_key key)) (sym view)
      ∙ entry_whole ls count slot key filled (omega (arith, some)) inside upto above v
      (let lt = is.0 in let m = length_keys leaf in let e = ap length own in omega (arith, lt, m, e))
      (ap (λ l. slice_get l slot) (sym own) ∙ there ∙ ap (λ k. Some (k, v)) is.1) up)

  -- ---- adding a key
  pub grown : (ls new : List (List (List ℕ × V))) (now : List (List ℕ × V)) (key : List ℕ) (v : V) (n : ℕ)
      → IsStrictlySortedBy key_cmp (keys_in (entries_in ls)) → entries_in ls ≡ now → IsSlot (keys_in (entries_in ls))
      key n false → entries_in new ≡ insert (entries_in ls) n (key, v) → entries_in new ≡ insert_entry key_cmp now key v
  grown ls new now key v n up view slot is =
      is ∙ sym (put_at (entries_in ls) key v n up slot) ∙ ap (λ l. insert_entry key_cmp l key v) view

  pub grown_ascend : {E : Type 0} (ls new : List (List (List ℕ × V))) (key : List ℕ) (v : V) (n : ℕ) (r : Result (Unit
      {0}) E) → IsStrictlySortedBy key_cmp (keys_in (entries_in ls)) → IsSlot (keys_in (entries_in ls)) key n false
      → OnOk r (entries_in new ≡ insert (entries_in ls) n (key, v)) → OnErr r (entries_in new ≡ entries_in ls)
      → IsStrictlySortedBy key_cmp (keys_in (entries_in new))
  grown_ascend ls new key v n (Ok u) up slot ok err = still_ascend (entries_in ls) (entries_in new) key v n up slot ok
  grown_ascend ls new key v n (Err u) up slot ok err = subst (λ l. IsStrictlySortedBy key_cmp (keys_in l)) (sym err) up

  -- one more leaf, at the end
  pub pushed : (ls new : List (List (List ℕ × V))) (e : List ℕ × V) → new ≡ ls ++ (e ∷ []) ∷ []
      → entries_in new ≡ insert (entries_in ls) (length (entries_in ls)) e
  pushed ls new e is =
      ap entries_in is ∙ flat_map-append (λ (leaf : List (List ℕ × V)). leaf) ls ((e ∷ []) ∷ [])
      ∙ sym (ap₂ (λ xs ys. xs ++ e ∷ ys) (take_all (length (entries_in ls)) (entries_in ls) (omega arith)) (drop_all
      (length (entries_in ls)) (entries_in ls) (omega arith)))

  -- the end of the last leaf is the end of all
  pub end_place : (ls : List (List (List ℕ × V))) (count slot : ℕ) (leaf : List (List ℕ × V)) → (count ≡ 0 → ⊥) → count
      ≡ length ls
      → leaf ≡ get_or ls (count - 1) [] → slot ≡ length leaf → length (entries_in (take (count - 1) ls)) + slot ≡ length
      (entries_in ls)
  end_place ls count slot leaf some all own last =
      let whole = ap length (joined_all ls (count - 1) (omega (arith, some, all))) in
      let front = length-append (entries_in (take (count - 1) ls)) (get_or ls (count - 1) []) in
      let long = length-append (entries_in (take (count - 1) ls) ++ get_or ls (count - 1) []) (entries_in (drop (count -
      1 + 1) ls)) in
      let same = ap length own in
      let none = none_left (drop (count - 1 + 1) ls) (let m = length-drop (count - 1 + 1) ls in omega (
        arith,
        m,
        some,
        all,
      )) in
      omega (arith, whole, front, long, same, last, none)
    where
      none_left : (xs : List (List (List ℕ × V))) → length xs ≡ 0 → length (entries_in xs) ≡ 0
      none_left [] e = refl
      none_left (x ∷ xs) e = absurd (omega (arith, e))

  pub slot_empty : (ls : List (List (List ℕ × V))) (key : List ℕ) → length ls ≡ 0
      → IsSlot (keys_in (entries_in ls)) key (length (entries_in ls)) false
  slot_empty [] key none = (omega arith, (λ some. absurd (omega (arith, some))), λ some. absurd (omega (arith, some)))
  slot_empty (x ∷ xs) key none = absurd (omega (arith, none))

  pub slot_end : (ls : List (List (List ℕ × V))) (key : List ℕ) (n m : ℕ) → n ≡ m → IsSlot (keys_in (entries_in ls)) key
      n false → IsSlot (keys_in (entries_in ls)) key m false
  slot_end ls key n m same = subst (λ i. IsSlot (keys_in (entries_in ls)) key i false) same
