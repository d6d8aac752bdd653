-- Another value for a key that is there: the one at its position in its leaf.
use Rattle.std.proofs.Common.{◌≡◌, ◌<◌, ◌+◌, ◌-◌, ◌++◌, ◌∷◌, ◌∙◌, ℕ, zero, suc, List, [], get_or, length, arith}
use Rattle.std.proofs.Common.{slice_get, length-append, refl, ap, sym, subst, take, drop, Bool, true, false, cond, Some}
use Rattle.std.proofs.Common.{true≢false, Less, Equal}
use Rattle.std.specs.{List.Sorted.IsStrictlySortedBy, Map.lookup, Map.set_value, Ordering.is_eq}
use Rattle.std.proofs.lemmas.Map.Keys.{Less-from_sorted, sorted_tail}
use Rattle.hlc_table_index.specs.Entries.{keys_in, key_cmp, is_key, IsSlot, entries_in, with_value, with_value_in}
use Rattle.hlc_table_index.proofs.{Heads.length_keys, LeafLemmas.keys_with, Joined.joined_all, Joined.joined_set}
use Rattle.hlc_table_index.proofs.SlotLemmas.{itself, other, keys_joined, found_lookup, entry_joined}

module _ {V : Type 0} where
  set_at : (es : List (List ℕ × V)) (key : List ℕ) (n : ℕ) (w : V) → IsStrictlySortedBy key_cmp (keys_in es) → n <
      length es → get_or (keys_in es) n [] ≡ key → with_value es n w ≡ set_value (is_key key) es w
  set_at [] key n w up lt is = absurd (omega (arith, lt))
  set_at (e ∷ es) key zero w up lt is =
      sym (ap (λ o. cond (is_eq o) ((e.0, w) ∷ es) (e ∷ set_value (is_key key) es w))
      (subst (λ k. key_cmp key k ≡ Equal) (sym is) (itself key)))
  set_at (e ∷ es) key (suc n) w up lt is =
      let long = length_keys es in
      let less : key_cmp e.0 (get_or (keys_in es) n []) ≡ Less =
      Less-from_sorted key_cmp (keys_in (e ∷ es)) 0 (suc n) [] up (omega arith) (omega (arith, lt, long)) in
      ap (λ l. e ∷ l) (set_at es key n w (sorted_tail key_cmp e.0 (keys_in es) up) (omega (arith, lt)) is)
      ∙ sym (ap (λ o. cond (is_eq o) ((e.0, w) ∷ es) (e ∷ set_value (is_key key) es w))
      (other e.0 key (subst (λ k. key_cmp e.0 k ≡ Less) is less)))

  value_back : (leaf back : List (List ℕ × V)) (i : ℕ) (w : V) → i < length leaf → with_value (leaf ++ back) i w ≡
      with_value leaf i w ++ back
  value_back [] back i w lt = absurd (omega (arith, lt))
  value_back (x ∷ xs) back zero w lt = refl
  value_back (x ∷ xs) back (suc i) w lt = ap (λ l. x ∷ l) (value_back xs back i w (omega (arith, lt)))

  value_joined : (front leaf back : List (List ℕ × V)) (i : ℕ) (w : V) → i < length leaf
      → with_value (front ++ leaf ++ back) (length front + i) w ≡ front ++ with_value leaf i w ++ back
  value_joined [] leaf back i w lt =
      ap (λ m. with_value (leaf ++ back) m w) (let e : 0 + i ≡ i = omega arith in e) ∙ value_back leaf back i w lt
  value_joined (x ∷ xs) leaf back i w lt =
      ap (λ m. with_value (x ∷ (xs ++ leaf ++ back)) m w) (let e : length (x ∷ xs) + i ≡ suc (length xs + i) = omega
      arith in e) ∙ ap (λ l. x ∷ l) (value_joined xs leaf back i w lt)

  -- the position of a slot among all entries
  module _ (ls : List (List (List ℕ × V))) (at slot : ℕ) (inside : at < length ls) (lt : slot < length (get_or ls at
      [])) where
    abbrev place : ℕ
    place = length (entries_in (take at ls)) + slot

    valued : (w : V) → entries_in (with_value_in ls at slot w) ≡ with_value (entries_in ls) place w
    valued w =
        joined_set ls at (with_value (get_or ls at []) slot w) inside
        ∙ sym (value_joined (entries_in (take at ls)) (get_or ls at []) (entries_in (drop (at + 1) ls)) slot w lt)
        ∙ ap (λ l. with_value l place w) (sym (joined_all ls at inside))

    pub valued_ascend : (w : V) → IsStrictlySortedBy key_cmp (keys_in (entries_in ls))
        → IsStrictlySortedBy key_cmp (keys_in (entries_in (with_value_in ls at slot w)))
    valued_ascend w = subst (IsStrictlySortedBy key_cmp) (sym (ap keys_in (valued w) ∙ keys_with (entries_in ls) place
        w))

    pub valued_is : (now : List (List ℕ × V)) (key : List ℕ) (w : V) → IsStrictlySortedBy key_cmp (keys_in (entries_in
        ls)) → get_or (keys_in (get_or ls at [])) slot [] ≡ key → entries_in ls ≡ now
        → entries_in (with_value_in ls at slot w) ≡ set_value (is_key key) now w
    valued_is now key w up is view =
        let front = length-append (entries_in (take at ls)) (get_or ls at []) in
        let long = length-append (entries_in (take at ls) ++ get_or ls at []) (entries_in (drop (at + 1) ls)) in
        let same = ap length (joined_all ls at inside) in
        valued w
        ∙ set_at (entries_in ls) key place w up (let p : place ≡ length (entries_in (take at ls)) + slot = refl in omega
        (arith, lt, front, long, same, p))
        (ap (λ (l : List (List ℕ × V)). get_or (keys_in l) place []) (joined_all ls at inside)
        ∙ keys_joined (entries_in (take at ls)) (get_or ls at []) (entries_in (drop (at + 1) ls)) slot lt ∙ is)
        ∙ ap (λ l. set_value (is_key key) l w) view

    pub there_is : (now : List (List ℕ × V)) (key : List ℕ) (v : V) → IsStrictlySortedBy key_cmp (keys_in (entries_in
        ls)) → get_or (keys_in (get_or ls at [])) slot [] ≡ key → entries_in ls ≡ now
        → slice_get (get_or ls at []) slot ≡ Some (get_or (keys_in (get_or ls at [])) slot [], v) → lookup (is_key key)
        now ≡ Some v
    there_is now key v up is view read =
        let front = length-append (entries_in (take at ls)) (get_or ls at []) in
        let long = length-append (entries_in (take at ls) ++ get_or ls at []) (entries_in (drop (at + 1) ls)) in
        let same = ap length (joined_all ls at inside) in
        ap (lookup (is_key key)) (sym view) ∙ found_lookup (entries_in ls) key v place up
        (let p : place ≡ length (entries_in (take at ls)) + slot = refl in omega (arith, lt, front, long, same, p))
        (ap (λ (l : List (List ℕ × V)). slice_get l place) (joined_all ls at inside)
        ∙ entry_joined (entries_in (take at ls)) (get_or ls at []) (entries_in (drop (at + 1) ls)) slot lt
        ∙ read ∙ ap (λ k. Some (k, v)) is)

  -- the slot that was found has the key
  pub there_slot : (ls : List (List (List ℕ × V))) (count slot : ℕ) (key : List ℕ) (leaf : List (List ℕ × V)) (b : Bool)
      → b ≡ true → leaf ≡ get_or ls (count - 1) [] → IsSlot (keys_in leaf) key slot b
      → (slot < length (get_or ls (count - 1) [])) × (get_or (keys_in (get_or ls (count - 1) [])) slot [] ≡ key)
  there_slot ls count slot key leaf false hit own is = absurd (true≢false (sym hit))
  there_slot ls count slot key leaf true hit own is = (
    let lt = is.0 in let m = length_keys leaf in let e = ap length own in omega (arith, lt, m, e),
    ap (λ (l : List (List ℕ × V)). get_or (keys_in l) slot []) (sym own) ∙ is.1,
  )
