-- One entry removed from a leaf, or the leaf with it.
use Rattle.std.proofs.Common.{◌≡◌, ◌<◌, ◌+◌, ◌++◌, ◌∷◌, ◌∙◌, ℕ, zero, suc, List, [], ap, ap₂, drop-set-lt}
use Rattle.std.proofs.Common.{get_or-set_same, append-nil, refl, sym, subst, arith, All, map, take, drop, length}
use Rattle.std.proofs.Common.{get_or, set, append_assoc, Less}
use Rattle.std.specs.List.{AllByRecursion, Sorted.IsStrictlySortedBy}
use Rattle.std.proofs.lemmas.List.{nil_from_length, map-append, take-map, drop-map, take-set-le, get_or_read, drop_more}
use Rattle.std.proofs.lemmas.List.{Concat.flat_map-append, Elements.All-append, Elements.All-take, Elements.All-drop}
use Rattle.hlc_table_index.specs.{Head.head_of, Head.AreBytes, Entries.keys_in, Entries.key_cmp, Entries.entries_in}
use Rattle.hlc_table_index.specs.{Entries.first_key, Entries.first_keys, Entries.entries_before, Entries.entries_from}
use Rattle.hlc_table_index.proofs.{LeafLemmas.IsLeaf, Joined.joined_set, Tops.AreLeaves, Sought.parted}

-- a list without the member at a position
abbrev pub without : {X : Type 0} → List X → ℕ → List X
without xs n = take n xs ++ drop (n + 1) xs

without_map : {X Y : Type 0} (f : X → Y) (xs : List X) (n : ℕ) → map f (without xs n) ≡ without (map f xs) n
without_map f xs n =
    map-append f (take n xs) (drop (n + 1) xs)
    ∙ ap₂ (λ us vs. us ++ vs) (sym (take-map f n xs)) (sym (drop-map f (n + 1) xs))

without_set : {X : Type 0} (xs : List X) (n : ℕ) (x : X) → without (set xs n x) n ≡ without xs n
without_set xs n x =
    ap₂ (λ us vs. us ++ vs) (take-set-le n xs n x (omega arith)) (drop-set-lt (n + 1) xs n x (omega arith))

all_without : {X : Type 0} (P : X → Type 0) (xs : List X) (n : ℕ) → All P xs → All P (without xs n)
all_without P xs n all =
    All-append P (take n xs) (drop (n + 1) xs) (All-take P n xs all) (All-drop P (n + 1) xs all)

member : {X : Type 0} (xs : List X) (n : ℕ) → n < length xs → X
member [] n lt = absurd (omega (arith, lt))
member (x ∷ xs) zero lt = x
member (x ∷ xs) (suc n) lt = member xs n (omega (arith, lt))

module _ {V : Type 0} where
  pub leaf_without : (heads : List ℕ) (es : List (List ℕ × V)) (less : List ℕ) (now : List (List ℕ × V)) (n : ℕ)
      → IsLeaf heads es → less ≡ without heads n → now ≡ without es n → IsLeaf less now
  leaf_without heads es less now n inv e f =
      rw (e, f, inv.0, without_map (λ (e : List ℕ × V). e.0) es n, without_map head_of (keys_in es) n)
      (refl, all_without AreBytes (keys_in es) n inv.1)

  -- a leaf that was changed and is then removed
  pub leaves_without : (tops : List ℕ) (leaves : List (List (List ℕ × V))) (less : List ℕ)
      (now : List (List (List ℕ × V))) (at : ℕ) (x : List (List ℕ × V)) → AreLeaves tops leaves
      → less ≡ without tops at → now ≡ without (set leaves at x) at → AreLeaves less now
  leaves_without tops leaves less now at x inv e f =
      rw (
        e,
        f ∙ without_set leaves at x,
        inv.0,
        without_map first_key leaves at,
        without_map head_of (first_keys leaves) at,
      ) (
        refl,
        all_without AreBytes (first_keys leaves) at inv.1,
        all_without (λ (leaf : List (List ℕ × V)). 0 < length leaf) leaves at inv.2,
      )

  first_without : (leaf : List (List ℕ × V)) (slot : ℕ) → 0 < slot → 0 < length leaf
      → first_key (without leaf slot) ≡ first_key leaf
  first_without leaf zero some filled = absurd (omega (arith, some))
  first_without [] (suc slot) some filled = absurd (omega (arith, filled))
  first_without (x ∷ xs) (suc slot) some filled = refl

  -- a leaf without its entry at a slot, among the others
  module _ (leaves now : List (List (List ℕ × V))) (at slot : ℕ) (leaf x : List (List ℕ × V)) (view : leaves ≡ now)
      (lt : at < length now) (read : leaf ≡ get_or leaves at leaf) (is : x ≡ without leaf slot) where
    at_inside : at < length leaves
    at_inside = let long = ap length view in omega (arith, lt, long)

    own : leaf ≡ get_or leaves at []
    own = get_or_read leaves at leaf at_inside read []

    -- the leaf that is read back
    pub read_back : (seen : List (List ℕ × V)) → seen ≡ get_or (set leaves at x) at seen → seen ≡ x
    read_back seen e = e ∙ get_or-set_same leaves at x seen at_inside

    pub first_stays : All (λ leaf. 0 < length leaf) leaves → (slot ≡ 0 → ⊥)
        → first_key x ≡ first_key (get_or leaves at [])
    first_stays filled some =
        ap first_key is ∙ first_without leaf slot (omega (arith, some))
        (subst (λ (l : List (List ℕ × V)). 0 < length l) (sym own) (filled at [] at_inside)) ∙ ap first_key own

    pub entries_removed : entries_in (set leaves at x) ≡ entries_before now at slot ++ entries_from now at (slot + 1)
    entries_removed =
        joined_set leaves at x at_inside
        ∙ ap (λ m. entries_in (take at leaves) ++ m ++ entries_in (drop (at + 1) leaves))
        (is ∙ ap (λ (l : List (List ℕ × V)). without l slot) own) ∙ (simp append_assoc)
        ∙ ap (λ (ls : List (List (List ℕ × V))). entries_before ls at slot ++ entries_from ls at (slot + 1)) view

    -- nothing is left of the leaf
    pub entries_left : (rest : List (List (List ℕ × V))) → length x ≡ 0 → rest ≡ without (set leaves at x) at
        → entries_in rest ≡ entries_before now at slot ++ entries_from now at (slot + 1)
    entries_left rest none e =
        let a : List (List ℕ × V) = entries_in (take at leaves) in
        let d : List (List ℕ × V) = entries_in (drop (at + 1) leaves) in
        ap entries_in (e ∙ without_set leaves at x)
        ∙ flat_map-append (λ (l : List (List ℕ × V)). l) (take at leaves) (drop (at + 1) leaves)
        ∙ ap (λ m. m ++ d) (sym (append-nil a)) ∙ ap (λ m. a ++ m ++ d) (sym (nil_from_length x none))
        ∙ sym (joined_set leaves at x at_inside) ∙ entries_removed

  -- the entry at a slot stands between those before it and those after it
  pub parted_at : (ls : List (List (List ℕ × V))) (at slot : ℕ) (d : List ℕ × V) → at < length ls
      → slot < length (get_or ls at [])
      → entries_in ls ≡ entries_before ls at slot ++ get_or (get_or ls at []) slot d ∷ entries_from ls at (slot + 1)
  parted_at ls at slot d inside lt =
      parted ls at slot inside
      ∙ ap (λ (m : List (List ℕ × V)). entries_before ls at slot ++ (m ++ entries_in (drop (at + 1) ls)))
      (drop_more (get_or ls at []) slot d lt)

  all_others : (P : List ℕ → Type 0) (front : List (List ℕ × V)) (e : List ℕ × V) (back : List (List ℕ × V))
      → AllByRecursion P (keys_in (front ++ e ∷ back)) → AllByRecursion P (keys_in (front ++ back))
  all_others P [] e back all = all.1
  all_others P (x ∷ xs) e back all = (all.0, all_others P xs e back all.1)

  ascend_others : (front : List (List ℕ × V)) (e : List ℕ × V) (back : List (List ℕ × V))
      → IsStrictlySortedBy key_cmp (keys_in (front ++ e ∷ back)) → IsStrictlySortedBy key_cmp (keys_in (front ++ back))
  unfolding IsStrictlySortedBy
  ascend_others [] e back up = up.1
  ascend_others (x ∷ xs) e back up =
      (all_others (λ k. key_cmp x.0 k ≡ Less) xs e back up.0, ascend_others xs e back up.1)

  -- the keys still ascend
  pub ascend_removed : (ls now : List (List (List ℕ × V))) (at slot : ℕ) → ls ≡ now → at < length now
      → slot < length (get_or now at []) → IsStrictlySortedBy key_cmp (keys_in (entries_in ls))
      → IsStrictlySortedBy key_cmp (keys_in (entries_before ls at slot ++ entries_from ls at (slot + 1)))
  ascend_removed ls now at slot view inside lt up =
      let few : at < length ls = let long = ap length view in omega (arith, inside, long) in
      let short : slot < length (get_or ls at []) =
      let long = ap (λ (l : List (List (List ℕ × V))). length (get_or l at [])) view in omega (arith, lt, long) in
      let d = member (get_or ls at []) slot short in
      ascend_others (entries_before ls at slot) (get_or (get_or ls at []) slot d) (entries_from ls at (slot + 1))
      (subst (λ (es : List (List ℕ × V)). IsStrictlySortedBy key_cmp (keys_in es)) (parted_at ls at slot d few short)
      up)

  middle : (P : List ℕ → Type 0) (front : List (List ℕ × V)) (e : List ℕ × V) (back : List (List ℕ × V))
      → AllByRecursion P (keys_in (front ++ e ∷ back)) → P e.0
  middle P [] e back all = all.0
  middle P (x ∷ xs) e back all = middle P xs e back all.1
