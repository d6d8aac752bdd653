-- What is true of the heads of the leaves' first keys after leaves change.
use Rattle.std.proofs.Common.{◌≡◌, ◌≤◌, ◌<◌, ◌+◌, ◌-◌, length-append, Less, Greater, ◌++◌, ◌∷◌, ◌∙◌, ℕ, zero, suc, List}
use Rattle.std.proofs.Common.{length-set, length-drop, length-take, get_or-drop, [], get_or, set, length, arith, refl}
use Rattle.std.proofs.Common.{ap, ap₂, sym, subst, All, map, take, drop, insert}
use Rattle.std.proofs.lemmas.List.{length-map, get_or_read, map-append, take-map, drop-map, map-set, map_push}
use Rattle.std.proofs.lemmas.List.{get_or-map, set-get_or, Elements.All-set, Elements.All-push}
use Rattle.hlc_table_index.specs.Head.{head_of, AreBytes}
use Rattle.hlc_table_index.specs.Entries.{keys_in, first_key, first_keys, IsUptoAt, IsAboveAt, with_value}
use Rattle.hlc_table_index.proofs.Heads.{below_by_head, above_by_head}
use Rattle.hlc_table_index.proofs.LeafLemmas.{heads_insert, all_insert, keys_with}

-- what is true of leaves side by side: the heads are those of their first keys, which are bytes, and no leaf is empty
abbrev pub AreLeaves : {V : Type 0} → List ℕ → List (List (List ℕ × V)) → Type 0
AreLeaves tops leaves =
    (tops ≡ map head_of (first_keys leaves)) × All AreBytes (first_keys leaves) × All (λ leaf. 0 < length leaf) leaves

less_greater : Less ≡ Greater → ⊥
less_greater e = cc

module _ {V : Type 0} where
  pub first_insert_front : (leaf : List (List ℕ × V)) (e : List ℕ × V) → first_key (insert leaf 0 e) ≡ e.0
  first_insert_front leaf e = refl

  pub first_insert_after : (leaf : List (List ℕ × V)) (slot : ℕ) (e : List ℕ × V) → 0 < slot → 0 < length leaf
      → first_key (insert leaf slot e) ≡ first_key leaf
  first_insert_after leaf zero e some filled = absurd (omega (arith, some))
  first_insert_after [] (suc slot) e some filled = absurd (omega (arith, filled))
  first_insert_after (x ∷ xs) (suc slot) e some filled = refl

  pub first_take : (leaf : List (List ℕ × V)) (slot : ℕ) → 0 < slot → 0 < length leaf → first_key (take slot leaf) ≡
      first_key leaf
  first_take leaf zero some filled = absurd (omega (arith, some))
  first_take [] (suc slot) some filled = absurd (omega (arith, filled))
  first_take (x ∷ xs) (suc slot) some filled = refl

  pub first_drop : (leaf : List (List ℕ × V)) (slot : ℕ) → first_key (drop slot leaf) ≡ get_or (keys_in leaf) slot []
  first_drop leaf slot =
      ap (λ (ks : List (List ℕ)). get_or ks 0 []) (sym (drop-map (λ (e : List ℕ × V). e.0) slot leaf))
      ∙ get_or-drop slot (keys_in leaf) 0 [] ∙ ap (λ n. get_or (keys_in leaf) n []) (let e : slot + 0 ≡ slot = omega
      arith in e)

  pub filled_insert : (leaf : List (List ℕ × V)) (slot : ℕ) (e : List ℕ × V) → 0 < length (insert leaf slot e)
  filled_insert leaf slot e = omega (arith, length-append (take slot leaf) (e ∷ drop slot leaf))

  -- a leaf replaced by another
  pub leaves_set : (tops : List ℕ) (leaves : List (List (List ℕ × V))) (more : List ℕ) (now : List (List (List ℕ × V)))
      (at : ℕ)
      (x : List (List ℕ × V)) (h : ℕ) → AreLeaves tops leaves → 0 < length x → AreBytes (first_key x) → h ≡ head_of
      (first_key x) → more ≡ set tops at h → now ≡ set leaves at x → AreLeaves more now
  leaves_set tops leaves more now at x h inv filled bytes is e f =
      rw (e, f, is, inv.0, map-set first_key leaves at x, map-set head_of (first_keys leaves) at (first_key x)) (
        refl,
        All-set AreBytes (first_keys leaves) at (first_key x) bytes inv.1,
        All-set (λ leaf. 0 < length leaf) leaves at x filled inv.2,
      )

  -- the same, if the first key does not change
  pub leaves_kept : (tops : List ℕ) (leaves : List (List (List ℕ × V))) (now : List (List (List ℕ × V))) (at : ℕ)
      (x : List (List ℕ × V)) → AreLeaves tops leaves → at < length leaves → 0 < length x
      → first_key x ≡ first_key (get_or leaves at []) → now ≡ set leaves at x → AreLeaves tops now
  leaves_kept tops leaves now at x inv inside filled same f =
      let key : get_or (first_keys leaves) at [] ≡ first_key (get_or leaves at []) = get_or-map first_key leaves at []
      [] inside in
      let long : length (first_keys leaves) ≡ length leaves = length-map leaves first_key in
      let top : get_or tops at 0 ≡ head_of (first_key x) =
      ap (λ (ts : List ℕ). get_or ts at 0) inv.0 ∙ get_or-map head_of (first_keys leaves) at [] 0 (omega (
        arith,
        inside,
        long,
      )) ∙ ap head_of (key ∙ sym same) in
      leaves_set tops leaves tops now at x (get_or tops at 0) inv filled
      (subst AreBytes (key ∙ sym same) (inv.1 at [] (omega (arith, inside, long)))) top (sym (set-get_or tops at 0)) f

  pub leaves_push : (tops : List ℕ) (leaves : List (List (List ℕ × V))) (more : List ℕ) (now : List (List (List ℕ × V)))
      (x : List (List ℕ × V)) (h : ℕ) → AreLeaves tops leaves → 0 < length x → AreBytes (first_key x) → h ≡ head_of
      (first_key x) → more ≡ tops ++ h ∷ [] → now ≡ leaves ++ x ∷ [] → AreLeaves more now
  leaves_push tops leaves more now x h inv filled bytes is e f =
      rw (e, f, is, inv.0, map_push first_key leaves x, map_push head_of (first_keys leaves) (first_key x)) (
        refl,
        All-push AreBytes (first_keys leaves) (first_key x) inv.1 bytes,
        All-push (λ leaf. 0 < length leaf) leaves x inv.2 filled,
      )

  firsts_insert : (leaves : List (List (List ℕ × V))) (n : ℕ) (x : List (List ℕ × V))
      → first_keys (insert leaves n x) ≡ insert (first_keys leaves) n (first_key x)
  firsts_insert leaves n x =
      map-append first_key (take n leaves) (x ∷ drop n leaves)
      ∙ ap₂ (λ xs ys. xs ++ first_key x ∷ ys) (sym (take-map first_key n leaves)) (sym (drop-map first_key n leaves))

  pub leaves_insert : (tops : List ℕ) (leaves : List (List (List ℕ × V))) (more : List ℕ) (now : List (List (List ℕ ×
      V))) (n : ℕ)
      (x : List (List ℕ × V)) (h : ℕ) → AreLeaves tops leaves → 0 < length x → AreBytes (first_key x) → h ≡ head_of
      (first_key x) → more ≡ insert tops n h → now ≡ insert leaves n x → AreLeaves more now
  leaves_insert tops leaves more now n x h inv filled bytes is e f =
      rw (e, f, is, inv.0, firsts_insert leaves n x, heads_insert (first_keys leaves) n (first_key x)) (
        refl,
        all_insert AreBytes (first_keys leaves) n (first_key x) inv.1 bytes,
        all_insert (λ (leaf : List (List ℕ × V)). 0 < length leaf) leaves n x inv.2 filled,
      )

  -- an entry inserted into a leaf
  pub put_filled : (leaf now : List (List ℕ × V)) (slot : ℕ) (e : List ℕ × V) → now ≡ insert leaf slot e → 0 < length
      now
  put_filled leaf now slot e is = subst (λ (l : List (List ℕ × V)). 0 < length l) (sym is) (filled_insert leaf slot e)

  pub put_front : (leaf now : List (List ℕ × V)) (slot : ℕ) (e : List ℕ × V) → now ≡ insert leaf slot e → slot ≡ 0
      → e.0 ≡ first_key now
  put_front leaf now slot e is none =
      sym (first_insert_front leaf e) ∙ ap (λ n. first_key (insert leaf n e)) (sym none) ∙ ap first_key (sym is)

  pub put_after : (leaves : List (List (List ℕ × V))) (at : ℕ) (leaf now : List (List ℕ × V)) (slot : ℕ) (e : List ℕ ×
      V) → All (λ leaf. 0 < length leaf) leaves → at < length leaves → leaf ≡ get_or leaves at leaf → now ≡ insert leaf
      slot e → (slot ≡ 0 → ⊥) → first_key now ≡ first_key (get_or leaves at [])
  put_after leaves at leaf now slot e filled inside read is some =
      let own : leaf ≡ get_or leaves at [] = get_or_read leaves at leaf inside read [] in
      ap first_key is ∙ first_insert_after leaf slot e (omega (arith, some))
      (subst (λ (l : List (List ℕ × V)). 0 < length l) (sym own) (filled at [] inside)) ∙ ap first_key own

  pub split_leaves : (tops : List ℕ) (leaves : List (List (List ℕ × V))) (more : List ℕ) (now : List (List (List ℕ ×
      V)))
      (at slot : ℕ) (leaf seen front back : List (List ℕ × V)) (h : ℕ) → AreLeaves tops leaves → at < length leaves
      → leaf ≡ get_or leaves at leaf → seen ≡ get_or leaves at seen → front ≡ take slot leaf → back ≡ drop slot leaf
      → 0 < slot → slot < length (get_or leaves at []) → h ≡ head_of (get_or (keys_in seen) slot [])
      → All AreBytes (keys_in seen) → more ≡ insert tops (at + 1) h → now ≡ insert (set leaves at front) (at + 1) back
      → AreLeaves more now
  split_leaves tops leaves more now at slot leaf seen front back h inv inside read read' cut rest some few is bytes e f
      =
      let own : leaf ≡ get_or leaves at [] = get_or_read leaves at leaf inside read [] in
      let own' : seen ≡ get_or leaves at [] = get_or_read leaves at seen inside read' [] in
      let long : length leaf ≡ length (get_or leaves at []) = ap length own in
      let wide : length seen ≡ length (get_or leaves at []) = ap length own' in
      let first : first_key back ≡ get_or (keys_in seen) slot [] =
      ap first_key rest ∙ first_drop leaf slot ∙ ap (λ (l : List (List ℕ × V)). get_or (keys_in l) slot []) (own ∙ sym
      own') in
      leaves_insert tops (set leaves at front) more now (at + 1) back h
      (leaves_kept tops leaves (set leaves at front) at front inv inside
      (let m = ap length cut in let n = length-take slot leaf in omega (arith, m, n, some, few, long))
      (ap first_key cut ∙ first_take leaf slot some (omega (arith, some, few, long)) ∙ ap first_key own) refl)
      (let m = ap length rest in let n = length-drop slot leaf in omega (arith, m, n, few, long))
      (subst AreBytes (sym first) (bytes slot [] (let m = length-map seen (λ (e : List ℕ × V). e.0) in omega (
        arith,
        m,
        few,
        wide,
      ))))
      (is ∙ ap head_of (sym first)) e f

  -- what the heads of the leaves imply for their first keys
  module _ (tops : List ℕ) (leaves now : List (List (List ℕ × V))) (slice key : List ℕ) (head n : ℕ) (inv : AreLeaves
      tops leaves)
      (view : leaves ≡ now) (same : slice ≡ tops) (own : AreBytes key) (is : head ≡ head_of key) where
    heads_are : slice ≡ map head_of (first_keys now)
    heads_are = same ∙ inv.0 ∙ ap (λ (l : List (List (List ℕ × V))). map head_of (first_keys l)) view

    bytes_are : All AreBytes (first_keys now)
    bytes_are = subst (λ (l : List (List (List ℕ × V))). All AreBytes (first_keys l)) view inv.1

    as_many : length slice ≡ length (first_keys now)
    as_many = ap length heads_are ∙ length-map (first_keys now) head_of

    pub headed_upto : n ≤ length slice → (0 < n → get_or slice (n - 1) 0 < head) → IsUptoAt (first_keys now) n key
    headed_upto inside lt some above =
        let below = below_by_head (first_keys now) slice heads_are bytes_are key own n (omega (arith, inside, as_many))
        (λ some. subst (λ m. get_or slice (n - 1) 0 < m) is (lt some)) some in
        less_greater (sym below ∙ above)

    pub headed_above : (n < length slice → head < get_or slice n 0) → IsAboveAt (first_keys now) n key
    headed_above lt =
        above_by_head (first_keys now) slice heads_are bytes_are key own n
        (λ inside. subst (λ m. m < get_or slice n 0) is (lt (omega (arith, inside, as_many))))

  pub first_bytes : (tops : List ℕ) (leaves now : List (List (List ℕ × V))) (n : ℕ) → AreLeaves tops leaves
      → leaves ≡ now → n < length now → AreBytes (get_or (first_keys now) n [])
  first_bytes tops leaves now n inv view inside =
      subst (λ (l : List (List (List ℕ × V))). All AreBytes (first_keys l)) view inv.1 n []
      (let m = length-map now first_key in omega (arith, inside, m))

  pub first_read : (leaves now : List (List (List ℕ × V))) (n : ℕ) (leaf : List (List ℕ × V)) (key : List ℕ)
      → leaves ≡ now → n < length now → leaf ≡ get_or leaves n leaf → key ≡ get_or (keys_in leaf) 0 []
      → key ≡ get_or (first_keys now) n []
  first_read leaves now n leaf key view inside read is =
      let few : n < length leaves = let long = ap length view in omega (arith, inside, long) in
      is ∙ ap first_key (get_or_read leaves n leaf few read []) ∙ sym (get_or-map first_key leaves n [] [] few)
      ∙ ap (λ (l : List (List (List ℕ × V))). get_or (first_keys l) n []) view

  pub leaves_valued : (tops : List ℕ) (leaves : List (List (List ℕ × V))) (at slot : ℕ) (leaf : List (List ℕ × V)) (w :
      V) → AreLeaves tops leaves → at < length leaves → leaf ≡ get_or leaves at leaf
      → AreLeaves tops (set leaves at (with_value leaf slot w))
  leaves_valued tops leaves at slot leaf w inv inside read =
      let own : leaf ≡ get_or leaves at [] = get_or_read leaves at leaf inside read [] in
      let keys = keys_with leaf slot w in
      leaves_kept tops leaves (set leaves at (with_value leaf slot w)) at (with_value leaf slot w) inv inside
      (let some = inv.2 at [] inside in let n = ap length own in let m = length-set leaf slot (
        get_or (keys_in leaf)
            slot [],
        w,
      ) in
      omega (arith, some, n, m))
      (ap (λ (ks : List (List ℕ)). get_or ks 0 []) keys ∙ ap first_key own) refl
