-- Entries and leaves that are kept, moved to the front in their order.
use Rattle.std.proofs.Common.{set-set, get_or-drop, inl, inr, ◌≡◌, ◌≤◌, ◌<◌, ◌+◌, ◌++◌, ◌∷◌, ◌∙◌, ℕ, List, [], get_or}
use Rattle.std.proofs.Common.{set, length, arith, drop-set-lt, get_or-set_same, length-set, append-nil, Bool, refl, ap}
use Rattle.std.proofs.Common.{ap₂, sym, subst, All, map, filter, take, drop}
use Rattle.std.{specs.List.swap, specs.List.SwappedAt, proofs.lemmas.Bool.cases_order}
use Rattle.std.proofs.lemmas.List.{drop_more, nil_from_length, map-set, get_or-map, length-map, take-map, take_more}
use Rattle.std.proofs.lemmas.List.{take_more_set, take-set-le, Concat.flat_map-append}
use Rattle.std.proofs.lemmas.List.Elements.{All-from_recursion, recursion_from_All, filter-append}
use Rattle.hlc_table_index.specs.{Head.head_of, Head.AreBytes, Entries.keys_in, Entries.entries_in, Entries.first_key}
use Rattle.hlc_table_index.proofs.{LeafLemmas.IsLeaf, SlotLemmas.all_kept, Tops.AreLeaves, Tops.leaves_push}

pub map-swap : {X Y : Type 0} (f : X → Y) (xs : List X) (a b : ℕ) → a < length xs → b < length xs
    → map f (swap xs a b) ≡ swap (map f xs) a b
map-swap f [] a b la lb = refl
map-swap f (x ∷ xs) a b la lb =
    map-set f (set (x ∷ xs) a (get_or (x ∷ xs) b x)) b (get_or (x ∷ xs) a x)
    ∙ ap (λ ys. set ys b (f (get_or (x ∷ xs) a x))) (map-set f (x ∷ xs) a (get_or (x ∷ xs) b x))
    ∙ ap₂ (λ u v. set (set (f x ∷ map f xs) a u) b v)
    (sym (get_or-map f (x ∷ xs) b x (f x) lb)) (sym (get_or-map f (x ∷ xs) a x (f x) la))

module _ {V : Type 0} where
  -- heads move with their keys
  pub heads_swap : (heads : List ℕ) (es : List (List ℕ × V)) (more : List ℕ) (now : List (List ℕ × V)) (a b : ℕ)
      → heads ≡ map head_of (keys_in es) → a < length es → b < length es → more ≡ swap heads a b → now ≡ swap es a b
      → more ≡ map head_of (keys_in now)
  heads_swap heads es more now a b inv la lb e f =
      let long = length-map es (λ (e : List ℕ × V). e.0) in
      e ∙ ap (λ (hs : List ℕ). swap hs a b) inv ∙ sym (ap (λ (l : List (List ℕ × V)). map head_of (keys_in l)) f
      ∙ ap (map head_of) (map-swap (λ (e : List ℕ × V). e.0) es a b la lb)
      ∙ map-swap head_of (keys_in es) a b (omega (arith, la, long)) (omega (arith, lb, long)))

  -- the keys of some of the entries are some of the keys
  bytes_kept : (p : List ℕ × V → Bool) (es : List (List ℕ × V)) → All AreBytes (keys_in es)
      → All AreBytes (keys_in (filter p es))
  bytes_kept p es all =
      All-from_recursion AreBytes (keys_in (filter p es))
      (all_kept AreBytes p es (recursion_from_All AreBytes (keys_in es) all))

  pub leaf_kept : (p : List ℕ × V → Bool) (es moved now : List (List ℕ × V)) (heads less : List ℕ) (k : ℕ)
      → All AreBytes (keys_in es) → heads ≡ map head_of (keys_in moved) → take k moved ≡ filter p es
      → less ≡ take k heads → now ≡ take k moved → IsLeaf less now
  leaf_kept p es moved now heads less k bytes are front e f = (
    e ∙ ap (take k) are ∙ take-map head_of k (keys_in moved)
        ∙ ap (map head_of) (take-map (λ (e : List ℕ × V). e.0) k moved)
        ∙ ap (λ (l : List (List ℕ × V)). map head_of (keys_in l)) (sym f),
    subst (λ (l : List (List ℕ × V)). All AreBytes (keys_in l)) (sym (f ∙ front)) (bytes_kept p es bytes),
  )

-- two members of a list swapped: the later one moves to the end of the front
swapped_front : {X : Type 0} (ys zs : List X) (k i : ℕ) (x : X) → k ≤ i → i < length ys → x ≡ get_or ys i x
    → SwappedAt ys zs k i → take (k + 1) zs ≡ take k ys ++ x ∷ []
swapped_front ys zs k i x le lt read s =
    ap (take (k + 1)) (s.3 x) ∙ elim (cases_order k i) [
      | inl same ↦
          subst (λ j. take (k + 1) (set (set ys k (get_or ys j x)) j (get_or ys k x)) ≡ take k ys ++ get_or ys j x ∷ [])
          same
          (ap (take (k + 1)) (set-set ys k (get_or ys k x) (get_or ys k x))
          ∙ take_more_set ys k (get_or ys k x) (omega (arith, le, lt)))
      | inr (inl below) ↦
          take-set-le (k + 1) (set ys k (get_or ys i x)) i (get_or ys k x) (omega (arith, below))
          ∙ take_more_set ys k (get_or ys i x) (omega (arith, below, lt))
      | inr (inr above) ↦ absurd (omega (arith, above, le))
    ] ∙ ap (λ y. take k ys ++ y ∷ []) (sym read)

swapped_rest : {X : Type 0} (ys zs : List X) (k i : ℕ) (x : X) → k ≤ i → SwappedAt ys zs k i
    → drop (i + 1) zs ≡ drop (i + 1) ys
swapped_rest ys zs k i x le s =
    ap (drop (i + 1)) (s.3 x) ∙ drop-set-lt (i + 1) (set ys k (get_or ys i x)) i (get_or ys k x) (omega arith)
    ∙ drop-set-lt (i + 1) ys k (get_or ys i x) (omega (arith, le))

-- ys began as xs: what is kept of the first i leaves is in the first k positions, with the heads of their first keys in
-- tops, and from i on ys is as it was
pub record KeepsInPlace {V : Type 0} (p : List ℕ × V → Bool) (xs ys : List (List (List ℕ × V))) (tops : List ℕ)
    (k i : ℕ) : Type 0 where
  pub leaves : AreLeaves (take k tops) (take k ys)
  pub front : entries_in (take k ys) ≡ filter p (entries_in (take i xs))
  pub rest : drop i ys ≡ drop i xs
  pub beyond : k ≤ i
  pub within : i ≤ length xs
  pub long : length ys ≡ length xs
  pub wide : length tops ≡ length xs

module _ {V : Type 0} (p : List ℕ × V → Bool) (xs ys : List (List (List ℕ × V))) where
  -- one more of the old leaves
  front_more : (i : ℕ) (leaf : List (List ℕ × V)) → i < length xs → leaf ≡ get_or xs i leaf
      → filter p (entries_in (take (i + 1) xs)) ≡ filter p (entries_in (take i xs)) ++ filter p leaf
  front_more i leaf lt read =
      ap (λ ls. filter p (entries_in ls)) (take_more xs i leaf lt ∙ ap (λ l. take i xs ++ l ∷ []) (sym read))
      ∙ ap (filter p) (flat_map-append (λ (l : List (List ℕ × V)). l) (take i xs) (leaf ∷ [])
      ∙ ap (λ l. entries_in (take i xs) ++ l) (append-nil leaf)) ∙ filter-append p (entries_in (take i xs)) leaf

  module _ (tops : List ℕ) (k i : ℕ) (leaf now : List (List ℕ × V)) (keeps : KeepsInPlace p xs ys tops k i)
      (lt : i < length ys) (read : leaf ≡ get_or ys i leaf) (is : now ≡ filter p leaf) where
    old : leaf ≡ get_or xs i leaf
    old =
        read ∙ ap (λ n. get_or ys n leaf) (let e : i ≡ i + 0 = omega arith in e) ∙ sym (get_or-drop i ys 0 leaf)
        ∙ ap (λ l. get_or l 0 leaf) keeps.rest ∙ get_or-drop i xs 0 leaf
        ∙ ap (λ n. get_or xs n leaf) (let e : i + 0 ≡ i = omega arith in e)

    rest_now : drop (i + 1) (set ys i now) ≡ drop (i + 1) xs
    rest_now =
        let m = keeps.long in
        drop-set-lt (i + 1) ys i now (omega arith)
        ∙ ap (drop 1) (sym (drop_more ys i leaf lt) ∙ keeps.rest ∙ drop_more xs i leaf (omega (arith, lt, m)))

    gained : filter p (entries_in (take (i + 1) xs)) ≡ entries_in (take k ys) ++ now
    gained =
        let m = keeps.long in
        front_more i leaf (omega (arith, lt, m)) old ∙ ap₂ (λ es l. es ++ l) (sym keeps.front) (sym is)

    pub keeps_no : length now ≡ 0 → KeepsInPlace p xs (set ys i now) tops k (i + 1)
    keeps_no none =
        let m = keeps.long in
        let same : take k (set ys i now) ≡ take k ys = take-set-le k ys i now keeps.beyond in
        record {
          leaves = subst (AreLeaves (take k tops)) (sym same) keeps.leaves;
          front = ap entries_in same ∙ sym (gained ∙ ap (λ l. entries_in (take k ys) ++ l) (nil_from_length now none)
              ∙ append-nil (entries_in (take k ys)));
          rest = rest_now;
          beyond = let b = keeps.beyond in omega (arith, b);
          within = omega (arith, lt, m);
          long = length-set ys i now ∙ m;
          wide = keeps.wide;
        }

    pub keeps_yes : (h : ℕ) (more : List ℕ) (zs : List (List (List ℕ × V))) → 0 < length now
        → All AreBytes (keys_in now) → h ≡ head_of (first_key now) → more ≡ set tops k h
        → SwappedAt (set ys i now) zs k i → KeepsInPlace p xs zs more (k + 1) (i + 1)
    keeps_yes h more zs some bytes head e s =
        let m = keeps.long in
        let n = keeps.wide in
        let b = keeps.beyond in
        let size = length-set ys i now in
        let many = length-map now (λ (e : List ℕ × V). e.0) in
        let same : take k (set ys i now) ≡ take k ys = take-set-le k ys i now b in
        let front : take (k + 1) zs ≡ take k ys ++ now ∷ [] =
        swapped_front (set ys i now) zs k i now b (omega (arith, lt, size)) (sym (get_or-set_same ys i now now lt)) s
        ∙ ap (λ l. l ++ now ∷ []) same in
        record {
          leaves = leaves_push (take k tops) (take k ys) (take (k + 1) more) (take (k + 1) zs) now h keeps.leaves some
              (bytes 0 [] (omega (arith, some, many))) head
              (ap (take (k + 1)) e ∙ take_more_set tops k h (omega (arith, b, lt, m, n))) front;
          front = ap entries_in front ∙ flat_map-append (λ (l : List (List ℕ × V)). l) (take k ys) (now ∷ [])
              ∙ ap (λ l. entries_in (take k ys) ++ l) (append-nil now) ∙ sym gained;
          rest = swapped_rest (set ys i now) zs k i now b s ∙ rest_now;
          beyond = omega (arith, b);
          within = omega (arith, lt, m);
          long = ap length (s.3 now) ∙ length-set (set (set ys i now) k (get_or (set ys i now) i now)) i
              (get_or (set ys i now) k now) ∙ length-set (set ys i now) k (get_or (set ys i now) i now) ∙ size ∙ m;
          wide = ap length e ∙ length-set tops k h ∙ n;
        }
