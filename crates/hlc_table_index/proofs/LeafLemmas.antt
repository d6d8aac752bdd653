-- What is true of a leaf's heads and keys after entries are added or removed.
use Rattle.std.proofs.Common.{◌≡◌, ◌<◌, ◌++◌, ◌∷◌, ◌∙◌, ℕ, zero, suc, List, [], ap, ap₂, refl, sym, subst, All}
use Rattle.std.proofs.Common.{slice_get, map, take, drop, length, get_or, set, Some, insert}
use Rattle.std.proofs.lemmas.{Option.slice_get-get_or, List.get_or-map, List.map-append, List.take-map, List.drop-map}
use Rattle.std.proofs.lemmas.List.Elements.{All-append, All-take, All-drop, All-cons}
use Rattle.hlc_table_index.specs.{Head.head_of, Head.AreBytes, Entries.keys_in, Entries.with_value}

-- what is true of a leaf: its heads are those of its keys, which are bytes
abbrev pub IsLeaf : {V : Type 0} → List ℕ → List (List ℕ × V) → Type 0
IsLeaf heads es = (heads ≡ map head_of (keys_in es)) × All AreBytes (keys_in es)

pub heads_insert : (ks : List (List ℕ)) (n : ℕ) (k : List ℕ) → map head_of (insert ks n k) ≡ insert (map head_of ks) n
    (head_of k)
heads_insert ks n k =
    map-append head_of (take n ks) (k ∷ drop n ks)
    ∙ ap₂ (λ xs ys. xs ++ head_of k ∷ ys) (sym (take-map head_of n ks)) (sym (drop-map head_of n ks))

pub all_insert : {X : Type 0} (P : X → Type 0) (xs : List X) (n : ℕ) (x : X) → All P xs → P x → All P (insert xs n x)
all_insert P xs n x all one =
    All-append P (take n xs) (x ∷ drop n xs) (All-take P n xs all)
    (All-cons P x (drop n xs) one (All-drop P n xs all))

module _ {V : Type 0} where
  keys_insert : (es : List (List ℕ × V)) (n : ℕ) (e : List ℕ × V) → keys_in (insert es n e) ≡ insert (keys_in es) n e.0
  keys_insert es n e =
      map-append (λ (e : List ℕ × V). e.0) (take n es) (e ∷ drop n es)
      ∙ ap₂ (λ xs ys. xs ++ e.0 ∷ ys) (sym (take-map (λ (e : List ℕ × V). e.0) n es)) (sym (drop-map (λ (e : List ℕ ×
      V). e.0) n es))

  pub leaf_insert : (heads : List ℕ) (es : List (List ℕ × V)) (more : List ℕ) (now : List (List ℕ × V)) (n : ℕ) (key :
      List ℕ)
      (v : V) (h : ℕ) → IsLeaf heads es → h ≡ head_of key → AreBytes key → more ≡ insert heads n h → now ≡ insert es n
      (key, v) → IsLeaf more now
  leaf_insert heads es more now n key v h inv is bytes e f =
      rw (e, f, is, inv.0, keys_insert es n (key, v), heads_insert (keys_in es) n key)
      (refl, all_insert AreBytes (keys_in es) n key inv.1 bytes)

  pub leaf_take : (heads : List ℕ) (es : List (List ℕ × V)) (less : List ℕ) (now : List (List ℕ × V)) (n : ℕ) → IsLeaf
      heads es → less ≡ take n heads → now ≡ take n es → IsLeaf less now
  leaf_take heads es less now n inv e f =
      rw (e, f, inv.0, ← (take-map (λ (e : List ℕ × V). e.0) n es), ← (take-map head_of n (keys_in es)))
      (refl, All-take AreBytes n (keys_in es) inv.1)

  pub leaf_drop : (heads : List ℕ) (es : List (List ℕ × V)) (less : List ℕ) (now : List (List ℕ × V)) (n : ℕ) → IsLeaf
      heads es → less ≡ drop n heads → now ≡ drop n es → IsLeaf less now
  leaf_drop heads es less now n inv e f =
      rw (e, f, inv.0, ← (drop-map (λ (e : List ℕ × V). e.0) n es), ← (drop-map head_of n (keys_in es)))
      (refl, All-drop AreBytes n (keys_in es) inv.1)

  -- another value at a slot does not change the keys
  pub keys_kept : (es : List (List ℕ × V)) (n : ℕ) (e : List ℕ × V) (w : V) → e ≡ get_or es n e
      → keys_in (set es n (e.0, w)) ≡ keys_in es
  keys_kept [] n e w is = refl
  keys_kept (x ∷ xs) zero e w is = ap (λ k. k ∷ keys_in xs) (ap (λ (p : List ℕ × V). p.0) is)
  keys_kept (x ∷ xs) (suc n) e w is = ap (λ l. x.0 ∷ l) (keys_kept xs n e w is)

  pub leaf_valued : (heads : List ℕ) (es : List (List ℕ × V)) (n : ℕ) (e : List ℕ × V) (w : V) → IsLeaf heads es
      → e ≡ get_or es n e → IsLeaf heads (set es n (e.0, w))
  leaf_valued heads es n e w inv is = (
    inv.0 ∙ ap (map head_of) (sym (keys_kept es n e w is)),
    subst (All AreBytes) (sym (keys_kept es n e w is)) inv.1,
  )

  pub key_read : (es now : List (List ℕ × V)) (n : ℕ) (e : List ℕ × V) → es ≡ now → n < length now → e ≡ get_or es n e
      → e.0 ≡ get_or (keys_in now) n []
  key_read es now n e same lt is =
      ap (λ (p : List ℕ × V). p.0) (is ∙ ap (λ (l : List (List ℕ × V)). get_or l n e) same)
      ∙ sym (get_or-map (λ (p : List ℕ × V). p.0) now n e [] lt)

  pub entry_read : (es now : List (List ℕ × V)) (n : ℕ) (e : List ℕ × V) → es ≡ now → n < length now → e ≡ get_or es n e
      → slice_get now n ≡ Some (get_or (keys_in now) n [], e.1)
  entry_read es now n e same lt is =
      slice_get-get_or now n e lt
      ∙ ap (λ (p : List ℕ × V). Some p) (sym (is ∙ ap (λ (l : List (List ℕ × V)). get_or l n e) same))
      ∙ ap (λ k. Some (k, e.1)) (key_read es now n e same lt is)

  pub keys_with : (es : List (List ℕ × V)) (n : ℕ) (w : V) → keys_in (with_value es n w) ≡ keys_in es
  keys_with [] n w = refl
  keys_with (x ∷ xs) zero w = refl
  keys_with (x ∷ xs) (suc n) w = ap (λ l. x.0 ∷ l) (keys_with xs n w)
