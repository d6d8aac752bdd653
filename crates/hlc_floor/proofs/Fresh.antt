-- Each step preserves the rule of the board: a step changes the view of one seat, and no word falls. So what other
-- seats saw stays at or below its word; the seat that raised owns the one word that changed; and what a load saw is the
-- word itself. A split makes two seats of one, which own no number together.
use Rattle.std.proofs.Common.{◌≡◌, ◌≢◌, ◌⊎◌, ℕ, zero, suc, ◌<◌, ◌≤◌, List, [], ◌∷◌, ◌++◌, length, set, get_or, take}
use Rattle.std.proofs.Common.{replicate, inl, inr, sym, refl, ap, ◌∙◌, subst, ⊎_elim, arith}
use Rattle.std.{specs.Prelude.slice_index, proofs.Math.ListN.length-set}
use Rattle.std.proofs.lemmas.List.{set-get_or, get_or-set_same, get_or-set_other, length-take-le, length-replicate}
use mathlib.Core.{Option.some, Option.some-ne-none, Option.some-injective, Option.none, Logic.dite}
use native.Mathlib.Decide.{ℕ_discrete}
use lib.ListN.{get_elem?}
use Rattle.atomic_table.specs.Table.{State, Step, step, keeps, Me, Allows, Splits, opening}
use Rattle.atomic_table.proofs.Lists.{at_set}
use Rattle.hlc_floor.specs.declared.rule.Place.{Place}
use Rattle.hlc_floor.specs.Board.{Owns, IsSeat, IsFresh, uncut, feeder_place, pass_place, without_first, looked, Raises}
use Rattle.hlc_floor.specs.Board.{Looks}

-- the position of a view in a list to which one was added
at_snoc_where : (l : List Place) (a b : Place) (j : ℕ) → get_elem? (l ++ a ∷ []) j ≡ some b
    → (get_elem? l j ≡ some b) ⊎ ((j ≡ length l) × (a ≡ b))
at_snoc_where [] a b zero e = inr (refl, some-injective a b e)
at_snoc_where [] a b (suc j) e = absurd (some-ne-none b (sym e))
at_snoc_where (x ∷ xs) a b zero e = inl e
at_snoc_where (x ∷ xs) a b (suc j) e =
    ⊎_elim
    (λ (t : get_elem? xs j ≡ some b). inl t)
    (λ (t : (j ≡ length xs) × (a ≡ b)). inr (ap suc t.0, t.1))
    (at_snoc_where xs a b j e)

-- x has no more than v: it owns no other number, raised the same, and saw no more
record Within (v x : Place) : Type 0 where
  represents : (i : ℕ) → Owns x i → Owns v i
  raised : (i : ℕ) → Owns x i → x.raised ≡ v.raised
  seen : (k : ℕ) → slice_index x.seen k ≤ slice_index v.seen k

within-all : (v : Place) → Within v v
within-all v = record { represents = λ i m. m; raised = λ i m. refl; seen = λ k. omega arith }

-- what is seen of one word is the word
set_le : (xs ws : List ℕ) (i n : ℕ) → n ≡ get_or ws i 0 → ((k : ℕ) → get_or xs k 0 ≤ get_or ws k 0) → (k : ℕ)
    → get_or (set xs i n) k 0 ≤ get_or ws k 0
set_le [] ws i n is le k = le k
set_le (x ∷ xs) [] i n is le k = set_none (x ∷ xs) i n is le k
  where
    set_none : (ys : List ℕ) (j m : ℕ) → m ≡ 0 → ((k : ℕ) → get_or ys k 0 ≤ 0) → (k : ℕ) → get_or (set ys j m) k 0 ≤ 0
    set_none [] j m is le k = le k
    set_none (y ∷ ys) zero m is le zero = omega arith
    set_none (y ∷ ys) zero m is le (suc k) = le (suc k)
    set_none (y ∷ ys) (suc j) m is le zero = le 0
    set_none (y ∷ ys) (suc j) m is le (suc k) = set_none ys j m is (λ l. le (suc l)) k
set_le (x ∷ xs) (y ∷ ws) zero n is le zero = omega arith
set_le (x ∷ xs) (y ∷ ws) zero n is le (suc k) = le (suc k)
set_le (x ∷ xs) (y ∷ ws) (suc i) n is le zero = le 0
set_le (x ∷ xs) (y ∷ ws) (suc i) n is le (suc k) = set_le xs ws i n is (λ l. le (suc l)) k

pub zero_at : (n k : ℕ) → slice_index (replicate n 0) k ≡ 0
zero_at zero k = refl
zero_at (suc n) zero = refl
zero_at (suc n) (suc k) = zero_at n k

module _ {S : Type 0} where
  -- one seat has a new view, and the words rose
  moves : (nodes : ℕ) (s : State S Place) (id : ℕ) (v w : Place) (ws : List ℕ)
      (homes : List (mathlib.Core.Option.Option S))
      → IsFresh nodes s → IsSeat s id v → length ws ≡ nodes → ((i : ℕ) → Owns w i → Owns v i)
      → ((i : ℕ) → Owns w i → slice_index ws i ≡ w.raised)
      → ((i : ℕ) → ¬ Owns v i → slice_index ws i ≡ slice_index s.words i)
      → ((k : ℕ) → slice_index s.words k ≤ slice_index ws k)
      → ((k : ℕ) → slice_index w.seen k ≤ slice_index ws k)
      → IsFresh nodes record { words = ws; homes = homes; views = set s.views id w }
  moves nodes s id v w ws homes h at len fewer own others up sees =
      let was : (a : ℕ) (x : Place) → get_elem? (set s.views id w) a ≡ some x
      → (y : Place) × IsSeat s a y × ((i : ℕ) → Owns x i → Owns y i) =
      λ a x e. ⊎_elim
      (λ (t : (a ≡ id) × (w ≡ x)). (
        v,
        subst (λ (j : ℕ). get_elem? s.views j ≡ some v) (sym t.0) at,
        λ i m. fewer i (subst (λ (y : Place). Owns y i) (sym t.1) m),
      ))
      (λ (t : (a ≢ id) × (get_elem? s.views a ≡ some x)). (x, t.1, λ i m. m))
      (at_set s.views id a w x e) in
      record {
        words = len;
        one_seat = λ a b i x y p q m n.
            let p' = was a x p in
            let q' = was b y q in
            h.one_seat a b i p'.0 q'.0 p'.1 q'.1 (p'.2 i m) (q'.2 i n);
        raised = λ a i x e m. ⊎_elim
            (λ (t : (a ≡ id) × (w ≡ x)). own i (subst (λ (y : Place). Owns y i) (sym t.1) m)
            ∙ ap (λ (y : Place). y.raised) t.1)
            (λ (t : (a ≢ id) × (get_elem? s.views a ≡ some x)).
            others i (λ (n : Owns v i). t.0 (h.one_seat a id i x v t.1 at m n)) ∙ h.raised a i x t.1 m)
            (at_set s.views id a w x e);
        seen = λ a k x e. ⊎_elim
            (λ (t : (a ≡ id) × (w ≡ x)). subst (λ (y : Place). slice_index y.seen k ≤ slice_index ws k) t.1 (sees k))
            (λ (t : (a ≢ id) × (get_elem? s.views a ≡ some x)). let old = h.seen a k x t.1 in
            let more = up k in omega arith)
            (at_set s.views id a w x e);
      }

  -- a feeder stores a larger word
  pub raises : (nodes slots id i old n : ℕ) (st : Step S) → old < n → i < nodes
      → Allows (IsFresh nodes) slots id (feeder_place i old, []) i (λ _. n) (λ _. Raises st (feeder_place i old, []) n)
  raises nodes slots id i old n st more below s h _ at _ =
      let v : Place = feeder_place i old in
      let w : Place = feeder_place i n in
      let ws : List ℕ = set s.words i n in
      let here : i < length s.words = let l = h.words in omega arith in
      let is : get_or s.words i 0 ≡ old = h.raised id i v at (omega arith, omega arith) in
      let now : get_or ws i 0 ≡ n = get_or-set_same s.words i n 0 here in
      let else : (j : ℕ) → j ≢ i → get_or ws j 0 ≡ get_or s.words j 0 = λ j ne. get_or-set_other s.words i j n 0 ne in
      let up : (k : ℕ) → get_or s.words k 0 ≤ get_or ws k 0 =
      λ k. dite (ℕ_discrete k i)
      (λ (e : k ≡ i). subst (λ (j : ℕ). get_or s.words j 0 ≤ get_or ws j 0) (sym e) (omega arith))
      (λ (ne : k ≢ i). let same = else k ne in omega arith) in (
        w,
        keeps,
        tt,
        moves nodes s id v w ws s.homes h at (length-set s.words i n ∙ h.words) (λ j m. m)
            (λ j m. let e : j ≡ i = let a = m.0 in let b = m.1 in omega arith in ap (λ (k : ℕ). get_or ws k 0) e ∙ now)
            (λ j free. else j (λ e. free (omega arith, omega arith)))
            up
            (λ k. let old' = h.seen id k v at in let u = up k in omega arith),
        refl,
      )

  -- a pass loads a word
  pub looks : (nodes slots id k : ℕ) (seen : List ℕ) (found : List (List ℕ))
      → Allows (IsFresh {S = S} nodes) slots id (pass_place seen found, []) k (λ n. n)
      (Looks (step slots k 0 0 none) (pass_place seen found, []))
  looks nodes slots id k seen found s h _ at _ =
      let v : Place = pass_place seen found in
      let n : ℕ = get_or s.words k 0 in
      let w : Place = looked v k n in
      let same : set s.words k n ≡ s.words = set-get_or s.words k 0 in (
        w,
        keeps,
        tt,
        subst
            (λ (ws : List ℕ). IsFresh nodes record { words = ws; homes = s.homes; views = set s.views id w }) (sym same)
            (moves nodes s id v w s.words s.homes h at h.words (λ j m. m) (λ j m. absurd (let b = m.1 in omega arith))
            (λ j free. refl) (λ j. omega arith) (set_le seen s.words k n refl (λ j. h.seen id j v at))),
        (refl, h.seen id k v at),
      )

  -- a seat's view is split into two, which own no number together
  cut : (nodes id : ℕ) (v l r : Place) → Within v l → Within v r → ((i : ℕ) → Owns l i → ¬ Owns r i)
      → Splits (IsFresh {S = S} nodes) id v l r
  cut nodes id v l r left right apart s h at =
      let vs : List Place = set s.views id l in
      let before : (a : ℕ) (x : Place) → get_elem? vs a ≡ some x → (y : Place) × IsSeat s a y × Within y x =
      λ a x e. ⊎_elim
      (λ (t : (a ≡ id) × (l ≡ x)). (
        v,
        subst (λ (j : ℕ). get_elem? s.views j ≡ some v) (sym t.0) at,
        subst (λ (y : Place). Within v y) t.1 left,
      ))
      (λ (t : (a ≢ id) × (get_elem? s.views a ≡ some x)). (x, t.1, within-all x))
      (at_set s.views id a l x e) in
      let not_right : (a i : ℕ) (x : Place) → get_elem? vs a ≡ some x → Owns x i → ¬ Owns r i =
      λ a i x e m n. ⊎_elim
      (λ (t : (a ≡ id) × (l ≡ x)). apart i (subst (λ (y : Place). Owns y i) (sym t.1) m) n)
      (λ (t : (a ≢ id) × (get_elem? s.views a ≡ some x)). t.0 (h.one_seat a id i x v t.1 at m (right.represents i n)))
      (at_set s.views id a l x e) in
      -- the seat that a view is a part of
      let from : (a : ℕ) (x : Place) → get_elem? (vs ++ r ∷ []) a ≡ some x
      → (b : ℕ) × (y : Place) × IsSeat s b y × Within y x =
      λ a x e. ⊎_elim
      (λ (t : get_elem? vs a ≡ some x). let b = before a x t in (a, b.0, b.1, b.2))
      (λ (t : (a ≡ length vs) × (r ≡ x)). (id, v, at, subst (λ (y : Place). Within v y) t.1 right))
      (at_snoc_where vs r x a e) in
      record {
        words = h.words;
        one_seat = λ a b i x y p q m n. ⊎_elim
            (λ (t : get_elem? vs a ≡ some x). ⊎_elim
            (λ (u : get_elem? vs b ≡ some y).
            let t' = before a x t in
            let u' = before b y u in
            h.one_seat a b i t'.0 u'.0 t'.1 u'.1 (t'.2.represents i m) (u'.2.represents i n))
            (λ (u : (b ≡ length vs) × (r ≡ y)).
            absurd (not_right a i x t m (subst (λ (z : Place). Owns z i) (sym u.1) n)))
            (at_snoc_where vs r y b q))
            (λ (t : (a ≡ length vs) × (r ≡ x)). ⊎_elim
            (λ (u : get_elem? vs b ≡ some y).
            absurd (not_right b i y u n (subst (λ (z : Place). Owns z i) (sym t.1) m)))
            (λ (u : (b ≡ length vs) × (r ≡ y)). t.0 ∙ sym u.0)
            (at_snoc_where vs r y b q))
            (at_snoc_where vs r x a p);
        raised = λ a i x e m. let o = from a x e in h.raised o.0 i o.1 o.2 (o.3.represents i m) ∙ sym (o.3.raised i m);
        seen = λ a k x e. let o = from a x e in let below = h.seen o.0 k o.1 o.2 in
            let less = o.3.seen k in omega arith;
      }

  -- the least number is split off for a feeder
  pub cuts_feeder : (nodes id : ℕ) (v : Place) → v.from < v.to
      → Splits (IsFresh {S = S} nodes) id v (without_first v) (feeder_place v.from v.raised)
  cuts_feeder nodes id v some_left =
      cut nodes id v (without_first v) (feeder_place v.from v.raised)
      record {
        represents = λ i m. let a = m.0 in let b = m.1 in (omega arith, omega arith);
        raised = λ i m. refl;
        seen = λ k. omega arith;
      }
      record {
        represents = λ i m. let a = m.0 in let b = m.1 in (omega arith, omega arith);
        raised = λ i m. refl;
        seen = λ k. omega arith;
      }
      (λ i m n. let a = m.0 in let b = n.1 in omega arith)

  -- a pass is split off
  pub cuts_pass : (nodes id : ℕ) (v : Place) → Splits (IsFresh {S = S} nodes) id v v (pass_place v.seen v.found)
  cuts_pass nodes id v =
      cut nodes id v v (pass_place v.seen v.found)
      (within-all v)
      record {
        represents = λ i m. absurd (let b = m.1 in omega arith);
        raised = λ i m. absurd (let b = m.1 in omega arith);
        seen = λ k. omega arith;
      }
      (λ i m n. let b = n.1 in omega arith)

  -- the board begins with one seat, which owns all numbers, and words of 0
  pub begins : (nodes : ℕ) (words : List ℕ) → length words ≡ nodes → ((k : ℕ) → get_or words k 0 ≡ 0)
      → IsFresh nodes (opening {S = S} words [] (uncut nodes 0))
  begins nodes words len zeros =
      let v : Place = uncut nodes 0 in
      let first : (a : ℕ) (x : Place) → get_elem? (v ∷ []) a ≡ some x → (a ≡ 0) × (v ≡ x) = only v in
      record {
        words = len;
        one_seat = λ a b i x y p q m n. (first a x p).0 ∙ sym (first b y q).0;
        raised = λ a i x e m. zeros i ∙ ap (λ (y : Place). y.raised) (first a x e).1;
        seen = λ a k x e. subst (λ (y : Place). slice_index y.seen k ≤ slice_index words k) (first a x e).1
            (let z = zero_at nodes k in omega arith);
      }
    where
      only : (v : Place) (a : ℕ) (x : Place) → get_elem? (v ∷ []) a ≡ some x → (a ≡ 0) × (v ≡ x)
      only v zero x e = (refl, some-injective v x e)
      only v (suc a) x e = absurd (some-ne-none x (sym e))

  -- the steps, at a known seat
  pub raises_as : (nodes key slots id i old n : ℕ) (me : Me S Place) (st : Step S)
      → me ≡ (feeder_place i old, []) → key ≡ nodes
      → old < n → i < nodes → Allows (IsFresh key) slots id me i (λ _. n) (λ _. Raises st me n)
  raises_as nodes key slots id i old n me st is same more below =
      subst (λ (x : Me S Place). Allows (IsFresh key) slots id x i (λ _. n) (λ _. Raises st x n)) (sym is)
      (raises key slots id i old n st more (omega arith))

  pub looks_as : (nodes slots id k : ℕ) (seen : List ℕ) (found : List (List ℕ)) (me : Me S Place)
      → me ≡ (pass_place seen found, [])
      → Allows (IsFresh {S = S} nodes) slots id me k (λ n. n) (Looks (step slots k 0 0 none) me)
  looks_as nodes slots id k seen found me is =
      subst (λ (x : Me S Place). Allows (IsFresh {S = S} nodes) slots id x k (λ n. n) (Looks (step slots k 0 0 none) x))
      (sym is)
      (looks nodes slots id k seen found)

zeros_taken : (n m k : ℕ) → slice_index (take n (replicate m 0)) k ≡ 0
zeros_taken zero m k = refl
zeros_taken (suc n) zero k = refl
zeros_taken (suc n) (suc m) zero = refl
zeros_taken (suc n) (suc m) (suc k) = zeros_taken n m k

pub begins_as : {S : Type 0} (most nodes key : ℕ) → key ≡ nodes → nodes ≤ most
    → IsFresh key (opening {S = S} (take nodes (replicate most 0)) [] (uncut key 0))
begins_as {S} most nodes key is low =
    begins {S = S} key (take nodes (replicate most 0))
    (length-take-le nodes (replicate most 0) (omega (arith, low, length-replicate {A = ℕ} most 0)) ∙ sym is)
    (zeros_taken nodes most)
