-- The first columns of a walk, and those above a key.
use Rattle.std.proofs.Common.{◌≡◌, ◌≢◌, ℕ, zero, suc, ◌+◌, ◌≤◌, List, [], ◌∷◌, ◌++◌, sym, ap, MatchOption, append_assoc}
use Rattle.std.proofs.Common.{length-drop, take_all, ◌∙◌, arith, take, length, get_or, drop, Bool, true, false, Option}
use Rattle.std.proofs.Common.{Some, None, All, refl, subst, inl, inr, Bor, Ordering, Less, Equal, Greater, true≢false}
use Rattle.std.specs.{Ordering.is_eq, Ordering.ordering_reverse, Str.bytes_eq, Cmp.Lexicographic.nat_list_cmp_total}
use Rattle.std.specs.List.{AllByRecursion, Sorted.IsStrictlySortedBy}
use Rattle.std.proofs.lemmas.{Bool.cases_Bool, List.map_push, Slice.Eq.bytes_eq-Decides}
use Rattle.std.proofs.lemmas.List.Elements.{All-from_recursion, All-nil, All-cons, All-append, All-weaker}
use Rattle.hlc_table_index.specs.Entries.{keys_in, key_cmp}
use Rattle.hlc_table_index.proofs.SlotLemmas.{itself, other}
use Rattle.hlc_columns.specs.{Answers.AreAbove, Answers.starts_at, Table.keyed}
use Rattle.hlc_columns.proofs.{FoundLemmas.same_key, WalkLemmas.Entry, WalkLemmas.one_of}
use Rattle.hlc_table_column.specs.Rows.{KeyCells}

-- one more item
pub one_more : {X : Type 0} (xs rest : List X) (i : ℕ) (x : X) → drop i xs ≡ x ∷ rest
    → (take (i + 1) xs ≡ take i xs ++ x ∷ []) × (drop (i + 1) xs ≡ rest)
one_more {X} xs rest i x is =
    let e : i + 1 ≡ suc i = omega arith in
    let h = go xs i is in (ap (λ m. take m xs) e ∙ h.0, ap (λ m. drop m xs) e ∙ h.1)
  where
    go : (xs : List X) (i : ℕ) → drop i xs ≡ x ∷ rest
        → (take (suc i) xs ≡ take i xs ++ x ∷ []) × (drop (suc i) xs ≡ rest)
    go [] zero is = absurd (let n = ap length is in omega (arith, n))
    go [] (suc i) is = absurd (let n = ap length is in omega (arith, n))
    go (y ∷ ys) zero is = (ap (λ z. z ∷ []) (ap (λ l. get_or l 0 x) is), ap (drop 1) is)
    go (y ∷ ys) (suc i) is = let h = go ys i is in (ap (λ l. y ∷ l) h.0, h.1)

-- one more column is listed
pub listed_more : (list more : List KeyCells) (es left after : List Entry) (i : ℕ) (e : Entry) (one : KeyCells)
    → list ≡ keyed (take i es) → left ≡ drop i es → left ≡ e ∷ after → more ≡ list ++ one ∷ [] → one ≡ one_of e
    → (more ≡ keyed (take (i + 1) es)) × (after ≡ drop (i + 1) es)
listed_more list more es left after i e one inv rest next is same =
    let h = one_more es after i e (sym rest ∙ next) in (
      is ∙ ap (λ l. l ++ one ∷ []) inv ∙ ap (λ o. keyed (take i es) ++ o ∷ []) same
          ∙ sym (map_push one_of (take i es) e) ∙ ap keyed (sym h.0),
      sym h.1,
    )

-- all that there are
pub listed_all : (es : List Entry) (i most : ℕ) → i ≤ most → drop i es ≡ [] → take i es ≡ take most es
listed_all es i most le none =
    let n = ap length none in
    let d = length-drop i es in
    take_all i es (omega (arith, n, d)) ∙ sym (take_all most es (omega (arith, n, d, le)))

-- the columns from a place on, without the first if it is that of the key
abbrev pub skip : Bool → List Entry → List Entry
skip true es = drop 1 es
skip false es = es

pub ascend_from : (front es : List Entry) → IsStrictlySortedBy key_cmp (keys_in (front ++ es))
    → IsStrictlySortedBy key_cmp (keys_in es)
unfolding IsStrictlySortedBy
ascend_from [] es up = up
ascend_from (f ∷ front) es up = ascend_from front es up.1

pub ascend_upto : (front es : List Entry) → IsStrictlySortedBy key_cmp (keys_in (front ++ es))
    → IsStrictlySortedBy key_cmp (keys_in front)
unfolding IsStrictlySortedBy
ascend_upto [] es up = tt
ascend_upto (f ∷ front) es up = (go front up.0, ascend_upto front es up.1)
  where
    go : (front : List Entry) → AllByRecursion (λ k. key_cmp f.0 k ≡ Less) (keys_in (front ++ es))
        → AllByRecursion (λ k. key_cmp f.0 k ≡ Less) (keys_in front)
    go [] h = tt
    go (x ∷ xs) h = (h.0, go xs h.1)

-- a key that is not above the first is below the others
rest_above : (key : List ℕ) (e : Entry) (es : List Entry) → IsStrictlySortedBy key_cmp (keys_in (e ∷ es))
    → key_cmp e.0 key ≢ Less → All (λ x. key_cmp x.0 key ≡ Greater) es
unfolding IsStrictlySortedBy
rest_above key e es up over = All-from_recursion (λ (x : Entry). key_cmp x.0 key ≡ Greater) es (go es up.0)
  where
    one : (k : List ℕ) → key_cmp e.0 k ≡ Less → key_cmp k key ≡ Greater
    one k less = elim (key_cmp e.0 key) as (λ o. key_cmp e.0 key ≡ o → key_cmp k key ≡ Greater) [
      | Less ↦ λ is. absurd (over is)
      | Equal ↦ λ is. other key k (subst (λ x. key_cmp x k ≡ Less) (same_key e.0 key (ap is_eq is)) less)
      | Greater ↦ λ is. other key k (nat_list_cmp_total.trans key e.0 k
          (nat_list_cmp_total.antisymm key e.0 ∙ ap ordering_reverse is) less)
    ] refl

    go : (es : List Entry) → AllByRecursion (λ b. key_cmp e.0 b ≡ Less) (keys_in es)
        → AllByRecursion (λ (x : Entry). key_cmp x.0 key ≡ Greater) es
    go [] h = tt
    go (x ∷ xs) h = (one x.0 h.0, go xs h.1)

not_greater : (o : Ordering) → o ≡ Less → o ≢ Greater
not_greater o is e = cc

equal_not_greater : (o : Ordering) → o ≡ Equal → o ≢ Greater
equal_not_greater o is e = cc

not_less : (a b : List ℕ) → key_cmp a b ≢ Less → (a ≡ b → ⊥) → key_cmp a b ≡ Greater
not_less a b over apart = elim (key_cmp a b) as (λ o. key_cmp a b ≡ o → o ≡ Greater) [
  | Less ↦ λ is. absurd (over is)
  | Equal ↦ λ is. absurd (apart (same_key a b (ap is_eq is)))
  | Greater ↦ λ is. refl
] refl

-- where the columns that are not below a key begin, those above it are all but the first if that is the key's own
pub above_from : (front es : List Entry) (key : List ℕ) → All (λ e. key_cmp e.0 key ≡ Less) front
    → All (λ e. key_cmp e.0 key ≢ Less) es → IsStrictlySortedBy key_cmp (keys_in (front ++ es))
    → AreAbove (front ++ es) key (skip (starts_at key es) es)
above_from front [] key less over up = record {
  front = front;
  whole = refl;
  not_above = All-weaker (λ (e : Entry). key_cmp e.0 key ≡ Less) (λ e. key_cmp e.0 key ≢ Greater)
      (λ e is. not_greater (key_cmp e.0 key) is) front less;
  all_above = All-nil (λ (e : Entry). key_cmp e.0 key ≡ Greater);
}
above_from front (e ∷ es) key less over up =
    let own = ascend_from front (e ∷ es) up in
    let first : key_cmp e.0 key ≢ Less = over 0 e (omega arith) in
    let rest = rest_above key e es own first in
    let before = All-weaker (λ (e : Entry). key_cmp e.0 key ≡ Less) (λ e. key_cmp e.0 key ≢ Greater)
    (λ e is. not_greater (key_cmp e.0 key) is) front less in
    elim (cases_Bool (bytes_eq e.0 key)) [
      | inl t ↦ subst (λ b. AreAbove (front ++ e ∷ es) key (skip b (e ∷ es))) (sym t) (record {
        front = front ++ e ∷ [];
        whole = sym (append_assoc front (e ∷ []) es);
        not_above = All-append (λ (e : Entry). key_cmp e.0 key ≢ Greater) front (e ∷ []) before
            (All-cons (λ (e : Entry). key_cmp e.0 key ≢ Greater) e []
            (equal_not_greater (key_cmp e.0 key)
            (subst (λ k. key_cmp k key ≡ Equal) (sym ((bytes_eq-Decides e.0 key).0 t)) (itself key)))
            (All-nil (λ (e : Entry). key_cmp e.0 key ≢ Greater)));
        all_above = rest;
      })
      | inr n ↦ subst (λ b. AreAbove (front ++ e ∷ es) key (skip b (e ∷ es))) (sym n) (record {
        front = front;
        whole = refl;
        not_above = before;
        all_above = All-cons (λ (e : Entry). key_cmp e.0 key ≡ Greater) e es
            (not_less e.0 key first (λ same. true≢false (sym ((bytes_eq-Decides e.0 key).1 same) ∙ n))) rest;
      })
    ]

-- the next column is taken
pub skipped : (old new : List Entry) (first : Option (Bor Entry))
    → MatchOption first ((old ≡ []) × (new ≡ [])) (λ e. old ≡ e.now ∷ new) → new ≡ skip true old
skipped old new None h = h.1 ∙ sym (ap (drop 1) h.0)
skipped old new (Some e) h = sym (ap (drop 1) h)
