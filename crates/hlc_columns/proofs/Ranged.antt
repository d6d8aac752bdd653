-- The columns of a range of keys, as walks from either end come to them: since keys ascend, no key after the first that
-- is not below the end is below it, and each before the last that is below the first key is below that too.
use Rattle.std.proofs.Common.{◌≡◌, ◌≢◌, ◌++◌, ◌∷◌, ◌∙◌, ◌&&◌, ℕ, List, [], Bool, true, false, cond, not, append-nil}
use Rattle.std.proofs.Common.{append_assoc, take_all, zero, suc, length, take, get_or, arith, ◌≤◌, Option, Some, None}
use Rattle.std.proofs.Common.{refl, sym, ap, ap₂, subst, inl, inr, Contains, filter, All, reverse, true≢false, Less}
use Rattle.std.proofs.Common.{Equal, Greater, Ordering, is_lt}
use Rattle.std.specs.{Cmp.Lexicographic.nat_list_cmp_total, List.AllByRecursion, List.Sorted.IsStrictlySortedBy}
use Rattle.std.proofs.lemmas.Bool.{cond_both, cases_Bool, and_parts, and_right, false_from_ne_true}
use Rattle.std.proofs.lemmas.List.{get_or_past, reverse-append, reverse-reverse}
use Rattle.std.proofs.lemmas.List.Elements.{filter-append, All-cons, Contains-get_or}
use Rattle.std.proofs.lemmas.Map.Keys.{sorted_head, sorted_tail}
use Rattle.hlc_values.proofs.MemberLemmas.{Contains-none, Contains-cons_cases, Contains-filter, Contains-from_filter}
use Rattle.hlc_table_index.specs.Entries.{key_cmp, entries_in, entries_before}
use Rattle.hlc_columns.specs.Answers.{is_below, is_from, is_between, IsBetween, leading}
use Rattle.hlc_columns.proofs.{Keys.names, Listed.ascend_from, Listed.ascend_upto}
use Rattle.hlc_columns.proofs.WalkLemmas.{Entry, filter_all, filter_none}

-- the columns whose keys are in a range
abbrev pub within : List ℕ → Option (List ℕ) → List Entry → List Entry
within from to es = filter (λ e. is_between from to e.0) es

-- ---- keys
is_less : (o : Ordering) → is_lt o ≡ true → o ≡ Less
is_less Less h = refl
is_less Equal h = absurd (true≢false (sym h))
is_less Greater h = absurd (true≢false (sym h))

not_less : (o : Ordering) → o ≢ Less → is_lt o ≡ false
not_less Less h = absurd (h refl)
not_less Equal h = refl
not_less Greater h = refl

other_less : (o : Ordering) → not (is_lt o) ≡ true → o ≢ Less
other_less o h e = true≢false (sym h ∙ ap (λ o. not (is_lt o)) e)

below_less : (to : Option (List ℕ)) (a b : List ℕ) → key_cmp a b ≡ Less → is_below to b ≡ true → is_below to a ≡ true
below_less None a b lt h = refl
below_less (Some to) a b lt h = ap is_lt (nat_list_cmp_total.trans a b to lt (is_less (key_cmp b to) h))

-- no key is below the empty one
never_below : (key : List ℕ) → key_cmp key [] ≢ Less
never_below [] e = cc
never_below (x ∷ xs) e = cc

pub any_between : (key : List ℕ) → IsBetween [] None key
any_between key = (never_below key, refl)

later : (k : List ℕ) (es : List Entry) (e : Entry) → AllByRecursion (λ y. key_cmp k y ≡ Less) (names es) → Contains es e
    → key_cmp k e.0 ≡ Less
later k [] e all m = absurd (Contains-none e m)
later k (x ∷ es) e all m = elim (Contains-cons_cases x e es m) [
  | inl same ↦ subst (λ (y : Entry). key_cmp k y.0 ≡ Less) same all.0
  | inr there ↦ later k es e all.1 there
]

-- ---- the columns in a range
pub from_within : (from : List ℕ) (to : Option (List ℕ)) (es : List Entry) (e : Entry) → Contains (within from to es) e
    → Contains es e × IsBetween from to e.0
from_within from to es e m =
    let at = Contains-from_filter (λ (e : Entry). is_between from to e.0) es e m in
    let both = and_parts (not (is_lt (key_cmp e.0 from))) (is_below to e.0) at.1 in
    (at.0, (other_less (key_cmp e.0 from) both.0, both.1))

pub is_within : (from : List ℕ) (to : Option (List ℕ)) (es : List Entry) (e : Entry) → Contains es e
    → IsBetween from to e.0 → Contains (within from to es) e
is_within from to es e m (above, under) =
    Contains-filter (λ (e : Entry). is_between from to e.0) es e m
    (ap₂ (λ b c. not b && c) (not_less (key_cmp e.0 from) above) under)

all_kept : (P : List ℕ → Type 0) (p : Entry → Bool) (es : List Entry) → AllByRecursion P (names es)
    → AllByRecursion P (names (filter p es))
all_kept P p [] all = tt
all_kept P p (e ∷ es) all =
    cond_both (p e) (e ∷ filter p es) (filter p es) (λ l. AllByRecursion P (names l))
    (λ t. (all.0, all_kept P p es all.1)) (λ f. all_kept P p es all.1)

sorted_kept : (p : Entry → Bool) (es : List Entry) → IsStrictlySortedBy key_cmp (names es)
    → IsStrictlySortedBy key_cmp (names (filter p es))
unfolding IsStrictlySortedBy
sorted_kept p [] up = tt
sorted_kept p (e ∷ es) up =
    cond_both (p e) (e ∷ filter p es) (filter p es) (λ l. IsStrictlySortedBy key_cmp (names l))
    (λ t. (all_kept (λ k. key_cmp e.0 k ≡ Less) p es up.0, sorted_kept p es up.1)) (λ f. sorted_kept p es up.1)

pub sorted_within : (from : List ℕ) (to : Option (List ℕ)) (es : List Entry) → IsStrictlySortedBy key_cmp (names es)
    → IsStrictlySortedBy key_cmp (names (within from to es))
sorted_within from to es = sorted_kept (λ e. is_between from to e.0) es

-- ---- items that a test selects
filter_alike : {X : Type 0} (p q : X → Bool) (xs : List X) → All (λ x. p x ≡ q x) xs → filter p xs ≡ filter q xs
filter_alike p q [] alike = refl
filter_alike p q (x ∷ xs) alike =
    rw (alike 0 x (omega arith), filter_alike p q xs (λ i d lt. alike (suc i) d (omega arith))) refl

-- a walk backwards through entries that are all of a kind, and then on
back_on : (is_of : List ℕ → Bool) (xs ys : List Entry) → All (λ x. is_of x.0 ≡ true) xs
    → leading is_of (reverse xs ++ ys) ≡ reverse xs ++ leading is_of ys
back_on is_of [] ys all = refl
back_on is_of (x ∷ xs) ys all =
    ap (leading is_of) (onto ys) ∙ back_on is_of xs (x ∷ ys) (λ i d lt. all (suc i) d (omega arith))
    ∙ ap (λ b. reverse xs ++ cond b (x ∷ leading is_of ys) []) (all 0 x (omega arith)) ∙ sym (onto (leading is_of ys))
  where
    onto : (zs : List Entry) → reverse (x ∷ xs) ++ zs ≡ reverse xs ++ x ∷ zs
    onto zs = ap (λ l. l ++ zs) (reverse-append (x ∷ []) xs) ∙ append_assoc (reverse xs) (x ∷ []) zs

-- a walk ends at the first entry that is not
ends_at : (is_of : List ℕ → Bool) (xs : List Entry) (x : Entry) → is_of x.0 ≡ false
    → leading is_of (xs ++ x ∷ []) ≡ leading is_of xs
ends_at is_of [] x out = ap (λ b. cond b (x ∷ []) []) out
ends_at is_of (y ∷ ys) x out = ap (λ l. cond (is_of y.0) (y ∷ l) []) (ends_at is_of ys x out)

-- a walk without an end comes to all
pub all_lead : (es : List Entry) → leading (is_below None) es ≡ es
all_lead [] = refl
all_lead (e ∷ es) = ap (λ l. e ∷ l) (all_lead es)

-- ---- from the first one on
upto_end : (to : Option (List ℕ)) (es : List Entry) → IsStrictlySortedBy key_cmp (names es)
    → filter (λ e. is_below to e.0) es ≡ leading (is_below to) es
upto_end to [] up = refl
upto_end to (e ∷ es) up = elim (cases_Bool (is_below to e.0)) [
  | inl t ↦ rw (t, upto_end to es (sorted_tail key_cmp e.0 (names es) up)) refl
  | inr f ↦ rw f (filter_none (λ (e : Entry). is_below to e.0) es (λ i d lt.
      false_from_ne_true (is_below to (get_or es i d).0) (λ under.
      true≢false (sym (below_less to e.0 (get_or es i d).0 (later e.0 es (get_or es i d)
      (sorted_head key_cmp e.0 (names es) up) (Contains-get_or es i d lt)) under) ∙ f))))
]

-- from a position on, if all keys before it are below a key and none from there on is
pub walked : (front back : List Entry) (from : List ℕ) (to : Option (List ℕ))
    → IsStrictlySortedBy key_cmp (names (front ++ back)) → All (λ e. key_cmp e.0 from ≡ Less) front
    → All (λ e. key_cmp e.0 from ≢ Less) back → leading (is_below to) back ≡ within from to (front ++ back)
walked front back from to up below others =
    let p : Entry → Bool = λ e. is_between from to e.0 in
    sym (filter-append p front back ∙ ap₂ (λ a b. a ++ b)
    (filter_none p front (λ i d lt. ap (λ o. not (is_lt o) && is_below to (get_or front i d).0) (below i d lt)))
    (filter_alike p (λ e. is_below to e.0) back (λ i d lt. ap (λ b. not b && is_below to (get_or back i d).0)
    (not_less (key_cmp (get_or back i d).0 from) (others i d lt))) ∙ upto_end to back (ascend_from front back up)))

-- ---- from the last one on
module _ (from : List ℕ) where
  abbrev above : Entry → Bool
  above e = is_from from e.0

  above_more : (a b : List ℕ) → key_cmp a b ≡ Less → not (is_lt (key_cmp a from)) ≡ true
      → not (is_lt (key_cmp b from)) ≡ true
  above_more a b lt h = elim (cases_Bool (is_lt (key_cmp b from))) [
    | inl t ↦ absurd (other_less (key_cmp a from) h
        (nat_list_cmp_total.trans a b from lt (is_less (key_cmp b from) t)))
    | inr f ↦ ap not f
  ]

  downto_first : (es : List Entry) → IsStrictlySortedBy key_cmp (names es)
      → leading (is_from from) (reverse es) ≡ reverse (filter above es)
  downto_first [] up = refl
  downto_first (e ∷ es) up =
      elim (cases_Bool (above e)) [
        | inl t ↦
            let all : All (λ d. above d ≡ true) (e ∷ es) = All-cons (λ (d : Entry). above d ≡ true) e es t (λ i d lt.
            above_more e.0 (get_or es i d).0 (later e.0 es (get_or es i d) (sorted_head key_cmp e.0 (names es) up)
            (Contains-get_or es i d lt)) t) in
            ap (leading (is_from from)) (sym (append-nil (reverse (e ∷ es))))
            ∙ back_on (is_from from) (e ∷ es) [] all ∙ append-nil (reverse (e ∷ es))
            ∙ ap reverse (sym (filter_all above (e ∷ es) all))
        | inr f ↦
            ap (λ l. leading (is_from from) l) (reverse-append (e ∷ []) es) ∙ ends_at (is_from from) (reverse es) e f
            ∙ downto_first es (sorted_tail key_cmp e.0 (names es) up)
            ∙ ap reverse (sym (ap (λ b. cond b (e ∷ filter above es) (filter above es)) f))
      ]

  and_true : (b : Bool) → b && true ≡ b
  and_true true = refl
  and_true false = refl

  -- from a position down, if all keys before it are below the end and none from there on is
  walked_back : (front back : List Entry) (to : Option (List ℕ))
      → IsStrictlySortedBy key_cmp (names (front ++ back)) → All (λ e. is_below to e.0 ≡ true) front
      → All (λ e. is_below to e.0 ≡ false) back
      → reverse (leading (is_from from) (reverse front)) ≡ within from to (front ++ back)
  walked_back front back to up below others =
      let p : Entry → Bool = λ e. is_between from to e.0 in
      ap reverse (downto_first front (ascend_upto front back up)) ∙ reverse-reverse (filter above front)
      ∙ sym (filter-append p front back ∙ ap₂ (λ a b. a ++ b)
      (filter_alike p above front (λ i d lt. ap (λ b. above (get_or front i d) && b) (below i d lt)
      ∙ and_true (above (get_or front i d))))
      (filter_none p back (λ i d lt. and_right (above (get_or back i d)) _ (others i d lt)))
      ∙ append-nil (filter above front))

  pub walked_below : (front back : List Entry) (to : List ℕ)
      → IsStrictlySortedBy key_cmp (names (front ++ back)) → All (λ e. key_cmp e.0 to ≡ Less) front
      → All (λ e. key_cmp e.0 to ≢ Less) back
      → reverse (leading (is_from from) (reverse front)) ≡ within from (Some to) (front ++ back)
  walked_below front back to up below others =
      walked_back front back (Some to) up
      (λ i d lt. ap is_lt (below i d lt))
      (λ i d lt. not_less (key_cmp (get_or back i d).0 to) (others i d lt))

  pub walked_all : (es : List Entry) → IsStrictlySortedBy key_cmp (names es)
      → reverse (leading (is_from from) (reverse es)) ≡ within from None es
  walked_all es up =
      subst (λ l. reverse (leading (is_from from) (reverse es)) ≡ within from None l) (append-nil es)
      (walked_back es [] None (subst (λ l. IsStrictlySortedBy key_cmp (names l)) (sym (append-nil es)) up)
      (λ i d lt. refl) (λ i d lt. absurd (omega arith)))

-- ---- leaf by leaf
-- from the end on, all entries are before a position
pub before_end : (leaves : List (List Entry)) (at slot : ℕ) → length leaves ≤ at
    → entries_in (take (length leaves) leaves) ++ [] ≡ entries_before leaves at slot
before_end leaves at slot le =
    ap₂ (λ l r. entries_in l ++ r)
    (take_all (length leaves) leaves (omega arith) ∙ sym (take_all at leaves le))
    (sym (ap (take slot) (get_or_past leaves at [] le) ∙ take_nil slot))
  where
    take_nil : (n : ℕ) → take {A = Entry} n [] ≡ []
    take_nil zero = refl
    take_nil (suc n) = refl

pub all_before : (leaves : List (List Entry)) → entries_in (take (length leaves) leaves) ++ [] ≡ entries_in leaves
all_before leaves =
    append-nil (entries_in (take (length leaves) leaves))
    ∙ ap entries_in (take_all (length leaves) leaves (omega arith))
