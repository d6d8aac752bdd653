-- Rows of the keys of two kinds that have no key in common.
use Rattle.std.proofs.Common.{◌≡◌, ℕ, ◌+◌, List, [], ◌∷◌, ◌++◌, Bool, true, false, cond, Option, Some, None}
use Rattle.std.proofs.Common.{Contains, length, filter, refl, ap, ap₂, sym, ◌∙◌, inl, inr, arith, Less}
use Rattle.std.proofs.Common.{nat_cmp, sum_by}
use Rattle.std.specs.Prelude.{not, ◌⊎◌}
use Rattle.std.specs.Ordering.{ordering_then}
use Rattle.std.specs.Cmp.Lexicographic.{slice_cmp}
use Rattle.std.proofs.lemmas.Bool.{both_ways}
use Rattle.std.proofs.lemmas.List.Elements.{All-contains, All-append, Contains-append_left, Contains-append_right}
use Rattle.std.proofs.lemmas.List.Sums.{sum_by-append, sum_by-cons}
use Rattle.hlc_values.proofs.MemberLemmas.{Contains-first, Contains-rest}
use Rattle.hlc_rows.specs.declared.row.Row.{Row}
use Rattle.hlc_rows.specs.Rows.{answer}
use Rattle.hlc_witness.specs.declared.witness.Witness.{Witness}
use Rattle.hlc_witness.specs.Changes.{AreChanges, IsChange, answer_at, change_cmp}
use Rattle.hlc_witness.specs.Cost.{changes_cost, change_cost, cost_of}
use Rattle.hlc_witness.proofs.ListedLemmas.{sorted_append, all_from}
use Rattle.hlc_core.specs.Parts.{rows_of_keys}
use Rattle.hlc_core.proofs.PartLemmas.{answer-of_keys, answer-other_keys}

abbrev pub Kind : Type 0
Kind = List ℕ → Bool

-- the keys of one kind are those of two others, which have none in common, and those of the first come before those of
-- the second
pub record AreHalves (whole first second : Kind) : Type 0 where
  pub first_in : (key : List ℕ) → first key ≡ true → whole key ≡ true
  pub second_in : (key : List ℕ) → second key ≡ true → whole key ≡ true
  pub covers : (key : List ℕ) → whole key ≡ true → (first key ≡ true) ⊎ (second key ≡ true)
  pub apart : (key : List ℕ) → first key ≡ true → second key ≡ false
  pub before : (a b : List ℕ) → first a ≡ true → second b ≡ true → slice_cmp nat_cmp a b ≡ Less

-- what is not in the whole is not in the first
pub not_first : (whole first second : Kind) → AreHalves whole first second → (key : List ℕ)
    → not (whole key) ≡ true → not (first key) ≡ true
not_first whole first second h key out = elim (first key) as (λ b. first key ≡ b → not b ≡ true) [
  | true ↦ λ t. absurd (both_ways (not (whole key)) (ap not (h.first_in key t)) out)
  | false ↦ λ _. refl
] refl

pub not_second : (whole first second : Kind) → AreHalves whole first second → (key : List ℕ)
    → not (whole key) ≡ true → not (second key) ≡ true
not_second whole first second h key out = elim (second key) as (λ b. second key ≡ b → not b ≡ true) [
  | true ↦ λ t. absurd (both_ways (not (whole key)) (ap not (h.second_in key t)) out)
  | false ↦ λ _. refl
] refl

-- a test that passes only where another does can be made after it
pub filter-within : {X : Type 0} (p q : X → Bool) → ((x : X) → p x ≡ true → q x ≡ true) → (xs : List X)
    → filter p (filter q xs) ≡ filter p xs
filter-within p q within [] = refl
filter-within {X = X} p q within (x ∷ xs) =
    let rest : filter p (filter q xs) ≡ filter p xs = filter-within p q within xs in
    let no : q x ≡ false → p x ≡ false = λ f. elim (p x) as (λ b. p x ≡ b → b ≡ false) [
      | true ↦ λ t. absurd (both_ways (q x) f (within x t))
      | false ↦ λ _. refl
    ] refl in
    elim (q x) as (λ b. q x ≡ b → filter p (cond b (x ∷ filter q xs) (filter q xs)) ≡ filter p (x ∷ xs)) [
      | true ↦ λ _. ap (λ l. cond (p x) (x ∷ l) l) rest
      | false ↦ λ f. rest ∙ sym (ap (λ b. cond b (x ∷ filter p xs) (filter p xs)) (no f))
    ] refl

-- lists with the same rows of one kind have the same rows of each kind within it
pub same-within : (one other : Kind) → ((key : List ℕ) → other key ≡ true → one key ≡ true) → (rows old : List Row)
    → rows_of_keys one rows ≡ rows_of_keys one old → rows_of_keys other rows ≡ rows_of_keys other old
same-within one other within rows old same =
    sym (filter-within (λ (row : Row). other row.key) (λ row. one row.key) (λ row. within row.key) rows)
    ∙ ap (rows_of_keys other) same
    ∙ filter-within (λ (row : Row). other row.key) (λ row. one row.key) (λ row. within row.key) old

-- rows that pass a test: those of the whole are those of its halves
one-more : {X : Type 0} (p : X → Bool) (b : Bool) (x : X) (xs : List X)
    → length (filter p (cond b (x ∷ xs) xs)) ≡ cond b (cond (p x) 1 0) 0 + length (filter p xs)
one-more p false x xs = omega arith
one-more p true x xs =
    elim (p x) as (λ b. length (cond b (x ∷ filter p xs) (filter p xs)) ≡ cond b 1 0 + length (filter p xs)) [
      | true ↦ omega arith
      | false ↦ omega arith
    ]

pub count-halves : (whole first second : Kind) → AreHalves whole first second → (p : Row → Bool) (rows : List Row)
    → length (filter p (rows_of_keys whole rows))
    ≡ length (filter p (rows_of_keys first rows)) + length (filter p (rows_of_keys second rows))
count-halves whole first second h p [] = refl
count-halves whole first second h p (row ∷ rows) =
    let rest : length (filter p (rows_of_keys whole rows))
    ≡ length (filter p (rows_of_keys first rows)) + length (filter p (rows_of_keys second rows)) =
    count-halves whole first second h p rows in
    let one : ℕ = cond (p row) 1 0 in
    let all' = one-more p (whole row.key) row (rows_of_keys whole rows) in
    let here = one-more p (first row.key) row (rows_of_keys first rows) in
    let there = one-more p (second row.key) row (rows_of_keys second rows) in
    let none : whole row.key ≡ false → (is_of : Kind) → (is_of row.key ≡ true → whole row.key ≡ true)
    → is_of row.key ≡ false = λ f is_of within. elim (is_of row.key) as (λ b. is_of row.key ≡ b → b ≡ false) [
      | true ↦ λ t. absurd (both_ways (whole row.key) f (within t))
      | false ↦ λ _. refl
    ] refl in
    let bits : cond (whole row.key) one 0 ≡ cond (first row.key) one 0 + cond (second row.key) one 0 =
    elim (first row.key) as (λ b. first row.key ≡ b
    → cond (whole row.key) one 0 ≡ cond b one 0 + cond (second row.key) one 0) [
      | true ↦ λ t. ap (λ b. cond b one 0) (h.first_in row.key t)
          ∙ (let z : one ≡ one + 0 = omega arith in z)
          ∙ sym (ap (λ b. one + cond b one 0) (h.apart row.key t))
      | false ↦ λ f. ap (λ b. cond b one 0) (elim (whole row.key) as (λ b. whole row.key ≡ b → b ≡ second row.key) [
        | true ↦ λ t. elim (h.covers row.key t) [
          | inl is ↦ absurd (both_ways (first row.key) f is)
          | inr is ↦ sym is
        ]
        | false ↦ λ out. sym (none out second (h.second_in row.key))
      ] refl) ∙ (let z : cond (second row.key) one 0 ≡ 0 + cond (second row.key) one 0 = omega arith in z)
    ] refl in
    omega arith

-- two kinds that have a key have the same answers at it
same-answers : (one other : Kind) (rows : List Row) (key : List ℕ) (bound : ℕ) → one key ≡ true → other key ≡ true
    → answer (rows_of_keys one rows) key bound ≡ answer (rows_of_keys other rows) key bound
same-answers one other rows key bound a b =
    answer-of_keys one rows key bound a ∙ sym (answer-of_keys other rows key bound b)

same-before : (one other : Kind) (rows : List Row) (key : List ℕ) (before : Option ℕ) → one key ≡ true
    → other key ≡ true
    → answer_at (rows_of_keys one rows) key before ≡ answer_at (rows_of_keys other rows) key before
same-before one other rows key None a b = refl
same-before one other rows key (Some bound) a b = same-answers one other rows key bound a b

-- and the same changes
same-change : (one other : Kind) (rows : List Row) (points : List ℕ) (change : Witness) → one change.key ≡ true
    → other change.key ≡ true → IsChange (rows_of_keys one rows) points change
    → IsChange (rows_of_keys other rows) points change
same-change one other rows points change a b is = record {
  place = is.place;
  differs = λ e. is.differs (same-answers one other rows change.key change.at a b ∙ e
      ∙ sym (same-before one other rows change.key change.before a b));
}

no-before : (is_of : Kind) (rows : List Row) (key : List ℕ) (before : Option ℕ) → is_of key ≡ false
    → answer_at (rows_of_keys is_of rows) key before ≡ None
no-before is_of rows key None f = refl
no-before is_of rows key (Some bound) f = answer-other_keys is_of rows key bound f

-- a change of the rows of some keys is of one of these keys
pub change-key : (is_of : Kind) (rows : List Row) (points : List ℕ) (change : Witness)
    → IsChange (rows_of_keys is_of rows) points change → is_of change.key ≡ true
change-key is_of rows points change is =
    elim (is_of change.key) as (λ b. is_of change.key ≡ b → b ≡ true) [
      | true ↦ λ _. refl
      | false ↦ λ f. absurd (is.differs (answer-other_keys is_of rows change.key change.at f
          ∙ sym (no-before is_of rows change.key change.before f)))
    ] refl

-- the changes of both halves are those of the whole
pub changes-together : (whole first second : Kind) → AreHalves whole first second → (rows : List Row)
    (points : List ℕ) (here there : List Witness) → AreChanges (rows_of_keys first rows) points here
    → AreChanges (rows_of_keys second rows) points there → AreChanges (rows_of_keys whole rows) points (here ++ there)
changes-together whole first second h rows points here there a b =
    let one : (c : Witness) → Contains here c → IsChange (rows_of_keys first rows) points c =
    λ c i. All-contains (IsChange (rows_of_keys first rows) points) here c a.each i in
    let two : (c : Witness) → Contains there c → IsChange (rows_of_keys second rows) points c =
    λ c i. All-contains (IsChange (rows_of_keys second rows) points) there c b.each i in
    record {
      ascend = sorted_append change_cmp here there a.ascend b.ascend (λ x y i j.
          ap (λ o. ordering_then o (nat_cmp x.at y.at)) (h.before x.key y.key
          (change-key first rows points x (one x i)) (change-key second rows points y (two y j))));
      each = All-append (IsChange (rows_of_keys whole rows) points) here there
          (all_from (IsChange (rows_of_keys whole rows) points) here (λ c i.
          let t = change-key first rows points c (one c i) in
          same-change first whole rows points c t (h.first_in c.key t) (one c i)))
          (all_from (IsChange (rows_of_keys whole rows) points) there (λ c i.
          let t = change-key second rows points c (two c i) in
          same-change second whole rows points c t (h.second_in c.key t) (two c i)));
      every = λ c is. let t = change-key whole rows points c is in elim (h.covers c.key t) [
        | inl f ↦ Contains-append_left here there c (a.every c (same-change whole first rows points c t f is))
        | inr s ↦ Contains-append_right here there c (b.every c (same-change whole second rows points c t s is))
      ];
    }

same-sums : {X : Type 0} (f g : X → ℕ) (xs : List X) → ((x : X) → Contains xs x → f x ≡ g x)
    → sum_by f xs ≡ sum_by g xs
same-sums f g [] same = refl
same-sums f g (x ∷ xs) same =
    sum_by-cons f x xs
    ∙ ap₂ (λ a b. a + b) (same x (Contains-first x xs))
    (same-sums f g xs (λ y i. same y (Contains-rest x y xs i)))
    ∙ sym (sum_by-cons g x xs)

-- what changes force is the same for two kinds that have their keys
pub same-cost : (one other : Kind) (rows : List Row) (points : List ℕ) (changes : List Witness)
    → AreChanges (rows_of_keys one rows) points changes
    → ((key : List ℕ) → one key ≡ true → other key ≡ true)
    → changes_cost (rows_of_keys one rows) changes ≡ changes_cost (rows_of_keys other rows) changes
same-cost one other rows points changes are within =
    same-sums (change_cost (rows_of_keys one rows)) (change_cost (rows_of_keys other rows)) changes (λ c i.
    let is : IsChange (rows_of_keys one rows) points c =
    All-contains (IsChange (rows_of_keys one rows) points) changes c are.each i in
    let t = change-key one rows points c is in
    ap (λ o. cost_of c.key o) (same-answers one other rows c.key c.at t (within c.key t)))

pub cost-together : (whole first second : Kind) → AreHalves whole first second → (rows : List Row)
    (points : List ℕ) (here there : List Witness) → AreChanges (rows_of_keys first rows) points here
    → AreChanges (rows_of_keys second rows) points there
    → changes_cost (rows_of_keys first rows) here + changes_cost (rows_of_keys second rows) there
    ≡ changes_cost (rows_of_keys whole rows) (here ++ there)
cost-together whole first second h rows points here there a b =
    ap₂ (λ x y. x + y) (same-cost first whole rows points here a h.first_in)
    (same-cost second whole rows points there b h.second_in)
    ∙ sym (sum_by-append (change_cost (rows_of_keys whole rows)) here there)
