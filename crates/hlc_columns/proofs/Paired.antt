-- The keys of columns in turn that have something, each with it: they ascend as those of the columns do.
use Rattle.std.proofs.Common.{◌≡◌, ◌++◌, ◌∷◌, ℕ, List, [], Option, Some, None, sym, ap, subst, inl, inr, Contains, map}
use Rattle.std.proofs.Common.{Less}
use Rattle.std.specs.List.{AllByRecursion, Sorted.IsStrictlySortedBy}
use Rattle.std.proofs.lemmas.List.Elements.{Contains-append_cases, Contains-append_left, Contains-append_right}
use Rattle.hlc_values.proofs.MemberLemmas.{Contains-none, Contains-first, Contains-rest, Contains-cons_cases}
use Rattle.hlc_table_index.specs.Entries.{key_cmp}
use Rattle.hlc_columns.{specs.Answers.pair_of, specs.Answers.pairs_in, proofs.Keys.names, proofs.WalkLemmas.Entry}

module _ {V : Type 0} (has : Entry → Option V) where
  abbrev Pair : Type 0
  Pair = List ℕ × V

  abbrev firsts : List Pair → List (List ℕ)
  firsts pairs = map (λ pair. pair.0) pairs

  -- each is the key of a column, with what that has
  pub pair_from : (es : List Entry) (k : List ℕ) (v : V) → Contains (pairs_in has es) (k, v)
      → (e : Entry) × Contains es e × (e.0 ≡ k) × (has e ≡ Some v)
  pair_from [] k v m = absurd (Contains-none {X = Pair} (k, v) m)
  pair_from (e ∷ es) k v m =
      elim (Contains-append_cases {X = Pair} (pair_of e.0 (has e)) (pairs_in has es) (k, v) m) [
        | inl here ↦ let is = own (has e) here in (e, Contains-first e es, is.0, is.1)
        | inr there ↦ let r = pair_from es k v there in (r.0, Contains-rest e r.0 es r.1, r.2, r.3)
      ]
    where
      own : (o : Option V) → Contains {X = Pair} (pair_of e.0 o) (k, v) → (e.0 ≡ k) × (o ≡ Some v)
      own None m = absurd (Contains-none {X = Pair} (k, v) m)
      own (Some value) m = elim (Contains-cons_cases {X = Pair} (e.0, value) (k, v) [] m) [
        | inl same ↦ (ap (λ (p : Pair). p.0) same, ap (λ (p : Pair). Some p.1) same)
        | inr none ↦ absurd (Contains-none {X = Pair} (k, v) none)
      ]

  -- and each column that has something is there
  pub pair_in : (es : List Entry) (e : Entry) (v : V) → Contains es e → has e ≡ Some v
      → Contains (pairs_in has es) (e.0, v)
  pair_in [] e v m value = absurd (Contains-none e m)
  pair_in (x ∷ es) e v m value = elim (Contains-cons_cases x e es m) [
    | inl same ↦ Contains-append_left {X = Pair} (pair_of x.0 (has x)) (pairs_in has es) (e.0, v)
        (subst (λ (y : Entry). Contains {X = Pair} (pair_of y.0 (has y)) (e.0, v)) (sym same)
        (rw value (Contains-first {X = Pair} (e.0, v) [])))
    | inr there ↦ Contains-append_right {X = Pair} (pair_of x.0 (has x)) (pairs_in has es) (e.0, v)
        (pair_in es e v there value)
  ]

  all_pairs : (P : List ℕ → Type 0) (es : List Entry) → AllByRecursion P (names es)
      → AllByRecursion P (firsts (pairs_in has es))
  all_pairs P [] all = tt
  all_pairs P (e ∷ es) all =
      elim (has e) as (λ o. AllByRecursion P (firsts (pair_of e.0 o ++ pairs_in has es))) [
        | None ↦ all_pairs P es all.1
        | Some v ↦ (all.0, all_pairs P es all.1)
      ]

  pub pairs_ascend : (es : List Entry) → IsStrictlySortedBy key_cmp (names es)
      → IsStrictlySortedBy key_cmp (firsts (pairs_in has es))
  unfolding IsStrictlySortedBy
  pairs_ascend [] up = tt
  pairs_ascend (e ∷ es) up =
      elim (has e) as (λ o. IsStrictlySortedBy key_cmp (firsts (pair_of e.0 o ++ pairs_in has es))) [
        | None ↦ pairs_ascend es up.1
        | Some v ↦ (all_pairs (λ k. key_cmp e.0 k ≡ Less) es up.0, pairs_ascend es up.1)
      ]
