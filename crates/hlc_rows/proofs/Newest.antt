-- The newest row is the greatest one. It is found by going down the list: a row that is no candidate changes nothing,
-- and for a candidate the result is the later of it and the newest of the rest. Two greatest rows are one version, so
-- in a row set they are one row.
use Rattle.std.proofs.Common.{◌≡◌, ℕ, ◌≤◌, List, [], ◌∷◌, true, false, Some, Contains, None, Option, refl, ap, sym, ◌∙◌}
use Rattle.std.proofs.Common.{subst, inl, inr, arith}
use Rattle.std.proofs.lemmas.Bool.{Decides.nat_tests, cases_Bool, cond-true, cond-false, both_ways, cases_lt}
use Rattle.hlc_values.proofs.MemberLemmas.{Contains-none, Contains-first, Contains-rest, Contains-cons_cases}
use Rattle.hlc_rows.specs.declared.row.Row.{Row}
use Rattle.hlc_rows.specs.Rows.{is_candidate, is_before, later, newest, IsNoLater, IsNewest, IsSameVersion, IsRowSet}
use Rattle.hlc_rows.proofs.CandidateLemmas.{candidate_true, candidate_from}

-- a row that the test puts before another is no later than it
before-true : (a b : Row) → is_before a b ≡ true → IsNoLater a b
before-true a b h = elim (cases_lt a.stamp b.stamp) [
  | inl less ↦ inl less
  | inr more ↦ inr (grind (arith, nat_tests), grind (arith, nat_tests))
]

before-false : (a b : Row) → is_before a b ≡ false → IsNoLater b a
before-false a b h = elim (cases_lt b.stamp a.stamp) [
  | inl less ↦ inl less
  | inr more ↦ inr (grind (arith, nat_tests), grind (arith, nat_tests))
]

no_later-trans : (a b c : Row) → IsNoLater a b → IsNoLater b c → IsNoLater a c
no_later-trans a b c (inl l) (inl m) = inl (omega arith)
no_later-trans a b c (inl l) (inr m) = inl (omega (arith, m.0))
no_later-trans a b c (inr l) (inl m) = inl (omega (arith, l.0))
no_later-trans a b c (inr l) (inr m) = inr (l.0 ∙ m.0, omega (arith, l.1, m.1))

no_later-self : (a : Row) → IsNoLater a a
no_later-self a = inr (refl, omega arith)

-- the meaning of a result of `newest`
abbrev pub NewestSays : List Row → List ℕ → ℕ → Option Row → Type 0
NewestSays rows key bound None = (row : Row) → Contains rows row → row.key ≡ key → row.stamp ≤ bound → ⊥
NewestSays rows key bound (Some row) = IsNewest rows key bound row

greatest-of_two : (first row : Row) (rows : List Row) (key : List ℕ) (bound : ℕ) → IsNoLater first row
    → ((other : Row) → Contains rows other → other.key ≡ key → other.stamp ≤ bound → IsNoLater other row)
    → (other : Row) → Contains (first ∷ rows) other → other.key ≡ key → other.stamp ≤ bound → IsNoLater other row
greatest-of_two first row rows key bound h rest other m k s =
    elim (Contains-cons_cases first other rows m) [
      | inl same ↦ subst (λ x. IsNoLater x row) same h
      | inr later' ↦ rest other later' k s
    ]

newest-hit : (first : Row) (rows : List Row) (key : List ℕ) (bound : ℕ) (o : Option Row)
    → is_candidate key bound first ≡ true → NewestSays rows key bound o
    → NewestSays (first ∷ rows) key bound (Some (later first o))
newest-hit first rows key bound None hit h =
    record {
      member = Contains-first first rows;
      of_key = (candidate_true key bound first hit).0;
      in_bound = (candidate_true key bound first hit).1;
      greatest =
          greatest-of_two first first rows key bound (no_later-self first) (λ other m k s. absurd (h other m k s));
    }
newest-hit first rows key bound (Some q) hit h =
    elim (cases_Bool (is_before first q)) [
      | inl before ↦
          rw (cond-true (is_before first q) q first before)
          (record {
            member = Contains-rest first q rows h.member;
            of_key = h.of_key;
            in_bound = h.in_bound;
            greatest = greatest-of_two first q rows key bound (before-true first q before) h.greatest;
          })
      | inr not_before ↦
          rw (cond-false (is_before first q) q first not_before)
          (record {
            member = Contains-first first rows;
            of_key = (candidate_true key bound first hit).0;
            in_bound = (candidate_true key bound first hit).1;
            greatest =
                greatest-of_two first first rows key bound (no_later-self first)
                (λ other m k s.
                no_later-trans other q first (h.greatest other m k s) (before-false first q not_before));
          })
    ]

newest-miss : (first : Row) (rows : List Row) (key : List ℕ) (bound : ℕ) (o : Option Row)
    → is_candidate key bound first ≡ false → NewestSays rows key bound o → NewestSays (first ∷ rows) key bound o
newest-miss first rows key bound None miss h = λ row m k s.
    elim (Contains-cons_cases first row rows m) [
      | inl same ↦ both_ways (is_candidate key bound first) miss (candidate_from key bound first
          (ap (λ r. r.key) same ∙ k) (let e : first.stamp ≡ row.stamp = ap (λ r. r.stamp) same in omega arith))
      | inr later' ↦ h row later' k s
    ]
newest-miss first rows key bound (Some q) miss h =
    record {
      member = Contains-rest first q rows h.member;
      of_key = h.of_key;
      in_bound = h.in_bound;
      greatest = λ other m k s.
          elim (Contains-cons_cases first other rows m) [
            | inl same ↦ absurd (both_ways (is_candidate key bound first) miss (candidate_from key bound first
                (ap (λ r. r.key) same ∙ k) (let e : first.stamp ≡ other.stamp = ap (λ r. r.stamp) same in omega arith)))
            | inr later' ↦ h.greatest other later' k s
          ];
    }

pub newest-says : (rows : List Row) (key : List ℕ) (bound : ℕ) → NewestSays rows key bound (newest rows key bound)
unfolding newest
newest-says [] key bound = λ row m k s. Contains-none row m
newest-says (first ∷ rows) key bound =
    elim (cases_Bool (is_candidate key bound first)) [
      | inl hit ↦
          rw (cond-true (is_candidate key bound first) (Some (later first (newest rows key bound)))
          (newest rows key bound) hit)
          (newest-hit first rows key bound (newest rows key bound) hit (newest-says rows key bound))
      | inr miss ↦
          rw (cond-false (is_candidate key bound first) (Some (later first (newest rows key bound)))
          (newest rows key bound) miss)
          (newest-miss first rows key bound (newest rows key bound) miss (newest-says rows key bound))
    ]

-- two members of a row set that are one version are the same row
same_version-same : (rows : List Row) (a b : Row) → IsRowSet rows → Contains rows a → Contains rows b
    → IsSameVersion a b → a ≡ b
same_version-same [] a b set' m n v = absurd (Contains-none a m)
same_version-same (first ∷ rows) a b set' m n v =
    elim (Contains-cons_cases first a rows m) [
      | inl at_a ↦
          elim (Contains-cons_cases first b rows n) [
            | inl at_b ↦ sym at_a ∙ at_b
            | inr in_b ↦ absurd (set'.0 b in_b (subst (λ x. IsSameVersion x b) (sym at_a) v))
          ]
      | inr in_a ↦
          elim (Contains-cons_cases first b rows n) [
            | inl at_b ↦ absurd (set'.0 a in_a (record {
              key = ap (λ r. r.key) at_b ∙ sym v.key;
              stamp = ap (λ r. r.stamp) at_b ∙ sym v.stamp;
              node = ap (λ r. r.node) at_b ∙ sym v.node;
            }))
            | inr in_b ↦ same_version-same rows a b set'.1 in_a in_b v
          ]
    ]

both_no_later : (a b : Row) → a.key ≡ b.key → IsNoLater a b → IsNoLater b a → IsSameVersion a b
both_no_later a b k (inl l) (inl m) = absurd (omega arith)
both_no_later a b k (inl l) (inr m) = absurd (omega (arith, m.0))
both_no_later a b k (inr l) (inl m) = absurd (omega (arith, l.0))
both_no_later a b k (inr l) (inr m) = record { key = k; stamp = l.0; node = omega (arith, l.1, m.1) }

-- a row set has at most one newest row
IsNewest-unique : (rows : List Row) (key : List ℕ) (bound : ℕ) (a b : Row) → IsRowSet rows
    → IsNewest rows key bound a → IsNewest rows key bound b → a ≡ b
IsNewest-unique rows key bound a b set' ha hb =
    same_version-same rows a b set' ha.member hb.member
    (both_no_later a b (ha.of_key ∙ sym hb.of_key) (hb.greatest a ha.member ha.of_key ha.in_bound)
    (ha.greatest b hb.member hb.of_key hb.in_bound))

pub newest-from_says : (rows : List Row) (key : List ℕ) (bound : ℕ) (row : Row) (o : Option Row) → IsRowSet rows
    → IsNewest rows key bound row → NewestSays rows key bound o → o ≡ Some row
newest-from_says rows key bound row None set' h says = absurd (says row h.member h.of_key h.in_bound)
newest-from_says rows key bound row (Some q) set' h says = ap Some (IsNewest-unique rows key bound q row set' says h)

-- a row of the key that is not between the two stamps is a candidate at both or at neither
pub candidate-same : (key : List ℕ) (low high : ℕ) (row : Row) → low ≤ high
    → (row.key ≡ key → row.stamp ≤ high → row.stamp ≤ low) → is_candidate key high row ≡ is_candidate key low row
candidate-same key low high row le none =
    elim (cases_Bool (is_candidate key high row)) [
      | inl hit ↦ let parts = candidate_true key high row hit in
          hit ∙ sym (candidate_from key low row parts.0 (none parts.0 parts.1))
      | inr miss ↦ elim (cases_Bool (is_candidate key low row)) [
        | inl hit ↦ let parts = candidate_true key low row hit in absurd (both_ways (is_candidate key high row) miss
            (candidate_from key high row parts.0 (omega (arith, parts.1, le))))
        | inr other ↦ miss ∙ sym other
      ]
    ]
