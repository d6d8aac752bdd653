-- Cells in the order of their stamps and nodes: sorted, and the newest of those that are still to come.
use Rattle.std.proofs.Common.{◌≡◌, ◌⊎◌, ◌<◌, ◌≤◌, ◌&&◌, ◌∷◌, ◌∙◌, ℕ, zero, suc, List, [], Bool, true, false, ltb, leb}
use Rattle.std.proofs.Common.{length, get_or, refl, sym, ap, ap₂, subst, inl, inr, arith, Contains, filter, Option}
use Rattle.std.proofs.Common.{Some, None}
use Rattle.std.{specs.List.AllPairs, specs.List.Sorted.IsPermutation, proofs.lemmas.List.get_or_default}
use Rattle.std.proofs.lemmas.List.Sorted.{IsPermutation-refl, IsPermutation-sym, IsPermutation-trans}
use Rattle.std.proofs.lemmas.List.Sorted.{IsPermutation-cons, IsPermutation-middle, Contains-permutation}
use Rattle.std.proofs.lemmas.Bool.{cond_both, cases_lt, and_parts, Decides.nat_tests}
use Rattle.hlc_values.proofs.MemberLemmas.{Contains-none, Contains-first, Contains-rest, Contains-cons_cases}
use Rattle.hlc_values.proofs.MemberLemmas.{Contains-filter, Contains-from_filter}
use Rattle.hlc_values.proofs.SortedLemmas.{same_members}
use Rattle.hlc_table_column.specs.Cells.{Cell}
use Rattle.hlc_table_column.specs.Versions.{IsNewer, IsNoNewer, AreApart, is_before, is_after, is_left, placed}
use Rattle.hlc_table_column.specs.Versions.{newest_first, versions_left}

-- ---- the order of stamps and nodes
before_is : (s n t m : ℕ) → is_before s n t m ≡ true → (s < t) ⊎ ((s ≡ t) × (n < m))
before_is s n t m h = elim (cases_lt s t) [
  | inl l ↦ inl l
  | inr g ↦ inr (grind (arith, nat_tests), grind (arith, nat_tests))
]

not_before_is : (s n t m : ℕ) → is_before s n t m ≡ false → (t < s) ⊎ ((t ≡ s) × (m ≤ n))
not_before_is s n t m h = elim (cases_lt t s) [
  | inl l ↦ inl l
  | inr g ↦ inr (grind (arith, nat_tests), grind (arith, nat_tests))
]

is_newer : (a b : Cell) → IsNewer a b → is_before b.stamp b.node a.stamp a.node ≡ true
is_newer a b (inl l) = grind (arith, nat_tests)
is_newer a b (inr (e, l)) = grind (arith, nat_tests)

newer_trans : (a b c : Cell) → IsNewer a b → IsNewer b c → IsNewer a c
newer_trans a b c (inl p) (inl q) = inl (omega (arith, p, q))
newer_trans a b c (inl p) (inr (f, q)) = inl (omega (arith, p, f))
newer_trans a b c (inr (e, p)) (inl q) = inl (omega (arith, e, q))
newer_trans a b c (inr (e, p)) (inr (f, q)) = inr (f ∙ e, omega (arith, p, q))

one_way : (a b : Cell) → IsNewer a b → IsNewer b a → ⊥
one_way a b (inl p) (inl q) = omega (arith, p, q)
one_way a b (inl p) (inr (f, q)) = omega (arith, p, f)
one_way a b (inr (e, p)) (inl q) = omega (arith, e, q)
one_way a b (inr (e, p)) (inr (f, q)) = omega (arith, p, q)

pub no_newer_trans : (a b c : Cell) → IsNoNewer a b → IsNoNewer b c → IsNoNewer a c
no_newer_trans a b c (inl p) (inl q) = inl (omega (arith, p, q))
no_newer_trans a b c (inl p) (inr (f, q)) = inl (omega (arith, p, f))
no_newer_trans a b c (inr (e, p)) (inl q) = inl (omega (arith, e, q))
no_newer_trans a b c (inr (e, p)) (inr (f, q)) = inr (e ∙ f, omega (arith, p, q))

pub older_no_newer : (a b : Cell) → is_before a.stamp a.node b.stamp b.node ≡ true → IsNoNewer a b
older_no_newer a b is = elim (before_is a.stamp a.node b.stamp b.node is) [
  | inl l ↦ inl l
  | inr (e, l) ↦ inr (e, omega (arith, l))
]

pub other_no_newer : (a b : Cell) → is_before a.stamp a.node b.stamp b.node ≡ false → IsNoNewer b a
other_no_newer a b is = not_before_is a.stamp a.node b.stamp b.node is

-- ---- sorted cells
abbrev Falls : List Cell → Type 0
Falls [] = Unit {0}
Falls (cell ∷ cells) = ((other : Cell) → Contains cells other → IsNewer cell other) × Falls cells

falls_at : (cells : List Cell) → Falls cells → (i j : ℕ) (d : Cell) → i < j → j < length cells
    → IsNewer (get_or cells i d) (get_or cells j d)
falls_at [] falls i j d lt l = absurd (omega (arith, l))
falls_at (cell ∷ cells) falls i zero d lt l = absurd (omega (arith, lt))
falls_at (cell ∷ cells) falls zero (suc j) d lt l =
    falls.0 (get_or cells j d)
    (j, omega (arith, l), get_or_default cells j (get_or cells j d) d (omega (arith, l)))
falls_at (cell ∷ cells) falls (suc i) (suc j) d lt l =
    falls_at cells falls.1 i j d (omega (arith, lt)) (omega (arith, l))

placed_moves : (cell : Cell) (cells : List Cell) → IsPermutation (placed cell cells) (cell ∷ cells)
placed_moves cell [] = IsPermutation-refl (cell ∷ [])
placed_moves cell (other ∷ cells) =
    cond_both (is_before other.stamp other.node cell.stamp cell.node) (cell ∷ other ∷ cells)
    (other ∷ placed cell cells) (λ l. IsPermutation l (cell ∷ other ∷ cells))
    (λ t. IsPermutation-refl (cell ∷ other ∷ cells))
    (λ f. IsPermutation-trans (other ∷ placed cell cells) (other ∷ cell ∷ cells) (cell ∷ other ∷ cells)
    (IsPermutation-cons other (placed cell cells) (cell ∷ cells) (placed_moves cell cells))
    (IsPermutation-middle (other ∷ []) cell cells))

sorted_moves : (cells : List Cell) → IsPermutation (newest_first cells) cells
sorted_moves [] = IsPermutation-refl []
sorted_moves (cell ∷ cells) =
    IsPermutation-trans (placed cell (newest_first cells)) (cell ∷ newest_first cells) (cell ∷ cells)
    (placed_moves cell (newest_first cells)) (IsPermutation-cons cell (newest_first cells) cells (sorted_moves cells))

sorted_from : (cells : List Cell) (x : Cell) → Contains (newest_first cells) x → Contains cells x
sorted_from cells x = Contains-permutation (newest_first cells) cells x (sorted_moves cells)

abbrev IsApart : Cell → Cell → Type 0
IsApart a b = a.stamp ≡ b.stamp → a.node ≡ b.node → ⊥

must_be_newer : (a b : Cell) → IsApart a b → IsNoNewer a b → IsNewer b a
must_be_newer a b apart (inl l) = inl l
must_be_newer a b apart (inr (e, le)) = elim (cases_lt a.node b.node) [
  | inl l ↦ inr (e, l)
  | inr g ↦ absurd (apart e (omega (arith, le, g)))
]

placed_falls : (cell : Cell) (cells : List Cell) → Falls cells → ((x : Cell) → Contains cells x → IsApart cell x)
    → Falls (placed cell cells)
placed_falls cell [] falls apart = (λ x m. absurd (Contains-none x m), tt)
placed_falls cell (other ∷ cells) falls apart =
    cond_both (is_before other.stamp other.node cell.stamp cell.node) (cell ∷ other ∷ cells)
    (other ∷ placed cell cells) Falls
    (λ t. let first = before_is other.stamp other.node cell.stamp cell.node t in (
      λ x m. elim (Contains-cons_cases other x cells m) [
        | inl same ↦ subst (IsNewer cell) same first
        | inr there ↦ newer_trans cell other x first (falls.0 x there)
      ],
      falls,
    ))
    (λ f. (
      λ x m. elim (Contains-cons_cases cell x cells
          (Contains-permutation (placed cell cells) (cell ∷ cells) x (placed_moves cell cells) m)) [
            | inl same ↦ subst (IsNewer other) same
                (must_be_newer cell other (apart other (Contains-first other cells)) (other_no_newer other cell f))
            | inr there ↦ falls.0 x there
          ],
      placed_falls cell cells falls.1 (λ x m. apart x (Contains-rest other x cells m)),
    ))

sorted_falls : (cells : List Cell) → AreApart cells → Falls (newest_first cells)
sorted_falls [] apart = tt
sorted_falls (cell ∷ cells) apart =
    placed_falls cell (newest_first cells) (sorted_falls cells apart.1)
    (λ x m. apart.0 x (sorted_from cells x m))

filter_apart : (p : Cell → Bool) (cells : List Cell) → AreApart cells → AreApart (filter p cells)
filter_apart p [] apart = tt
filter_apart p (cell ∷ cells) apart =
    cond_both (p cell) (cell ∷ filter p cells) (filter p cells) AreApart
    (λ t. (λ x m. apart.0 x (Contains-from_filter p cells x m).0, filter_apart p cells apart.1))
    (λ f. filter_apart p cells apart.1)

same_cell : (cells : List Cell) → AreApart cells → (a b : Cell) → Contains cells a → Contains cells b
    → a.stamp ≡ b.stamp → a.node ≡ b.node → a ≡ b
same_cell [] apart a b m k s n = absurd (Contains-none a m)
same_cell (cell ∷ cells) apart a b m k s n =
    elim (Contains-cons_cases cell a cells m) [
      | inl first ↦ elim (Contains-cons_cases cell b cells k) [
        | inl second ↦ sym first ∙ second
        | inr there ↦ absurd (apart.0 b there (ap (λ (x : Cell). x.stamp) first ∙ s)
            (ap (λ (x : Cell). x.node) first ∙ n))
      ]
      | inr here ↦ elim (Contains-cons_cases cell b cells k) [
        | inl second ↦ absurd (apart.0 a here (ap (λ (x : Cell). x.stamp) second ∙ sym s)
            (ap (λ (x : Cell). x.node) second ∙ sym n))
        | inr there ↦ same_cell cells apart.1 a b here there s n
      ]
    ]

-- ---- those that are still to come

module _ (cells : List Cell) (from to : ℕ) where
  abbrev left : Option (ℕ × ℕ) → Cell → Bool
  left last cell = is_left from to last cell

  pub left_from : (last : Option (ℕ × ℕ)) (x : Cell) → Contains (versions_left cells from to last) x
      → Contains cells x × (left last x ≡ true)
  left_from last x m = Contains-from_filter (left last) cells x (sorted_from (filter (left last) cells) x m)

  pub left_in : (last : Option (ℕ × ℕ)) (x : Cell) → Contains cells x → left last x ≡ true
      → Contains (versions_left cells from to last) x
  left_in last x m wanted =
      Contains-permutation (filter (left last) cells) (versions_left cells from to last) x
      (IsPermutation-sym (versions_left cells from to last) (filter (left last) cells)
      (sorted_moves (filter (left last) cells))) (Contains-filter (left last) cells x m wanted)

  left_falls : (last : Option (ℕ × ℕ)) → AreApart cells → Falls (versions_left cells from to last)
  left_falls last apart = sorted_falls (filter (left last) cells) (filter_apart (left last) cells apart)

  pub left_pairs : (last : Option (ℕ × ℕ)) → AreApart cells → AllPairs IsNewer (versions_left cells from to last)
  left_pairs last apart = falls_at (versions_left cells from to last) (left_falls last apart)

  pub none_left : (last : Option (ℕ × ℕ)) → ((x : Cell) → Contains cells x → left last x ≡ true → ⊥)
      → versions_left cells from to last ≡ []
  none_left last none = nothing (versions_left cells from to last)
      (λ x m. let h = left_from last x m in none x h.0 h.1)
    where
      nothing : (list : List Cell) → ((x : Cell) → Contains list x → ⊥) → list ≡ []
      nothing [] empty = refl
      nothing (x ∷ list) empty = absurd (empty x (Contains-first x list))

  after_newer : (last : Option (ℕ × ℕ)) (newest x : Cell) → is_after last newest.stamp newest.node ≡ true
      → IsNewer newest x → is_after last x.stamp x.node ≡ true
  after_newer None newest x h newer = refl
  after_newer (Some last) newest x h newer =
      let end : Cell = record { stamp = last.0; node = last.1; value = None } in
      is_newer end x (newer_trans end newest x (before_is newest.stamp newest.node last.0 last.1 h) newer)

  -- the newest of them is the first, and the others are those before it
  pub next_left : (last : Option (ℕ × ℕ)) (newest : Cell) → AreApart cells → Contains cells newest
      → left last newest ≡ true → ((x : Cell) → Contains cells x → left last x ≡ true → IsNoNewer x newest)
      → versions_left cells from to last ≡ newest ∷ versions_left cells from to (Some (newest.stamp, newest.node))
  next_left last newest apart here wanted top =
      let next : Option (ℕ × ℕ) = Some (newest.stamp, newest.node) in
      let rest : List Cell = versions_left cells from to next in
      let newer : (x : Cell) → Contains rest x → IsNewer newest x =
      λ x m. before_is x.stamp x.node newest.stamp newest.node
      (and_parts (ltb from x.stamp && leb x.stamp to) (is_after next x.stamp x.node) (left_from next x m).1).1 in
      let into : (x : Cell) → Contains cells x → left last x ≡ true → IsNewer newest x → Contains (newest ∷ rest) x =
      λ x m is less. Contains-rest newest x rest (left_in next x m (ap₂ (λ a b. a && b)
      (and_parts (ltb from x.stamp && leb x.stamp to) (is_after last x.stamp x.node) is).0 (is_newer newest x less))) in
      same_members IsNewer one_way (versions_left cells from to last) (newest ∷ rest) (left_pairs last apart)
      (falls_at (newest ∷ rest) (newer, left_falls next apart))
      (λ x. (
        λ m.
            let h = left_from last x m in
            elim (top x h.0 h.1) [
              | inl l ↦ into x h.0 h.1 (inl l)
              | inr (e, le) ↦ elim (cases_lt x.node newest.node) [
                | inl l ↦ into x h.0 h.1 (inr (e, l))
                | inr g ↦ subst (Contains (newest ∷ rest))
                    (sym (same_cell cells apart x newest h.0 here e (omega (arith, le, g))))
                    (Contains-first newest rest)
              ]
            ],
        λ m. elim (Contains-cons_cases newest x rest m) [
          | inl same ↦ subst (Contains (versions_left cells from to last)) same (left_in last newest here wanted)
          | inr there ↦
              let h = left_from next x there in
              left_in last x h.0 (ap₂ (λ a b. a && b)
              (and_parts (ltb from x.stamp && leb x.stamp to) (is_after next x.stamp x.node) h.1).0
              (after_newer last newest x
              (and_parts (ltb from newest.stamp && leb newest.stamp to) (is_after last newest.stamp newest.node)
              wanted).1
              (newer x there)))
        ],
      ))
