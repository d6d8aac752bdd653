-- What a run began with stays: the numbers of the items of each link go on from it, and its rows are accepted writes.
use Rattle.std.proofs.Common.{◌≡◌, ◌⊎◌, ℕ, zero, suc, ◌+◌, ◌<◌, List, [], ◌∷◌, length, refl, ap, sym, ◌∙◌, subst, inl}
use Rattle.std.proofs.Common.{inr, arith}
use Rattle.std.{specs.Prelude.Contains, proofs.lemmas.Bool.cases_eq, proofs.lemmas.Bool.cases_lt}
use Rattle.std.proofs.lemmas.List.Elements.{Contains-append_left, Contains-append_right, Contains-append_cases}
use Rattle.hlc_values.proofs.MemberLemmas.{Contains-none, Contains-cons_cases}
use Rattle.hlc_rows.specs.declared.row.Row.{Row}
use Rattle.hlc_core.specs.Past.{Step, Started, Took, count, head, retired, writes, IsLegal as IsLegalPast}
use Rattle.hlc_core.specs.Replicas.{items_of}
use Rattle.hlc_ranges.specs.Run.{Layout, Turn, Stepped, past_of, ends_with, CanBegin, IsLegal, begun_writes}
use Rattle.hlc_ranges.proofs.Pasts.{IsOfItem, of-more, of-step, step-writes, step-keeps, items-untaken, count-step}
use Rattle.hlc_ranges.proofs.Pasts.{retired-step}
use Rattle.hlc_ranges.proofs.Turns.{past-same, past-other, stepped-none}

-- a run may begin with new stores
pub new-begin : (layout : Layout) → ((s : ℕ) → (nodes : ℕ) × (layout.begun s ≡ Started nodes ∷ [])) → CanBegin layout
new-begin layout new = record {
  legal = λ s. subst IsLegalPast (sym (new s).1) (refl, tt);
  some = λ s none. absurd (let e : Started (new s).0 ∷ [] ≡ [] = sym (new s).1 ∙ none in cc);
  untaken = λ s item m.
      elim (Contains-cons_cases (Started (new s).0) (Took item) []
      (subst (λ (p : List Step). Contains p (Took item)) (new s).1 m)) [
        | inl same ↦ absurd (cc)
        | inr rest ↦ absurd (Contains-none (Took item) rest)
      ];
  reached = λ s n. (let e : head n (layout.begun s) ≡ 0 = ap (head n) (new s).1 in omega arith);
  routed = λ s row m. absurd (Contains-none row (subst (λ (p : List Step). Contains (writes p) row) (new s).1 m));
  none = λ s out. new s;
}

-- a run begins with no item of its own
pub untaken : (layout : Layout) (s n : ℕ) → CanBegin layout → items_of n (layout.begun s) ≡ []
untaken layout s n can = items-untaken (layout.begun s) n (can.untaken s)

-- the items that a store accepted have the numbers after those before the run
pub count-since : (layout : Layout) (run : List Turn) (s n : ℕ) → IsLegal layout run
    → count n (past_of layout s run) ≡ count n (layout.begun s) + length (items_of n (past_of layout s run))
count-since layout [] s n legal =
    let none : length (items_of n (layout.begun s)) ≡ 0 = ap length (untaken layout s n legal) in
    let goal : count n (layout.begun s) ≡ count n (layout.begun s) + length (items_of n (layout.begun s)) =
    omega arith in goal
count-since layout (Stepped t step ∷ run) s n legal =
    elim (cases_eq t s) [
      | inl same ↦
          subst (λ (p : List Step). count n p ≡ count n (layout.begun s) + length (items_of n p))
          (sym (past-same layout s t step run same))
          (count-step step (past_of layout s run) n (count n (layout.begun s)) (stepped-none layout t step run legal)
          (count-since layout run s n legal.1))
      | inr other ↦
          subst (λ (p : List Step). count n p ≡ count n (layout.begun s) + length (items_of n p))
          (sym (past-other layout s t step run other)) (count-since layout run s n legal.1)
    ]
count-since layout (turn ∷ run) s n legal = count-since layout run s n legal.1

-- a node has retired in its store as the last of them says
pub retired-since : (layout : Layout) (run : List Turn) (s n : ℕ) → IsLegal layout run
    → retired n (past_of layout s run)
    ≡ ends_with (retired n (layout.begun s)) (items_of n (past_of layout s run))
retired-since layout [] s n legal =
    sym (ap (ends_with (retired n (layout.begun s))) (untaken layout s n legal))
retired-since layout (Stepped t step ∷ run) s n legal =
    elim (cases_eq t s) [
      | inl same ↦
          subst (λ (p : List Step). retired n p ≡ ends_with (retired n (layout.begun s)) (items_of n p))
          (sym (past-same layout s t step run same))
          (retired-step step (past_of layout s run) n (retired n (layout.begun s))
          (stepped-none layout t step run legal) (retired-since layout run s n legal.1))
      | inr other ↦
          subst (λ (p : List Step). retired n p ≡ ends_with (retired n (layout.begun s)) (items_of n p))
          (sym (past-other layout s t step run other)) (retired-since layout run s n legal.1)
    ]
retired-since layout (turn ∷ run) s n legal = retired-since layout run s n legal.1

-- an accepted write is one that the store began with, or that of an item
pub rows-since : (layout : Layout) (run : List Turn) (s : ℕ) (row : Row) → IsLegal layout run
    → Contains (writes (past_of layout s run)) row
    → Contains (writes (layout.begun s)) row ⊎ IsOfItem (past_of layout s run) row
rows-since layout [] s row legal m = inl m
rows-since layout (Stepped t step ∷ run) s row legal m =
    elim (cases_eq t s) [
      | inl same ↦
          subst (λ (p : List Step). Contains (writes (layout.begun s)) row ⊎ IsOfItem p row)
          (sym (past-same layout s t step run same))
          (elim (step-writes step (past_of layout s run) row (stepped-none layout t step run legal)
          (subst (λ (p : List Step). Contains (writes p) row) (past-same layout s t step run same) m)) [
            | inl old ↦
                elim (rows-since layout run s row legal.1 old) [
                  | inl began ↦ inl began
                  | inr of ↦ inr (of-more (past_of layout s run) step row of)
                ]
            | inr fresh ↦ inr (of-step (past_of layout s run) step row fresh)
          ])
      | inr other ↦
          subst (λ (p : List Step). Contains (writes (layout.begun s)) row ⊎ IsOfItem p row)
          (sym (past-other layout s t step run other))
          (rows-since layout run s row legal.1
          (subst (λ (p : List Step). Contains (writes p) row) (past-other layout s t step run other) m))
    ]
rows-since layout (turn ∷ run) s row legal m = rows-since layout run s row legal.1 m

-- and what a store began with it keeps
pub begun-stay : (layout : Layout) (run : List Turn) (s : ℕ) (row : Row) → Contains (writes (layout.begun s)) row
    → Contains (writes (past_of layout s run)) row
begun-stay layout [] s row m = m
begun-stay layout (Stepped t step ∷ run) s row m =
    elim (cases_eq t s) [
      | inl same ↦ subst (λ (p : List Step). Contains (writes p) row) (sym (past-same layout s t step run same))
          (step-keeps step (past_of layout s run) row (begun-stay layout run s row m))
      | inr other ↦ subst (λ (p : List Step). Contains (writes p) row) (sym (past-other layout s t step run other))
          (begun-stay layout run s row m)
    ]
begun-stay layout (turn ∷ run) s row m = begun-stay layout run s row m

-- a row that one of the stores began with
pub record IsBegun (layout : Layout) (many : ℕ) (row : Row) : Type 0 where
  pub store : ℕ
  pub inside : store < many
  pub row_of : Contains (writes (layout.begun store)) row

pub begun-from : (layout : Layout) (many : ℕ) (row : Row) → Contains (begun_writes layout many) row
    → IsBegun layout many row
begun-from layout zero row m = absurd (Contains-none row m)
begun-from layout (suc many) row m =
    elim (Contains-append_cases (begun_writes layout many) (writes (layout.begun many)) row m) [
      | inl before ↦
          let h = begun-from layout many row before in
          let low : h.store < many = h.inside in
          record { store = h.store; inside = omega arith; row_of = h.row_of }
      | inr here ↦ record { store = many; inside = omega arith; row_of = here }
    ]

pub begun-to : (layout : Layout) (many s : ℕ) (row : Row) → s < many → Contains (writes (layout.begun s)) row
    → Contains (begun_writes layout many) row
begun-to layout zero s row low m = absurd (omega arith)
begun-to layout (suc many) s row low m =
    elim (cases_eq s many) [
      | inl same ↦ Contains-append_right (begun_writes layout many) (writes (layout.begun many)) row
          (subst (λ k. Contains (writes (layout.begun k)) row) same m)
      | inr other ↦ Contains-append_left (begun_writes layout many) (writes (layout.begun many)) row
          (begun-to layout many s row (omega (arith, low, other)) m)
    ]

-- only the stores that there are began with rows
pub begun-inside : (layout : Layout) (s : ℕ) (row : Row) → CanBegin layout → Contains (writes (layout.begun s)) row
    → Contains (begun_writes layout layout.stores) row
begun-inside layout s row can m =
    elim (cases_lt s layout.stores) [
      | inl within ↦ begun-to layout layout.stores s row within m
      | inr out ↦
          let none = can.none s out in
          absurd (Contains-none row (subst (λ (p : List Step). Contains (writes p) row) none.1 m))
    ]
