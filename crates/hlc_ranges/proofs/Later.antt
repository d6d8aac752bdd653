-- The floor of each store never falls, and what it accepts later lies above, so a cut stays one and its reads stay.
use Rattle.std.proofs.Common.{◌≡◌, ℕ, ◌<◌, ◌≤◌, List, [], ◌∷◌, ◌++◌, sym, subst, inl, inr, arith}
use Rattle.std.{specs.Prelude.Contains, proofs.lemmas.Bool.cases_eq}
use Rattle.hlc_values.proofs.MemberLemmas.{Contains-none}
use Rattle.hlc_rows.specs.{declared.row.Row.Row, Rows.answer}
use Rattle.hlc_core.specs.Past.{Step, Took, floor, writes, IsLegal as IsLegalPast}
use Rattle.hlc_core.proofs.StayLemmas.{floor-never_falls}
use Rattle.hlc_core.proofs.PastLemmas.{above_floor, body_rows-are, writes-row_set}
use Rattle.hlc_ranges.specs.{Run.Layout, Run.Turn, Run.Stepped, Run.past_of, Run.step_rows, Run.IsLegal, Cut.IsCut}
use Rattle.hlc_ranges.proofs.Turns.{past-same, past-other, past-legal, stepped-none}
use Rattle.hlc_ranges.proofs.{Pasts.step-writes, Pasts.step-keeps, NewestWrites.answer-in_part}

-- the legal step of a store
pub step-legal : (layout : Layout) (t s : ℕ) (step : Step) (run : List Turn) → t ≡ s
    → IsLegalPast (step ∷ past_of layout t run) → IsLegalPast (step ∷ past_of layout s run)
step-legal layout t s step run same legal = subst (λ k. IsLegalPast (step ∷ past_of layout k run)) same legal

-- the floor never falls
pub floor-later : (layout : Layout) (run later : List Turn) (s : ℕ) → IsLegal layout (later ++ run)
    → floor (past_of layout s run) ≤ floor (past_of layout s (later ++ run))
floor-later layout run [] s legal = omega arith
floor-later layout run (Stepped t step ∷ later) s legal =
    let old : floor (past_of layout s run) ≤ floor (past_of layout s (later ++ run)) =
    floor-later layout run later s legal.1 in
    elim (cases_eq t s) [
      | inr other ↦ subst (λ p. floor (past_of layout s run) ≤ floor p)
          (sym (past-other layout s t step (later ++ run) other)) old
      | inl same ↦
          let up : floor (past_of layout s (later ++ run))
          ≤ floor (step ∷ past_of layout s (later ++ run)) =
          floor-never_falls (past_of layout s (later ++ run)) (step ∷ [])
          (step-legal layout t s step (later ++ run) same legal.0.1) in
          subst (λ p. floor (past_of layout s run) ≤ floor p)
          (sym (past-same layout s t step (later ++ run) same)) (omega arith)
    ]
floor-later layout run (turn ∷ later) s legal = floor-later layout run later s legal.1

pub cut-stays : (layout : Layout) (run later : List Turn) (stamp : ℕ) → IsLegal layout (later ++ run)
    → IsCut layout run stamp → IsCut layout (later ++ run) stamp
cut-stays layout run later stamp legal cut = λ s within.
    let low : stamp ≤ floor (past_of layout s run) = cut s within in
    let up : floor (past_of layout s run) ≤ floor (past_of layout s (later ++ run)) =
    floor-later layout run later s legal in omega arith

-- a row that a step adds lies above the floor
row-above : (step : Step) (past : List Step) (row : Row) → IsLegalPast (step ∷ past)
    → Contains (step_rows step) row → floor past < row.stamp
row-above (Took item) past row legal m =
    let e : row.stamp ≡ item.stamp = (body_rows-are item.node item.stamp item.body row m).1 in
    let up : floor past < item.stamp = above_floor past item legal.0 in omega arith
row-above step past row legal m = absurd (Contains-none row m)

-- a write at or below the floor is an old one
old-rows : (layout : Layout) (run later : List Turn) (s : ℕ) (row : Row) → IsLegal layout (later ++ run)
    → Contains (writes (past_of layout s (later ++ run))) row → row.stamp ≤ floor (past_of layout s run)
    → Contains (writes (past_of layout s run)) row
old-rows layout run [] s row legal m low = m
old-rows layout run (Stepped t step ∷ later) s row legal m low =
    elim (cases_eq t s) [
      | inr other ↦ old-rows layout run later s row legal.1
          (subst (λ p. Contains (writes p) row) (past-other layout s t step (later ++ run) other) m) low
      | inl same ↦
          elim (step-writes step (past_of layout s (later ++ run)) row (stepped-none layout t step (later ++ run) legal)
          (subst (λ p. Contains (writes p) row) (past-same layout s t step (later ++ run) same) m)) [
            | inl old ↦ old-rows layout run later s row legal.1 old low
            | inr fresh ↦ absurd
                (let up : floor (past_of layout s (later ++ run)) < row.stamp =
                row-above step (past_of layout s (later ++ run)) row
                (step-legal layout t s step (later ++ run) same legal.0.1) fresh in
                let grown : floor (past_of layout s run)
                ≤ floor (past_of layout s (later ++ run)) =
                floor-later layout run later s legal.1 in omega arith)
          ]
    ]
old-rows layout run (turn ∷ later) s row legal m low = old-rows layout run later s row legal.1 m low

-- and an old write stays
kept-rows : (layout : Layout) (run later : List Turn) (s : ℕ) (row : Row) → Contains (writes (past_of layout s run)) row
    → Contains (writes (past_of layout s (later ++ run))) row
kept-rows layout run [] s row m = m
kept-rows layout run (Stepped t step ∷ later) s row m =
    elim (cases_eq t s) [
      | inr other ↦ subst (λ p. Contains (writes p) row) (sym (past-other layout s t step (later ++ run) other))
          (kept-rows layout run later s row m)
      | inl same ↦ subst (λ p. Contains (writes p) row) (sym (past-same layout s t step (later ++ run) same))
          (step-keeps step (past_of layout s (later ++ run)) row (kept-rows layout run later s row m))
    ]
kept-rows layout run (turn ∷ later) s row m = kept-rows layout run later s row m

pub legal-before : (layout : Layout) (run later : List Turn) → IsLegal layout (later ++ run) → IsLegal layout run
legal-before layout run [] legal = legal
legal-before layout run (turn ∷ later) legal = legal-before layout run later legal.1

pub reads-below : (layout : Layout) (run later : List Turn) (stamp s : ℕ) (key : List ℕ) → IsLegal layout (later ++ run)
    → stamp ≤ floor (past_of layout s run)
    → answer (writes (past_of layout s (later ++ run))) key stamp ≡ answer (writes (past_of layout s run)) key stamp
reads-below layout run later stamp s key legal low =
    sym (answer-in_part (writes (past_of layout s run)) (writes (past_of layout s (later ++ run))) key stamp
    (writes-row_set (past_of layout s run) (past-legal layout run s (legal-before layout run later legal)))
    (λ row m of_key. kept-rows layout run later s row m)
    (λ row m of_key below.
    (let low' : stamp ≤ floor (past_of layout s run) = low in
    let b : row.stamp ≤ stamp = below in old-rows layout run later s row legal m (omega arith))))

pub reads-stay : (layout : Layout) (run later : List Turn) (stamp s : ℕ) (key : List ℕ) → IsLegal layout (later ++ run)
    → IsCut layout run stamp → s < layout.stores
    → answer (writes (past_of layout s (later ++ run))) key stamp ≡ answer (writes (past_of layout s run)) key stamp
reads-stay layout run later stamp s key legal cut within =
    reads-below layout run later stamp s key legal (cut s within)
