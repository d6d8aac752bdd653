-- What is accepted after a past lies above its floor, so no answer at or below that changes. An id is never used again,
-- so an open snapshot keeps its stamp, which is not above the floor, and with it its answers.
use Rattle.std.proofs.Common.{◌≡◌, ℕ, ◌+◌, ◌<◌, ◌≤◌, List, [], ◌∷◌, ◌++◌, Some, None, refl, ap, sym, ◌∙◌, inl, inr}
use Rattle.std.proofs.Common.{arith, append-nil, subst, nat_le, Contains, All}
use Rattle.std.proofs.lemmas.List.Elements.{All-head, All-tail, filter-append}
use Rattle.hlc_snapshot.specs.declared.snapshot.Snapshot.{Snapshot}
use Rattle.hlc_snapshot.specs.RegistryView.{stamp_in, RegistryView, Follows, at_once, opening, closing}
use Rattle.std.proofs.lemmas.Bool.{cond-false, lt-leb, cases_eq}
use Rattle.hlc_values.proofs.MemberLemmas.{Contains-first, Contains-rest}
use Rattle.hlc_rows.specs.{declared.row.Row.Row, Rows.answer, Rows.IsRowSet}
use Rattle.hlc_node.specs.declared.item.Body.{Body}
use Rattle.hlc_snapshot.proofs.RegisterLemmas.{open_before, stamp_in-push_cases, stamp_in-all, stamp_in-miss}
use Rattle.hlc_snapshot.proofs.RegisterLemmas.{stamp_in-without_itself, stamp_in-without_other}
use Rattle.hlc_vacuum_draft.specs.Vacuumed.{rows_to}
use Rattle.hlc_vacuum_draft.proofs.PartLemmas.{answer-rows_to}
use Rattle.hlc_core.specs.Past.{Step, Started, Began, Took, Opened, Closed, Joined, floor, last_id, open_snapshots}
use Rattle.hlc_core.specs.Past.{stamp_of, writes, body_rows, IsLegal}
use Rattle.hlc_core.proofs.BeganLemmas.{began-positive}
use Rattle.hlc_core.proofs.PastLemmas.{older, writes-row_set, above_floor, floor-grows, floor-joins, open-low}
use Rattle.hlc_core.proofs.PastLemmas.{body_rows-are}

-- what took place before a legal past's last steps is legal
pub legal-before : (past more : List Step) → IsLegal (more ++ past) → IsLegal past
legal-before past [] legal = legal
legal-before past (step ∷ more) legal = legal-before past more (older step (more ++ past) legal)

-- if all is nothing, so is what came first
pub nothing-before : (more past : List Step) → more ++ past ≡ [] → past ≡ []
nothing-before [] past none = none
nothing-before (step ∷ more) past none = absurd (cc)

-- however much takes place later, the floor never falls
pub floor-never_falls : (past more : List Step) → IsLegal (more ++ past)
    → floor past ≤ floor (more ++ past)
floor-never_falls past [] legal = omega arith
floor-never_falls past (Took item ∷ more) legal =
    let low : floor past ≤ floor (more ++ past) = floor-never_falls past more legal.1 in
    let up : floor (more ++ past) ≤ floor (Took item ∷ (more ++ past)) =
    floor-grows (more ++ past) item legal.0 in omega arith
floor-never_falls past (Started nodes ∷ more) legal =
    subst (λ p. floor p ≤ floor (Started nodes ∷ (more ++ past))) (sym (nothing-before more past legal.0)) (omega arith)
floor-never_falls past (Began kept ∷ more) legal =
    subst (λ p. floor p ≤ floor (Began kept ∷ (more ++ past))) (sym (nothing-before more past legal.0)) (omega arith)
floor-never_falls past (Joined node start ∷ more) legal =
    let low : floor past ≤ floor (more ++ past) = floor-never_falls past more legal.3 in
    let up : floor (more ++ past) ≤ floor (Joined node start ∷ (more ++ past)) =
    floor-joins (more ++ past) node start legal.1 legal.2 in omega arith
floor-never_falls past (_ ∷ more) legal = floor-never_falls past more legal.1

-- rows above a stamp are not among those at or below it
none-below : (stamp : ℕ) (rows : List Row) → ((row : Row) → Contains rows row → stamp < row.stamp)
    → rows_to stamp rows ≡ []
none-below stamp [] up = refl
none-below stamp (row ∷ rows) up =
    cond-false _ _ _ (lt-leb row.stamp stamp (up row (Contains-first row rows)))
    ∙ none-below stamp rows (λ r m. up r (Contains-rest row r rows m))

-- the rows of an item above a stamp change no answer there
above-misses : (node at : ℕ) (body : Body) (rows : List Row) (key : List ℕ) (stamp : ℕ) → IsRowSet rows
    → IsRowSet (rows ++ body_rows node at body) → stamp < at
    → answer (rows ++ body_rows node at body) key stamp ≡ answer rows key stamp
above-misses node at body rows key stamp set' pushed up =
    let more : List Row = body_rows node at body in
    let above : (row : Row) → Contains more row → stamp < row.stamp =
    λ row m. (let are = body_rows-are node at body row m in omega (arith, are.1)) in
    let out : rows_to stamp (rows ++ more) ≡ rows_to stamp rows =
    filter-append (λ (r : Row). nat_le r.stamp stamp) rows more
    ∙ ap (λ rs. rows_to stamp rows ++ rs) (none-below stamp more above) ∙ append-nil (rows_to stamp rows) in
    let same : stamp ≤ stamp = omega arith in
    sym (answer-rows_to (rows ++ more) stamp key stamp pushed same)
    ∙ ap (λ rs. answer rs key stamp) out ∙ answer-rows_to rows stamp key stamp set' same

-- no answer at or below the floor changes
pub answers-stay : (past more : List Step) → IsLegal (more ++ past) → (key : List ℕ) (stamp : ℕ)
    → stamp ≤ floor past → answer (writes (more ++ past)) key stamp ≡ answer (writes past) key stamp
answers-stay past [] legal key stamp low = refl
answers-stay past (Began kept ∷ more) legal key stamp low =
    let none : past ≡ [] = nothing-before more past legal.0 in
    let at : floor past ≡ 0 = ap floor none in
    let out : rows_to stamp kept.rows ≡ [] = none-below stamp kept.rows
    (λ row m. (let up : 0 < row.stamp = began-positive kept row legal.2 m in omega arith)) in
    let same : stamp ≤ stamp = omega arith in
    let here : answer kept.rows key stamp ≡ answer [] key stamp =
    sym (answer-rows_to kept.rows stamp key stamp legal.2.store.consistent.row_set same)
    ∙ ap (λ rs. answer rs key stamp) out in
    ap (λ (p : List Step). answer (writes p ++ kept.rows) key stamp) legal.0
    ∙ here ∙ sym (ap (λ (p : List Step). answer (writes p) key stamp) none)
answers-stay past (Took item ∷ more) legal key stamp low =
    let up : floor (more ++ past) < item.stamp = above_floor (more ++ past) item legal.0 in
    let rose : floor past ≤ floor (more ++ past) = floor-never_falls past more legal.1 in
    above-misses item.node item.stamp item.body (writes (more ++ past)) key stamp
    (writes-row_set (more ++ past) legal.1) (writes-row_set (Took item ∷ (more ++ past)) legal)
    (omega arith)
    ∙ answers-stay past more legal.1 key stamp low
answers-stay past (step ∷ more) legal key stamp low =
    answers-stay past more (older step (more ++ past) legal) key stamp low

-- the register of a past
abbrev register : List Step → RegistryView
register past = record { snapshots = open_snapshots past; last_id = last_id past }

-- later steps of a past that has begun only open and close snapshots
follows : (past more : List Step) → (past ≡ [] → ⊥) → IsLegal (more ++ past)
    → Follows (register past) (register (more ++ past))
follows past [] some legal = at_once
follows past (Opened stamp ∷ more) some legal = opening stamp (follows past more some legal.1)
follows past (Began kept ∷ more) some legal = absurd (some (nothing-before more past legal.0))
follows past (Closed id ∷ more) some legal = closing id (follows past more some legal.1)
follows past (step ∷ more) some legal = follows past more some (older step (more ++ past) legal)

-- nor has one of a register
id-bounded : (last id stamp : ℕ) (xs : List Snapshot)
    → All (λ (snapshot : Snapshot). (0 < snapshot.id) × (snapshot.id ≤ last)) xs → stamp_in id xs ≡ Some stamp
    → id ≤ last
id-bounded last id stamp [] bounded is = absurd (cc)
id-bounded last id stamp (x ∷ xs) bounded is =
    elim (cases_eq x.id id) [
      | inl same ↦
          let here = All-head (λ (snapshot : Snapshot). (0 < snapshot.id) × (snapshot.id ≤ last)) x xs bounded in
          let low : x.id ≤ last = here.1 in omega (arith, same)
      | inr other ↦
          id-bounded last id stamp xs
          (All-tail (λ (snapshot : Snapshot). (0 < snapshot.id) × (snapshot.id ≤ last)) x xs bounded)
          (sym (stamp_in-miss id x xs other) ∙ is)
    ]

-- no open snapshot has an id above the last id
id-low : (past : List Step) (id stamp : ℕ) → IsLegal past → stamp_of id past ≡ Some stamp → id ≤ last_id past
id-low [] id stamp legal is = absurd (cc)
id-low (Opened at ∷ past) id stamp legal is =
    elim (stamp_in-push_cases id stamp (record { id = last_id past + 1; stamp = at }) (open_snapshots past) is) [
      | inl before ↦ (let low = id-low past id stamp legal.1 before in omega (arith, low))
      | inr last ↦ (let same : last_id past + 1 ≡ id = last.0 in omega (arith, same))
    ]
id-low (Closed other ∷ past) id stamp legal is =
    elim (cases_eq id other) [
      | inl same ↦ absurd (let none : stamp_of id (Closed id ∷ past) ≡ None =
          stamp_in-without_itself id (open_snapshots past) in
          let e : stamp_of id (Closed id ∷ past) ≡ Some stamp =
          ap (λ k. stamp_of id (Closed k ∷ past)) same ∙ is in
          let f : None ≡ Some stamp = sym none ∙ e in cc)
      | inr differs ↦
          id-low past id stamp legal.1 (sym (stamp_in-without_other other id (open_snapshots past) differs) ∙ is)
    ]
id-low (Began kept ∷ past) id stamp legal is =
    id-bounded kept.last_id id stamp kept.snapshots legal.2.store.register.bounded is
id-low (step ∷ past) id stamp legal is = id-low past id stamp (older step past legal) is

-- a snapshot that is open later has the stamp and the answers that it had
pub snapshots-stay : (past more : List Step) (id stamp again : ℕ) → IsLegal (more ++ past)
    → stamp_of id past ≡ Some stamp → stamp_of id (more ++ past) ≡ Some again
    → (again ≡ stamp)
    × ((key : List ℕ) → answer (writes (more ++ past)) key again ≡ answer (writes past) key stamp)
snapshots-stay past more id stamp again legal is later =
    let some : past ≡ [] → ⊥ = λ none. absurd (let e : None ≡ Some stamp =
    sym (ap (λ (p : List Step). stamp_of id p) none) ∙ is in cc) in
    let before : stamp_of id past ≡ Some again =
    open_before id again (follows past more some legal)
    (id-low past id stamp (legal-before past more legal) is) later in
    let e : Some again ≡ Some stamp = sym before ∙ is in
    let same : again ≡ stamp = cc in
    let low : stamp ≤ floor past =
    stamp_in-all (λ at. at ≤ floor past) id stamp (open_snapshots past)
    (open-low past (legal-before past more legal)) is in (
      same,
      λ key. ap (answer (writes (more ++ past)) key) same ∙ answers-stay past more legal key stamp low,
    )
