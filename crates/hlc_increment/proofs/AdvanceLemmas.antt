-- An older checkpoint with the rows of an increment represents the past of the newer store, but that vacuums since the
-- older one dropped nothing.
use Rattle.std.proofs.Common.{◌≡◌, ℕ, ◌+◌, ◌<◌, ◌≤◌, ◌⊎◌, List, [], ◌∷◌, ◌++◌, length, Contains, true, refl, ap, sym}
use Rattle.std.proofs.Common.{◌∙◌, subst, inl, inr, arith, leb, ltb, filter, IsPermutation, All, not, cond, ◌&&◌, Bool}
use Rattle.std.proofs.Common.{false, ◌==◌, leb-true, le-leb, ltb-true, lt-ltb, length-append, append_assoc}
use Rattle.std.proofs.lemmas.Bool.{cases_lt, lt-leb}
use Rattle.std.proofs.lemmas.List.Elements.{Contains-append_left, Contains-append_right, Contains-append_cases}
use Rattle.std.proofs.lemmas.List.Elements.{filter-append, filter_passes, All-contains, All-weaker}
use Rattle.std.proofs.lemmas.List.Sorted.{All-permutation, Contains-permutation, IsPermutation-sym, length_permutation}
use Rattle.hlc_values.proofs.MemberLemmas.{Contains-first, Contains-rest, Contains-cons_cases, Contains-filter}
use Rattle.hlc_values.proofs.MemberLemmas.{Contains-from_filter}
use Rattle.hlc_rows.specs.declared.{row.Row.Row, write.Write.Write as AWrite}
use Rattle.hlc_rows.specs.{Writes.rows_written, Rows.answer, Rows.IsRowSet, Rows.IsSameVersion}
use Rattle.hlc_node.specs.declared.item.{Item.Item, Body.Body}
use Rattle.hlc_node.specs.declared.item.Body.TheVariants.{Write, Batch, Report, Retire}
use Rattle.hlc_snapshot.specs.{declared.snapshot.Snapshot.Snapshot, RegistryView.stamps, RegistryView.without}
use Rattle.hlc_table_column.specs.Rows.{rows_to}
use Rattle.hlc_table_column.proofs.FlagLemmas.{filter-IsRowSet}
use Rattle.hlc_vacuum_draft.proofs.PartLemmas.{same_rows, answer-rows_to, alike_from}
use Rattle.hlc_vacuum.specs.Representing.{RowsRepresent, count_above, count_between}
use Rattle.hlc_vacuum.proofs.CountLemmas.{split_count, same_above}
use Rattle.hlc_vacuum.proofs.RepresentingLemmas.{rows_above_are_counted}
use Rattle.hlc_witness.specs.Certificate.{RowsAscend}
use Rattle.hlc_witness.proofs.CertificateLemmas.{ascending_rows_are_a_row_set}
use Rattle.hlc_checkpoint.specs.Sorted.{rows_above}
use Rattle.hlc_checkpoint.proofs.CheckpointLemmas.{row_set-moved, sound-has_no_reason}
use Rattle.hlc_core.specs.Past.{Step, Began, Took, Opened, Closed, Joined, floor, horizon, vacuumed, initial_nodes}
use Rattle.hlc_core.specs.Past.{part_dropped, last_id, open_snapshots, writes, item_rows, body_rows, IsLegal}
use Rattle.hlc_core.specs.StoreView.{StoreView, with_rows, Represents}
use Rattle.hlc_core.specs.Checkpoint.{IsCheckpoint, floor_in}
use Rattle.hlc_core.proofs.BeganLemmas.{began-positive}
use Rattle.hlc_core.proofs.PastLemmas.{above_floor, body_rows-are, open-above, positive, vacuumed-low}
use Rattle.hlc_core.proofs.StayLemmas.{answers-stay, floor-never_falls, nothing-before}
use Rattle.hlc_core.proofs.CheckpointLemmas.{copy-represents, floor-in}
use Rattle.hlc_increment.specs.declared.advancing.AdvanceFault.{AdvanceFault}
use Rattle.hlc_increment.specs.Increment.{IncrementView, IsIncrementOf, IsAdvanced, IsReason, MayBeLater, without_drops}
use Rattle.hlc_increment.proofs.LaterLemmas.{horizon-grows, later-goes_on}
use Rattle.hlc_increment.proofs.AgreeLemmas.{Agree, drops-agree, drops-legal, drops-part_nothing, drops-vacuumed}
use Rattle.hlc_increment.proofs.AgreeLemmas.{drops-last_changes, drops-append}
use Rattle.hlc_increment.specs.declared.advancing.AdvanceFault.TheVariants as faults

-- accepted writes are kept
writes-kept : (past more : List Step) (row : Row) → Contains (writes past) row → Contains (writes (more ++ past)) row
writes-kept past [] row m = m
writes-kept past (Took item ∷ more) row m =
    Contains-append_left (writes (more ++ past)) (item_rows item) row (writes-kept past more row m)
writes-kept past (Began kept ∷ more) row m =
    Contains-append_left (writes (more ++ past)) kept.rows row (writes-kept past more row m)
writes-kept past (step ∷ more) row m = writes-kept past more row m

-- an item that is accepted later is above the floor
later-above : (past more : List Step) (item : Item) → IsLegal (Took item ∷ (more ++ past))
    → floor past < item.stamp
later-above past more item legal =
    let up : floor (more ++ past) < item.stamp = above_floor (more ++ past) item legal.0 in
    let rose : floor past ≤ floor (more ++ past) = floor-never_falls past more legal.1 in omega arith

-- and a write at or below it was accepted before
writes-before : (past more : List Step) (row : Row) → IsLegal (more ++ past)
    → Contains (writes (more ++ past)) row → row.stamp ≤ floor past → Contains (writes past) row
writes-before past [] row legal m low = m
writes-before past (Took item ∷ more) row legal m low =
    elim (Contains-append_cases (writes (more ++ past)) (item_rows item) row m) [
      | inl before ↦ writes-before past more row legal.1 before low
      | inr new ↦ absurd (let at : row.stamp ≡ item.stamp =
          (body_rows-are item.node item.stamp item.body row new).1 in
          let up = later-above past more item legal in omega (arith, at, up))
    ]
writes-before past (Began kept ∷ more) row legal m low =
    absurd (let none : floor past ≡ 0 = ap floor (nothing-before more past legal.0) in
    let up : 0 < row.stamp = positive (Began kept ∷ (more ++ past)) legal row m in omega (arith, none, up, low))
writes-before past (Joined node start ∷ more) row legal m low =
    writes-before past more row legal.3 m low
writes-before past (step ∷ more) row legal m low = writes-before past more row legal.1 m low

-- the rows of a batch have its stamp
batch-above : (low high node at : ℕ) (writes : List AWrite) → high < at
    → count_between low high (rows_written node at writes) ≡ 0
batch-above low high node at [] up = refl
batch-above low high node at (write ∷ writes) up =
    let off = lt-leb at high up in let rest = batch-above low high node at writes up in grind (arith, off, rest)

-- the rows between two stamps are those before, if the higher one is not above the floor
none-between : (low high node at : ℕ) (body : Body) → high < at → count_between low high (body_rows node at body) ≡ 0
none-between low high node at (Write key value) up = let off = lt-leb at high up in grind (arith, off)
none-between low high node at (Batch writes) up = batch-above low high node at writes up
none-between low high node at Report up = refl
none-between low high node at Retire up = refl

-- none of the rows of a list that are all above the higher stamp is between
rows-above : (low high : ℕ) (rows : List Row) → ((row : Row) → Contains rows row → high < row.stamp)
    → count_between low high rows ≡ 0
rows-above low high [] up = refl
rows-above low high (row ∷ rows) up =
    let off = lt-leb row.stamp high (up row (Contains-first row rows)) in
    let rest = rows-above low high rows (λ r m. up r (Contains-rest row r rows m)) in grind (arith, off, rest)

between-stays : (past more : List Step) (low high : ℕ) → IsLegal (more ++ past)
    → high ≤ floor past → count_between low high (writes (more ++ past)) ≡ count_between low high (writes past)
between-stays past [] low high legal under = refl
between-stays past (Took item ∷ more) low high legal under =
    let up = later-above past more item legal in
    let old = between-stays past more low high legal.1 under in
    let none = none-between low high item.node item.stamp item.body (omega (arith, up)) in
    let is_in : Row → Bool = λ row. ltb low row.stamp && leb row.stamp high in
    let both = ap length (filter-append is_in (writes (more ++ past)) (item_rows item))
    ∙ length-append (filter is_in (writes (more ++ past))) (filter is_in (item_rows item)) in
    omega (arith, old, none, both)
between-stays past (Began kept ∷ more) low high legal under =
    let none : floor past ≡ 0 = ap floor (nothing-before more past legal.0) in
    let old = between-stays past more low high legal.1 under in
    let new = rows-above low high kept.rows (λ row m.
    let up : 0 < row.stamp = began-positive kept row legal.2 m in omega (arith, none, up, under)) in
    let is_in : Row → Bool = λ row. ltb low row.stamp && leb row.stamp high in
    let both = ap length (filter-append is_in (writes (more ++ past)) kept.rows)
    ∙ length-append (filter is_in (writes (more ++ past))) (filter is_in kept.rows) in
    omega (arith, old, new, both)
between-stays past (Joined node start ∷ more) low high legal under =
    between-stays past more low high legal.3 under
between-stays past (step ∷ more) low high legal under = between-stays past more low high legal.1 under

-- a snapshot below the horizon was open before
stamps-push : (snapshots : List Snapshot) (new : Snapshot) (stamp : ℕ) → Contains (stamps (snapshots ++ new ∷ [])) stamp
    → Contains (stamps snapshots) stamp ⊎ (new.stamp ≡ stamp)
stamps-push [] new stamp m = elim (Contains-cons_cases new.stamp stamp [] m) [
  | inl here ↦ inr here
  | inr none ↦ inl none
]
stamps-push (one ∷ snapshots) new stamp m =
    elim (Contains-cons_cases one.stamp stamp (stamps (snapshots ++ new ∷ [])) m) [
      | inl here ↦ inl (subst (Contains (stamps (one ∷ snapshots))) here (Contains-first one.stamp (stamps snapshots)))
      | inr rest ↦ elim (stamps-push snapshots new stamp rest) [
        | inl old ↦ inl (Contains-rest one.stamp stamp (stamps snapshots) old)
        | inr last ↦ inr last
      ]
    ]

stamps-without : (id : ℕ) (snapshots : List Snapshot) (stamp : ℕ) → Contains (stamps (without id snapshots)) stamp
    → Contains (stamps snapshots) stamp
stamps-without id [] stamp m = m
stamps-without id (one ∷ snapshots) stamp m =
    let rest = stamps-without id snapshots stamp in
    elim (not (one.id == id)) as (λ b. Contains (stamps (cond b (one ∷ without id snapshots) (without id snapshots)))
    stamp → Contains (stamps (one ∷ snapshots)) stamp) [
      | true ↦ λ m. elim (Contains-cons_cases one.stamp stamp (stamps (without id snapshots)) m) [
        | inl here ↦ subst (Contains (stamps (one ∷ snapshots))) here (Contains-first one.stamp (stamps snapshots))
        | inr old ↦ Contains-rest one.stamp stamp (stamps snapshots) (rest old)
      ]
      | false ↦ λ m. Contains-rest one.stamp stamp (stamps snapshots) (rest m)
    ] m

open-before : (past more : List Step) (stamp : ℕ) → IsLegal (more ++ past)
    → Contains (stamps (open_snapshots (more ++ past))) stamp → stamp < horizon past
    → Contains (stamps (open_snapshots past)) stamp
open-before past [] stamp legal m low = m
open-before past (Opened at ∷ more) stamp legal m low =
    elim (stamps-push (open_snapshots (more ++ past)) (record { id = last_id (more ++ past) + 1; stamp = at }) stamp
    m) [
      | inl old ↦ open-before past more stamp legal.1 old low
      | inr new ↦ absurd (let up : horizon (more ++ past) ≤ at = open-above (more ++ past) at legal.0 in
          let grown = horizon-grows past more legal.1 in
          let e : at ≡ stamp = new in omega (arith, grown))
    ]
open-before past (Began kept ∷ more) stamp legal m low =
    absurd (let none : horizon past ≡ 0 = ap horizon (nothing-before more past legal.0) in omega (arith, none, low))
open-before past (Closed id ∷ more) stamp legal m low =
    open-before past more stamp legal.1 (stamps-without id (open_snapshots (more ++ past)) stamp m) low
open-before past (Joined node start ∷ more) stamp legal m low =
    open-before past more stamp legal.3 m low
open-before past (step ∷ more) stamp legal m low = open-before past more stamp legal.1 m low

-- two row sets that have no version in common are one
both-row_set : (rows more : List Row) → IsRowSet rows → IsRowSet more
    → ((row other : Row) → Contains rows row → Contains more other → IsSameVersion row other → ⊥)
    → IsRowSet (rows ++ more)
both-row_set [] more own set' apart = set'
both-row_set (row ∷ rows) more own set' apart = (
  λ other m same. elim (Contains-append_cases rows more other m) [
    | inl old ↦ own.0 other old same
    | inr new ↦ apart row other (Contains-first row rows) new same
  ],
  both-row_set rows more own.1 set' (λ one other m n. apart one other (Contains-rest row one rows m) n),
)

to-low : (since : ℕ) (rows : List Row) (row : Row) → Contains (rows_to since rows) row
    → Contains rows row × (row.stamp ≤ since)
to-low since rows row m = let found = Contains-from_filter (λ (r : Row). leb r.stamp since) rows row m in
    (found.0, leb-true row.stamp since found.1)

pub above-high : (since : ℕ) (rows : List Row) (row : Row) → Contains (rows_above since rows) row
    → Contains rows row × (since < row.stamp)
above-high since rows row m = let found = Contains-from_filter (λ (r : Row). ltb since r.stamp) rows row m in
    (found.0, ltb-true since row.stamp found.1)

pub merged-row_set : (since : ℕ) (lower upper : List Row) → RowsAscend lower → RowsAscend upper
    → All (λ row. since < row.stamp) upper → IsRowSet (rows_to since lower ++ upper)
merged-row_set since lower upper up up' above =
    both-row_set (rows_to since lower) upper
    (filter-IsRowSet (λ (r : Row). leb r.stamp since) lower (ascending_rows_are_a_row_set lower up))
    (ascending_rows_are_a_row_set upper up')
    (λ row other m n same.
    let under = (to-low since lower row m).1 in
    let over : since < other.stamp = All-contains (λ (r : Row). since < r.stamp) upper other above n in
    omega (arith, under, over, same.stamp))

-- the rows of the older checkpoint up to the stamp, with those of the increment
abbrev pub joined : ℕ → List Row → List Row → List Row
joined since older upper = rows_to since older ++ upper

-- the upper rows are the rows of a store above the stamp
pub record AreUpper (since : ℕ) (newer : StoreView) (upper : List Row) : Type 0 where
  pub row_set : IsRowSet upper
  pub within : (row : Row) → Contains upper row → Contains newer.rows row × (since < row.stamp)
  pub each : (row : Row) → Contains newer.rows row → since < row.stamp → Contains upper row
  pub many : length (rows_above since newer.rows) ≡ length upper

upper-moved : (since : ℕ) (newer : StoreView) (upper : List Row) → IsRowSet newer.rows
    → IsPermutation (rows_above since newer.rows) upper → AreUpper since newer upper
upper-moved since newer upper set' moved = record {
  row_set = row_set-moved (rows_above since newer.rows) upper
      (filter-IsRowSet (λ (r : Row). ltb since r.stamp) newer.rows set') moved;
  within = λ row m. above-high since newer.rows row
      (Contains-permutation upper (rows_above since newer.rows) row
      (IsPermutation-sym (rows_above since newer.rows) upper moved) m);
  each = λ row m up. Contains-permutation (rows_above since newer.rows) upper row moved
      (Contains-filter (λ (r : Row). ltb since r.stamp) newer.rows row m (lt-ltb since row.stamp up));
  many = sym (length_permutation (rows_above since newer.rows) upper moved);
}

-- The older checkpoint may itself be what increments made: then the vacuums since a first one dropped none of its rows.
module _ (since : ℕ) (older newer : StoreView) (upper : List Row) (past mid more : List Step)
    (h : Represents older (without_drops mid ++ past)) (g : Represents newer (more ++ (mid ++ past)))
    (low : since ≤ floor (mid ++ past)) (high : newer.horizon ≤ since) (tops : AreUpper since newer upper) where
  same : Agree (without_drops mid ++ past) (mid ++ past)
  same = drops-agree mid past

  hr : RowsRepresent older.rows (writes (mid ++ past)) (horizon (mid ++ past))
      (stamps (open_snapshots (mid ++ past)))
  hr = rw (← same.rows, ← same.horizons, ← same.alike.5) h.rows

  rises : horizon (mid ++ past) ≤ horizon (more ++ (mid ++ past))
  rises = horizon-grows (mid ++ past) more g.legal

  bounded : horizon (more ++ (mid ++ past)) ≤ since
  bounded = subst (λ n. n ≤ since) g.horizon high

  joined-row_set : IsRowSet (joined since older.rows upper)
  joined-row_set = both-row_set (rows_to since older.rows) upper
      (filter-IsRowSet (λ (r : Row). leb r.stamp since) older.rows hr.row_set)
      tops.row_set
      (λ row other m n same.
      let under = (to-low since older.rows row m).1 in
      let over = (tops.within other n).1 in
      omega (arith, under, over, same.stamp))

  joined-within : (row : Row) → Contains (joined since older.rows upper) row
      → Contains (writes (more ++ (mid ++ past))) row
  joined-within row m = elim (Contains-append_cases (rows_to since older.rows) upper row m) [
    | inl old ↦ writes-kept (mid ++ past) more row (hr.within row (to-low since older.rows row old).0)
    | inr new ↦ g.rows.within row (tops.within row new).0
  ]

  joined-above : (row : Row) → Contains (writes (more ++ (mid ++ past))) row
      → horizon (more ++ (mid ++ past)) < row.stamp
      → Contains (joined since older.rows upper) row
  joined-above row m up = elim (cases_lt since row.stamp) [
    | inl over ↦ Contains-append_right (rows_to since older.rows) upper row
        (tops.each row (g.rows.above row m up) over)
    | inr under ↦
        let before : Contains (writes (mid ++ past)) row =
        writes-before (mid ++ past) more row g.legal m (omega (arith, under, low)) in
        Contains-append_left (rows_to since older.rows) upper row
        (Contains-filter (λ (r : Row). leb r.stamp since) older.rows row
        (hr.above row before (let r = rises in omega (arith, r, up))) (le-leb row.stamp since under))
  ]

  -- up to the stamp it answers as the older checkpoint
  joined-low : (key : List ℕ) (stamp : ℕ) → stamp ≤ since
      → answer (joined since older.rows upper) key stamp ≡ answer older.rows key stamp
  joined-low key stamp under =
      sym (answer-rows_to (joined since older.rows upper) since key stamp joined-row_set under)
      ∙ same_rows (rows_to since (joined since older.rows upper)) (rows_to since older.rows)
      (filter-IsRowSet (λ (r : Row). leb r.stamp since) (joined since older.rows upper) joined-row_set)
      (λ row m. let found = to-low since (joined since older.rows upper) row m in
      elim (Contains-append_cases (rows_to since older.rows) upper row found.0) [
        | inl old ↦ old
        | inr new ↦ absurd (let over = (tops.within row new).1 in omega (arith, over, found.1))
      ])
      (λ row m. Contains-filter (λ (r : Row). leb r.stamp since) (joined since older.rows upper) row
      (Contains-append_left (rows_to since older.rows) upper row m)
      (le-leb row.stamp since (to-low since older.rows row m).1))
      key stamp
      ∙ answer-rows_to older.rows since key stamp hr.row_set under

  -- where the older checkpoint answers as its past does, the rows do as the later past
  joined-stays : (key : List ℕ) (stamp : ℕ) → stamp ≤ since
      → answer older.rows key stamp ≡ answer (writes (mid ++ past)) key stamp
      → answer (joined since older.rows upper) key stamp ≡ answer (writes (more ++ (mid ++ past))) key stamp
  joined-stays key stamp under was =
      joined-low key stamp under ∙ was
      ∙ sym (answers-stay (mid ++ past) more g.legal key stamp (omega (arith, under, low)))

  joined-from : (key : List ℕ) (stamp : ℕ) → horizon (more ++ (mid ++ past)) ≤ stamp
      → answer (joined since older.rows upper) key stamp ≡ answer (writes (more ++ (mid ++ past))) key stamp
  joined-from key stamp up = elim (cases_lt since stamp) [
    | inr under ↦ joined-stays key stamp under
        (hr.from_horizon key stamp (let r = rises in omega (arith, r, up)))
    | inl over ↦ alike_from (joined since older.rows upper) (writes (more ++ (mid ++ past))) since joined-row_set
        joined-within
        (λ row m higher. joined-above row m (let b = bounded in omega (arith, b, higher)))
        key stamp (omega (arith, over))
        (joined-stays key since (omega arith)
        (hr.from_horizon key since (let r = rises in let b = bounded in omega (arith, r, b))))
  ]

  joined-open : (key : List ℕ) (stamp : ℕ) → Contains (stamps (open_snapshots (more ++ (mid ++ past)))) stamp
      → answer (joined since older.rows upper) key stamp ≡ answer (writes (more ++ (mid ++ past))) key stamp
  joined-open key stamp m = elim (cases_lt stamp (horizon (more ++ (mid ++ past)))) [
    | inr up ↦ joined-from key stamp up
    | inl under ↦ joined-stays key stamp (let b = bounded in omega (arith, b, under))
        (elim (cases_lt stamp (horizon (mid ++ past))) [
          | inr up ↦ hr.from_horizon key stamp up
          | inl below ↦ hr.at_open key stamp (open-before (mid ++ past) more stamp g.legal m below)
        ])
  ]

  pub joined-represent : RowsRepresent (joined since older.rows upper) (writes (more ++ (mid ++ past)))
      (horizon (more ++ (mid ++ past))) (stamps (open_snapshots (more ++ (mid ++ past))))
  joined-represent = record {
    row_set = joined-row_set;
    all_row_set = g.rows.all_row_set;
    within = joined-within;
    above = joined-above;
    at_open = joined-open;
    from_horizon = joined-from;
  }

  -- as many as there should be
  pub joined-count : length (joined since older.rows upper) + part_dropped (without_drops mid ++ past)
      ≡ length h.stored.0 + count_above (vacuumed (without_drops mid ++ past)) (writes (more ++ (mid ++ past)))
  joined-count =
      let base : List Step = without_drops mid ++ past in
      let was : length older.rows + part_dropped base
      ≡ length h.stored.0 + count_above (vacuumed base) (writes (mid ++ past)) =
      subst (λ (ws : List Row). length older.rows + part_dropped base
      ≡ length h.stored.0 + count_above (vacuumed base) ws) same.rows h.stored.2 in
      let vacuumed_low : vacuumed base ≤ horizon base = vacuumed-low base h.legal in
      let hz = same.horizons in
      let r = rises in let b = bounded in
      let older_above : count_above since older.rows ≡ count_above since (writes (mid ++ past)) =
      same_above since older.rows (writes (mid ++ past)) hr.row_set hr.all_row_set (λ row m up. hr.within row m)
      (λ row m up. hr.above row m (omega (arith, r, b, up))) in
      let newer_above : count_above since newer.rows ≡ count_above since (writes (more ++ (mid ++ past))) =
      same_above since newer.rows (writes (more ++ (mid ++ past))) g.rows.row_set g.rows.all_row_set
      (λ row m up. g.rows.within row m) (λ row m up. g.rows.above row m (omega (arith, b, up))) in
      let many = tops.many in
      let split = split_count since older.rows in
      let parts = rows_above_are_counted (vacuumed base) since (writes (mid ++ past))
      (omega (arith, r, b, vacuumed_low, hz)) in
      let parts' = rows_above_are_counted (vacuumed base) since (writes (more ++ (mid ++ past)))
      (omega (arith, r, b, vacuumed_low, hz)) in
      let stays = between-stays (mid ++ past) more (vacuumed base) since g.legal low in
      let both = length-append (rows_to since older.rows) upper in
      omega (arith, was, older_above, newer_above, many, split, parts, parts', stays, both)

  to-base : without_drops (more ++ mid) ++ past ≡ without_drops more ++ (without_drops mid ++ past)
  to-base = ap (λ (s : List Step). s ++ past) (drops-append more mid)
      ∙ append_assoc (without_drops more) (without_drops mid) past

  to-full : (more ++ mid) ++ past ≡ more ++ (mid ++ past)
  to-full = append_assoc more mid past

  all-agree : Agree (without_drops more ++ (without_drops mid ++ past)) (more ++ (mid ++ past))
  all-agree = subst (λ (p : List Step). Agree p (more ++ (mid ++ past))) to-base
      (subst (λ (p : List Step). Agree (without_drops (more ++ mid) ++ past) p) to-full
      (drops-agree (more ++ mid) past))

  -- so a state with these rows, and else the newer one, represents the past in which vacuums dropped nothing
  pub joined-represents : Represents (with_rows newer (joined since older.rows upper))
      (without_drops more ++ (without_drops mid ++ past))
  joined-represents =
      let base : List Step = without_drops mid ++ past in
      let are = all-agree in
      record {
        legal = subst IsLegal to-base (drops-legal (more ++ mid) past (subst IsLegal (sym to-full) g.legal));
        initial_nodes = g.initial_nodes ∙ sym are.alike.0;
        links = record {
          many = g.links.many ∙ sym are.alike.1;
          each = λ n lt. let link = are.alike.2 n in g.links.each n lt ∙ rw (link.0, link.1, link.2) refl;
        };
        top = g.top ∙ sym are.alike.3;
        snapshots = g.snapshots ∙ sym are.alike.5;
        last_id = g.last_id ∙ sym are.alike.4;
        rows = rw (are.rows, are.horizons, are.alike.5) joined-represent;
        stored = (
          h.stored.0,
          drops-last_changes more base h.stored.0 h.stored.1,
          let counted = joined-count in
              rw (are.rows, drops-part_nothing more base, drops-vacuumed more base) counted,
        );
        horizon = g.horizon ∙ sym are.horizons;
      }

-- and so does what the older checkpoint becomes by the increment, one increment after another
pub chained-represents : (older newer made : StoreView) (increment : IncrementView) (past mid more : List Step)
    → Represents older (without_drops mid ++ past) → Represents newer (more ++ (mid ++ past))
    → IsIncrementOf newer increment → increment.since ≤ floor (mid ++ past) → IsAdvanced older increment made
    → Represents made (without_drops more ++ (without_drops mid ++ past))
chained-represents older newer made increment past mid more h g of low is =
    let whole : StoreView =
    with_rows newer (joined increment.since older.rows increment.state.rows) in
    let first : Represents whole (without_drops more ++ (without_drops mid ++ past)) =
    joined-represents increment.since older newer increment.state.rows past mid more h g low of.horizon
    (upper-moved increment.since newer increment.state.rows g.rows.row_set of.copy.rows.same) in
    copy-represents whole made (without_drops more ++ (without_drops mid ++ past)) first (record {
      same = is.same ∙ ap (λ (state : StoreView). with_rows state made.rows) of.copy.same;
      rows = is.rows;
    })

pub advanced-represents : (older newer made : StoreView) (increment : IncrementView) (past more : List Step)
    → Represents older past → Represents newer (more ++ past)
    → IsIncrementOf newer increment → increment.since ≤ floor past → IsAdvanced older increment made
    → Represents made (without_drops more ++ past)
advanced-represents older newer made increment past more h g of low is =
    chained-represents older newer made increment past [] more h g of low is

-- the increment of a later state fits an older checkpoint, unless its stamp is above that one's floor
pub fits-unless_above : (older newer : StoreView) (increment : IncrementView) (past more : List Step)
    → Represents older past → IsCheckpoint older → Represents newer (more ++ past)
    → IsIncrementOf newer increment → IsCheckpoint increment.state → (fault : AdvanceFault)
    → IsReason older increment fault → floor past < increment.since
fits-unless_above older newer increment past more h is g of is' (faults.Parts fault) (inl none) =
    absurd (sound-has_no_reason older fault is none)
fits-unless_above older newer increment past more h is g of is' (faults.Parts fault) (inr (sound, none)) =
    absurd (sound-has_no_reason increment.state fault is' none)
fits-unless_above older newer increment past more h is g of is' faults.NotLater reason =
    let some : 0 < initial_nodes past = rw (← h.initial_nodes) is.store.sound.nodes.some in
    absurd (reason.2 (subst (MayBeLater older) (sym of.copy.same)
    (later-goes_on older newer increment.state.rows past more h g some)))
fits-unless_above older newer increment past more h is g of is' (faults.AboveFloor f) reason =
    let same : floor_in older ≡ floor past = floor-in older past h in
    omega (arith, same, reason.1, reason.2)
fits-unless_above older newer increment past more h is g of is' (faults.BelowHorizon f) reason =
    absurd (let at : increment.state.horizon ≡ newer.horizon =
    ap (λ (view : StoreView). view.horizon) of.copy.same in
    let high = of.horizon in omega (arith, at, high, reason.2, reason.3))
fits-unless_above older newer increment past more h is g of is' faults.RowUpToStamp reason =
    absurd (reason.3 (All-permutation (λ (row : Row). increment.since < row.stamp)
    (rows_above increment.since newer.rows) increment.state.rows of.copy.rows.same
    (All-weaker (λ (row : Row). ltb increment.since row.stamp ≡ true) (λ (row : Row). increment.since < row.stamp)
    (λ row t. ltb-true increment.since row.stamp t) (rows_above increment.since newer.rows)
    (filter_passes (λ (row : Row). ltb increment.since row.stamp) newer.rows))))
