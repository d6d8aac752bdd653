-- An increment of an earlier state that is taken is of the same state: nothing took place between them but vacuums to
-- the horizon. So what the older checkpoint becomes represents the same past.
use Rattle.std.proofs.Common.{◌≡◌, ℕ, ◌+◌, ◌<◌, ◌≤◌, List, [], ◌∷◌, ◌++◌, length, Contains, true, false, None, refl, ap}
use Rattle.std.proofs.Common.{sym, ◌∙◌, subst, inl, inr, arith, not, ltb, ◌==◌, ◌≢◌, eq-eqb, lt-ltb}
use Rattle.std.proofs.lemmas.{Bool.cond-true, Bool.cases_eq, Option.get_or_from_slice_get, List.Elements.All-contains}
use Rattle.std.proofs.lemmas.List.Sorted.{Contains-permutation, IsPermutation-sym, length_permutation}
use Rattle.hlc_values.proofs.MemberLemmas.{Contains-first, Contains-rest, Contains-filter, Contains-from_filter}
use Rattle.hlc_rows.specs.declared.row.Row.{Row}
use Rattle.hlc_heads.specs.Heads.{link_at, no_link}
use Rattle.hlc_snapshot.specs.{declared.snapshot.Snapshot.Snapshot, RegistryView.stamp_in}
use Rattle.hlc_snapshot.proofs.RegisterLemmas.{stamp_in-miss}
use Rattle.hlc_table_column.proofs.FlagLemmas.{filter-IsRowSet}
use Rattle.hlc_vacuum.proofs.CountLemmas.{same_above}
use Rattle.hlc_checkpoint.specs.Sorted.{rows_above}
use Rattle.hlc_checkpoint.proofs.CheckpointLemmas.{row_set-moved}
use Rattle.hlc_core.specs.Past.{Step, Started, Began, Took, Opened, Closed, Vacuumed, PartVacuumed, Joined}
use Rattle.hlc_core.specs.Past.{initial_nodes, numbered, count, head, retired, last_id, horizon, open_snapshots, floor}
use Rattle.hlc_core.specs.Past.{writes, IsLegal}
use Rattle.hlc_core.specs.StoreView.{StoreView, with_rows, Represents}
use Rattle.hlc_core.proofs.PastLemmas.{inside}
use Rattle.hlc_core.proofs.StayLemmas.{nothing-before}
use Rattle.hlc_replicas.proofs.AlikeLemmas.{AreAlike, alike-itself}
use Rattle.hlc_core.proofs.CheckpointLemmas.{copy-represents, floor-in}
use Rattle.hlc_increment.specs.Increment.{IncrementView, IsIncrementOf, IsAdvanced, AreFitting, IsOpenOrNew}
use Rattle.hlc_increment.specs.Increment.{without_drops}
use Rattle.hlc_increment.proofs.AgreeLemmas.{Agree, drops-agree}
use Rattle.hlc_increment.proofs.LaterLemmas.{horizon-grows, numbered-grows, last_id-grows, link-goes_on, link_of}
use Rattle.hlc_increment.proofs.AdvanceLemmas.{AreUpper, joined, joined-represent, joined-count, above-high}

-- the later past has no more nodes, items, snapshots and closings than the one before it
record IsNoLater (past later : List Step) : Type 0 where
  some : 0 < initial_nodes later
  nodes : numbered later ≤ numbered past
  counts : (n : ℕ) → n < numbered later → count n later ≤ count n past
  last_id : last_id later ≤ last_id past
  snapshots : (snapshot : Snapshot) → Contains (open_snapshots past) snapshot
      → Contains (open_snapshots later) snapshot

found-by_id : (id : ℕ) (xs : List Snapshot) → stamp_in id xs ≢ None
    → (snapshot : Snapshot) × Contains xs snapshot × (snapshot.id ≡ id)
found-by_id id [] is = absurd (is refl)
found-by_id id (x ∷ xs) is = elim (cases_eq x.id id) [
  | inl same ↦ (x, Contains-first x xs, same)
  | inr other ↦
      let found = found-by_id id xs (λ none. is (stamp_in-miss id x xs other ∙ none)) in
      (found.0, Contains-rest x found.0 xs found.1, found.2)
]

-- so nothing took place between them but vacuums
only-vacuums : (past more : List Step) → IsLegal (more ++ past) → IsNoLater past (more ++ past)
    → AreAlike (more ++ past) past × (writes (more ++ past) ≡ writes past)
only-vacuums past [] legal is = (alike-itself past, refl)
only-vacuums past (Took item ∷ more) legal is =
    let now : List Step = more ++ past in
    let here : item.node < numbered now = inside now item legal.0 in
    let before : item.node < numbered past = (let few = is.nodes in omega (arith, here, few)) in
    let next : count item.node (Took item ∷ now) ≡ count item.node now + 1 =
    cond-true _ _ _ (eq-eqb item.node item.node refl) in
    let was = (link-goes_on past more item.node legal.1 before).next in
    let most = is.counts item.node here in
    absurd (omega (arith, next, was, most))
only-vacuums past (Opened stamp ∷ more) legal is =
    absurd (let grown = last_id-grows past more legal.1 in let most = is.last_id in omega (arith, grown, most))
only-vacuums past (Started nodes ∷ more) legal is =
    absurd (let none : past ≡ [] = nothing-before more past legal.0 in
    let zero : numbered past ≡ 0 = ap numbered none in
    let some = is.some in let few = is.nodes in omega (arith, zero, some, few))
only-vacuums past (Began kept ∷ more) legal is =
    absurd (let zero : numbered past ≡ 0 = ap numbered (nothing-before more past legal.0) in
    let linked = legal.2.store.sound.nodes.linked in
    let some = is.some in let few = is.nodes in omega (arith, zero, linked, some, few))
only-vacuums past (Closed id ∷ more) legal is =
    let now : List Step = more ++ past in
    let kept : (snapshot : Snapshot) → Contains (open_snapshots (Closed id ∷ now)) snapshot
    → Contains (open_snapshots now) snapshot × (not (snapshot.id == id) ≡ true) =
    λ snapshot m. Contains-from_filter (λ (s : Snapshot). not (s.id == id)) (open_snapshots now) snapshot m in
    let are = only-vacuums past more legal.1 (record {
      some = is.some;
      nodes = is.nodes;
      counts = is.counts;
      last_id = is.last_id;
      snapshots = λ snapshot m. (kept snapshot (is.snapshots snapshot m)).0;
    }) in
    let found = found-by_id id (open_snapshots now) legal.0 in
    let old : Contains (open_snapshots past) found.0 =
    subst (λ (xs : List Snapshot). Contains xs found.0) are.0.5 found.1 in
    let other : not (found.0.id == id) ≡ true = (kept found.0 (is.snapshots found.0 old)).1 in
    absurd (let same : not (found.0.id == id) ≡ false = ap not (eq-eqb found.0.id id found.2) in
    let never : true ≡ false = sym other ∙ same in cc)
only-vacuums past (Vacuumed at ∷ more) legal is =
    only-vacuums past more legal.1 (record {
      some = is.some;
      nodes = is.nodes;
      counts = is.counts;
      last_id = is.last_id;
      snapshots = is.snapshots;
    })
only-vacuums past (PartVacuumed at dropped ∷ more) legal is =
    only-vacuums past more legal.1 (record {
      some = is.some;
      nodes = is.nodes;
      counts = is.counts;
      last_id = is.last_id;
      snapshots = is.snapshots;
    })
only-vacuums past (Joined node start ∷ more) legal is =
    absurd (let grown = numbered-grows past more legal.3 in let few = is.nodes in omega (arith, grown, few))

-- The older checkpoint may itself be what increments made: then the vacuums since a first one dropped none of its rows.
module _ (older earlier made : StoreView) (increment : IncrementView) (past mid more : List Step)
    (h : Represents older (more ++ (without_drops mid ++ past))) (g : Represents earlier (mid ++ past))
    (of : IsIncrementOf earlier increment) (fit : AreFitting older increment) where
  abbrev base : List Step
  base = without_drops mid ++ past

  abbrev was : List Step
  was = mid ++ past

  abbrev now : List Step
  now = more ++ base

  agree : Agree base was
  agree = drops-agree mid past

  abbrev since : ℕ
  since = increment.since

  abbrev upper : List Row
  upper = increment.state.rows

  fields : increment.state ≡ with_rows earlier upper
  fields = of.copy.same

  no-later : IsNoLater base now
  no-later =
      let many : length older.links ≡ numbered now = h.links.many in
      let many' : length earlier.links ≡ numbered base = g.links.many ∙ sym agree.alike.1 in
      let same_links : length increment.state.links ≡ length earlier.links =
      ap (λ (view : StoreView). length view.links) fields in
      let few = fit.later.links.many in
      let last : increment.state.last_id ≡ earlier.last_id = ap (λ (view : StoreView). view.last_id) fields in
      let most = fit.later.last_id in
      let is = h.last_id in
      let is' : earlier.last_id ≡ last_id base = g.last_id ∙ sym agree.alike.4 in
      record {
        some = subst (λ n. 0 < n) h.initial_nodes fit.sound.store.sound.nodes.some;
        nodes = omega (arith, many, many', same_links, few);
        counts = λ n lt.
            let one : (link_at older.links n).next ≡ count n now =
            ap (λ (l : _). l.next) (get_or_from_slice_get older.links n (link_of n now) no_link
            (h.links.each n (omega (arith, lt, many)))) in
            let two : (link_at earlier.links n).next ≡ count n base =
            ap (λ (l : _). l.next) (get_or_from_slice_get earlier.links n (link_of n was) no_link
            (g.links.each n (omega (arith, lt, many, many', same_links, few)))) ∙ sym (agree.alike.2 n).0 in
            let three : (link_at increment.state.links n).next ≡ (link_at earlier.links n).next =
            ap (λ (view : StoreView). (link_at view.links n).next) fields in
            let under = (fit.later.links.each n (omega (arith, lt, many))).next in
            omega (arith, one, two, three, under);
        last_id = omega (arith, last, most, is, is');
        snapshots = λ snapshot m.
            let there : Contains increment.state.snapshots snapshot =
            subst (λ (xs : List Snapshot). Contains xs snapshot)
            (sym (ap (λ (view : StoreView). view.snapshots) fields ∙ g.snapshots ∙ sym agree.alike.5)) m in
            let bounded : snapshot.id ≤ increment.state.last_id =
            (All-contains (λ (s : Snapshot). (0 < s.id) × (s.id ≤ increment.state.last_id)) increment.state.snapshots
            snapshot fit.state.store.register.bounded there).1 in
            let grown = last_id-grows base more h.legal in
            subst (λ (xs : List Snapshot). Contains xs snapshot) h.snapshots
            (All-contains (IsOpenOrNew older) increment.state.snapshots snapshot fit.later.snapshots there
            (omega (arith, bounded, last, is, is', grown)));
      }

  same : AreAlike now base × (writes now ≡ writes base)
  same = only-vacuums base more h.legal no-later

  rows-same : writes now ≡ writes was
  rows-same = same.1 ∙ agree.rows

  -- the horizons are the same too
  horizons : horizon now ≡ horizon was
  horizons =
      let at : increment.state.horizon ≡ earlier.horizon = ap (λ (view : StoreView). view.horizon) fields in
      let rose = horizon-grows base more h.legal in
      let alike = agree.horizons in
      let back = fit.later.horizon in
      let is = h.horizon in
      let is' = g.horizon in
      omega (arith, at, rose, alike, back, is, is')

  high : older.horizon ≤ since
  high = (let is = h.horizon in let is' = g.horizon in let e = horizons in let top = of.horizon in
      omega (arith, is, is', e, top))

  -- both have all rows above the stamp
  from-upper : (row : Row) → Contains upper row → Contains older.rows row × (since < row.stamp)
  from-upper row m =
      let found = above-high since earlier.rows row (Contains-permutation upper (rows_above since earlier.rows) row
      (IsPermutation-sym (rows_above since earlier.rows) upper of.copy.rows.same) m) in
      let written : Contains (writes now) row =
      subst (λ (rows : List Row). Contains rows row) (sym rows-same) (g.rows.within row found.0) in
      (h.rows.above row written (let is = h.horizon in let top = high in omega (arith, is, top, found.1)), found.1)

  from-older : (row : Row) → Contains older.rows row → since < row.stamp → Contains earlier.rows row
  from-older row m up =
      g.rows.above row (subst (λ (rows : List Row). Contains rows row) rows-same (h.rows.within row m))
      (let is = g.horizon in let top = of.horizon in omega (arith, is, top, up))

  to-upper : (row : Row) → Contains older.rows row → since < row.stamp → Contains upper row
  to-upper row m up = Contains-permutation (rows_above since earlier.rows) upper row of.copy.rows.same
      (Contains-filter (λ (r : Row). ltb since r.stamp) earlier.rows row (from-older row m up)
      (lt-ltb since row.stamp up))

  tops : AreUpper since older upper
  tops = record {
    row_set = row_set-moved (rows_above since earlier.rows) upper
        (filter-IsRowSet (λ (r : Row). ltb since r.stamp) earlier.rows g.rows.row_set) of.copy.rows.same;
    within = from-upper;
    each = to-upper;
    many = same_above since older.rows earlier.rows h.rows.row_set g.rows.row_set from-older
        (λ row m up. (from-upper row (Contains-permutation (rows_above since earlier.rows) upper row
        of.copy.rows.same (Contains-filter (λ (r : Row). ltb since r.stamp) earlier.rows row m
        (lt-ltb since row.stamp up)))).0)
        ∙ sym (length_permutation (rows_above since earlier.rows) upper of.copy.rows.same);
  }

  -- so what is made represents what the older checkpoint does
  pub same-represents : IsAdvanced older increment made → Represents made (more ++ (without_drops mid ++ past))
  same-represents is =
      let low : since ≤ floor now = subst (λ f. since ≤ f) (floor-in older now h) fit.low in
      let first : Represents (with_rows earlier (joined since older.rows upper)) now = record {
        legal = h.legal;
        initial_nodes = g.initial_nodes ∙ sym (same.0.0 ∙ agree.alike.0);
        links = record {
          many = g.links.many ∙ sym (same.0.1 ∙ agree.alike.1);
          each = λ n lt.
              let link = same.0.2 n in
              let alike = agree.alike.2 n in
              let next : count n now ≡ count n was = link.0 ∙ alike.0 in
              let last : head n now ≡ head n was = link.1 ∙ alike.1 in
              let ended : retired n now ≡ retired n was = link.2 ∙ alike.2 in
              g.links.each n lt ∙ rw (next, last, ended) refl;
        };
        top = g.top ∙ sym (same.0.3 ∙ agree.alike.3);
        snapshots = g.snapshots ∙ sym (same.0.5 ∙ agree.alike.5);
        last_id = g.last_id ∙ sym (same.0.4 ∙ agree.alike.4);
        rows = joined-represent since older older upper now [] [] h h low high tops;
        stored = (h.stored.0, h.stored.1, joined-count since older older upper now [] [] h h low high tops);
        horizon = g.horizon ∙ sym horizons;
      } in
      copy-represents (with_rows earlier (joined since older.rows upper)) made now first (record {
        same = is.same ∙ ap (λ (state : StoreView). with_rows state made.rows) fields;
        rows = is.rows;
      })
