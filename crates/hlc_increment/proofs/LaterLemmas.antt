-- The state of a store later on: no number, head, horizon or id fell, no node that retired came back, and no snapshot
-- that was closed is open again.
use Rattle.std.proofs.Common.{◌≡◌, ℕ, ◌+◌, ◌<◌, ◌≤◌, List, [], ◌∷◌, ◌++◌, length, Contains, true, false, refl, ap, sym}
use Rattle.std.proofs.Common.{◌∙◌, subst, inl, inr, arith, None, not, get_or, ◌==◌, eq-eqb}
use Rattle.std.proofs.lemmas.{Bool.cond-true, Bool.cases_eq, Option.get_or_from_slice_get}
use Rattle.std.proofs.lemmas.List.Elements.{All-contains, Contains-get_or, Contains-push_cases}
use Rattle.hlc_values.proofs.MemberLemmas.{Contains-from_filter}
use Rattle.hlc_node.specs.declared.item.Item.{Item}
use Rattle.hlc_rows.specs.declared.row.Row.{Row}
use Rattle.hlc_intake.specs.IntakeView.{IntakeView}
use Rattle.hlc_heads.specs.Heads.{link_at, no_link}
use Rattle.hlc_snapshot.specs.declared.snapshot.Snapshot.{Snapshot}
use Rattle.hlc_core.specs.Past.{Step, Started, Began, Took, Opened, Closed, Vacuumed, PartVacuumed, Joined, horizon}
use Rattle.hlc_core.specs.Past.{initial_nodes, numbered, count, head, retired, last_id, open_snapshots, item_refusal}
use Rattle.hlc_core.specs.Past.{IsLegal}
use Rattle.hlc_core.specs.StoreView.{StoreView, with_rows, AreLinks, Represents}
use Rattle.hlc_core.proofs.PastLemmas.{rises, still_here, head-same, head-other, head-joined_other, retired-other}
use Rattle.hlc_core.proofs.PastLemmas.{count-other, vacuum-above}
use Rattle.hlc_core.proofs.StayLemmas.{nothing-before}
use Rattle.hlc_increment.specs.Increment.{IsLaterLink, AreLaterLinks, MayBeLater}

-- the horizon never falls
pub horizon-grows : (past more : List Step) → IsLegal (more ++ past)
    → horizon past ≤ horizon (more ++ past)
horizon-grows past [] legal = omega arith
horizon-grows past (Began kept ∷ more) legal =
    let none : horizon past ≡ 0 = ap horizon (nothing-before more past legal.0) in
    let goal : horizon past ≤ kept.horizon = omega (arith, none) in goal
horizon-grows past (Vacuumed at ∷ more) legal =
    let before = horizon-grows past more legal.1 in
    let up : horizon (more ++ past) ≤ at = vacuum-above (more ++ past) at legal.0 in omega (arith, before)
horizon-grows past (PartVacuumed at dropped ∷ more) legal =
    let before = horizon-grows past more legal.1 in
    let up : horizon (more ++ past) ≤ at = vacuum-above (more ++ past) at legal.0 in omega (arith, before)
horizon-grows past (Joined node start ∷ more) legal = horizon-grows past more legal.3
horizon-grows past (step ∷ more) legal = horizon-grows past more legal.1

-- the numbers of nodes are not assigned again
pub numbered-grows : (past more : List Step) → IsLegal (more ++ past) → numbered past ≤ numbered (more ++ past)
numbered-grows past [] legal = omega arith
numbered-grows past (Started nodes ∷ more) legal = (let h = numbered-grows past more legal.1 in omega (arith, h))
numbered-grows past (Began kept ∷ more) legal =
    let none : numbered past ≡ 0 = ap numbered (nothing-before more past legal.0) in
    let goal : numbered past ≤ length kept.links = omega (arith, none) in goal
numbered-grows past (Joined node start ∷ more) legal =
    (let h = numbered-grows past more legal.3 in omega (arith, h))
numbered-grows past (step ∷ more) legal = numbered-grows past more legal.1

-- and so is the number of those at the start
pub initial_nodes-stay : (past more : List Step) → 0 < initial_nodes past → IsLegal (more ++ past)
    → initial_nodes (more ++ past) ≡ initial_nodes past
initial_nodes-stay past [] some legal = refl
initial_nodes-stay past (Started nodes ∷ more) some legal =
    absurd (let none : initial_nodes (more ++ past) ≡ 0 = ap initial_nodes legal.0 in
    let same = initial_nodes-stay past more some legal.1 in omega (arith, some, none, same))
initial_nodes-stay past (Began kept ∷ more) some legal =
    absurd (let none : initial_nodes past ≡ 0 = ap initial_nodes (nothing-before more past legal.0) in
    omega (arith, some, none))
initial_nodes-stay past (Joined node start ∷ more) some legal = initial_nodes-stay past more some legal.3
initial_nodes-stay past (step ∷ more) some legal = initial_nodes-stay past more some legal.1

-- nor do the ids of snapshots fall
pub last_id-grows : (past more : List Step) → IsLegal (more ++ past) → last_id past ≤ last_id (more ++ past)
last_id-grows past [] legal = omega arith
last_id-grows past (Opened stamp ∷ more) legal = (let h = last_id-grows past more legal.1 in omega (arith, h))
last_id-grows past (Began kept ∷ more) legal =
    let none : last_id past ≡ 0 = ap last_id (nothing-before more past legal.0) in
    let goal : last_id past ≤ kept.last_id = omega (arith, none) in goal
last_id-grows past (Joined node start ∷ more) legal = last_id-grows past more legal.3
last_id-grows past (step ∷ more) legal = last_id-grows past more legal.1

-- what a past says of the link of a node
abbrev pub link_of : ℕ → List Step → IntakeView
link_of n past = record { next = count n past; head = head n past; retired = retired n past }

-- an item moves the link of its node on, and no other
took-goes_on : (past : List Step) (item : Item) (n : ℕ) → item_refusal past item ≡ None
    → IsLaterLink (link_of n past) (link_of n (Took item ∷ past))
took-goes_on past item n none = elim (cases_eq item.node n) [
  | inl same ↦
      let counted : count n (Took item ∷ past) ≡ count n past + 1 = cond-true _ _ _ (eq-eqb _ _ same) in
      let last : head n (Took item ∷ past) ≡ item.stamp = head-same n item past same in
      let up : head n past < item.stamp = subst (λ k. head k past < item.stamp) same (rises past item none) in
      let here : retired n past ≡ false = subst (λ k. retired k past ≡ false) same (still_here past item none) in
      record {
        next = omega (arith, counted);
        head = omega (arith, last, up);
        retired = λ has. absurd (let never : true ≡ false = sym has ∙ here in cc);
      }
  | inr other ↦
      let counted : count n (Took item ∷ past) ≡ count n past = count-other n item past other in
      let last : head n (Took item ∷ past) ≡ head n past = head-other n item past other in
      record {
        next = omega (arith, counted);
        head = omega (arith, last);
        retired = λ has. retired-other n item past other ∙ has;
      }
]

link-stays : (n : ℕ) (past : List Step) → IsLaterLink (link_of n past) (link_of n past)
link-stays n past = record { next = omega arith; head = omega arith; retired = λ has. has }

link-goes_further : (one two three : IntakeView) → IsLaterLink one two → IsLaterLink two three
    → IsLaterLink one three
link-goes_further one two three h g = record {
  next = (let a = h.next in let b = g.next in omega (arith, a, b));
  head = (let a = h.head in let b = g.head in omega (arith, a, b));
  retired = λ has. g.retired (h.retired has);
}

-- the link of a node that was there never goes back
pub link-goes_on : (past more : List Step) (n : ℕ) → IsLegal (more ++ past) → n < numbered past
    → IsLaterLink (link_of n past) (link_of n (more ++ past))
link-goes_on past [] n legal within = link-stays n past
link-goes_on past (Took item ∷ more) n legal within =
    link-goes_further (link_of n past) (link_of n (more ++ past)) (link_of n (Took item ∷ (more ++ past)))
    (link-goes_on past more n legal.1 within) (took-goes_on (more ++ past) item n legal.0)
link-goes_on past (Began kept ∷ more) n legal within =
    absurd (let none : numbered past ≡ 0 = ap numbered (nothing-before more past legal.0) in
    omega (arith, within, none))
link-goes_on past (Joined node start ∷ more) n legal within =
    let was = link-goes_on past more n legal.3 within in
    let grown = numbered-grows past more legal.3 in
    let last : head n (Joined node start ∷ (more ++ past)) ≡ head n (more ++ past) =
    head-joined_other n node start (more ++ past) (λ same. omega (arith, legal.1, grown, within, same)) in
    record {
      next = was.next;
      head = (let up = was.head in omega (arith, up, last));
      retired = was.retired;
    }
link-goes_on past (step ∷ more) n legal within = link-goes_on past more n legal.1 within

links-go_on : (older newer : List IntakeView) (past more : List Step) → IsLegal (more ++ past)
    → AreLinks past older → AreLinks (more ++ past) newer → AreLaterLinks older newer
links-go_on older newer past more legal h g =
    let before : length older ≡ numbered past = h.many in
    let after : length newer ≡ numbered (more ++ past) = g.many in
    let grown = numbered-grows past more legal in
    record {
      many = omega (arith, before, after, grown);
      each = λ n lt.
          let first : link_at older n ≡ link_of n past =
          get_or_from_slice_get older n (link_of n past) no_link (h.each n lt) in
          let last : link_at newer n ≡ link_of n (more ++ past) =
          get_or_from_slice_get newer n (link_of n (more ++ past)) no_link
          (g.each n (omega (arith, lt, before, after, grown))) in
          subst (λ (link : IntakeView). IsLaterLink link (link_at newer n)) (sym first)
          (subst (IsLaterLink (link_of n past)) (sym last)
          (link-goes_on past more n legal (omega (arith, lt, before))));
    }

-- a snapshot whose id was assigned before was open then, so no closed one is open again
opened-before : (past more : List Step) (snapshot : Snapshot) → IsLegal (more ++ past)
    → Contains (open_snapshots (more ++ past)) snapshot → snapshot.id ≤ last_id past
    → Contains (open_snapshots past) snapshot
opened-before past [] snapshot legal m low = m
opened-before past (Opened at ∷ more) snapshot legal m low =
    let new : Snapshot = record { id = last_id (more ++ past) + 1; stamp = at } in
    elim (Contains-push_cases (open_snapshots (more ++ past)) new snapshot m) [
      | inl old ↦ opened-before past more snapshot legal.1 old low
      | inr same ↦ absurd (let grown = last_id-grows past more legal.1 in
          let e : last_id (more ++ past) + 1 ≡ snapshot.id = ap (λ (s : Snapshot). s.id) same in
          omega (arith, grown, e, low))
    ]
opened-before past (Began kept ∷ more) snapshot legal m low =
    absurd (let none : last_id past ≡ 0 = ap last_id (nothing-before more past legal.0) in
    let first = (All-contains (λ (s : Snapshot). (0 < s.id) × (s.id ≤ kept.last_id)) kept.snapshots snapshot
    legal.2.store.register.bounded m).0 in omega (arith, none, first, low))
opened-before past (Closed id ∷ more) snapshot legal m low =
    opened-before past more snapshot legal.1
    (Contains-from_filter (λ (s : Snapshot). not (s.id == id)) (open_snapshots (more ++ past)) snapshot m).0 low
opened-before past (Joined node start ∷ more) snapshot legal m low = opened-before past more snapshot legal.3 m low
opened-before past (step ∷ more) snapshot legal m low = opened-before past more snapshot legal.1 m low

-- so what a store becomes may be later than what it was, whatever rows are listed with it
pub later-goes_on : (older newer : StoreView) (rows : List Row) (past more : List Step) → Represents older past
    → Represents newer (more ++ past) → 0 < initial_nodes past → MayBeLater older (with_rows newer rows)
later-goes_on older newer rows past more h g some = record {
  initial_nodes = h.initial_nodes ∙ sym (initial_nodes-stay past more some g.legal) ∙ sym g.initial_nodes;
  links = links-go_on older.links newer.links past more g.legal h.links g.links;
  horizon = (let before = h.horizon in let after = g.horizon in let rose = horizon-grows past more g.legal in
      omega (arith, before, after, rose));
  last_id = (let before = h.last_id in let after = g.last_id in let grown = last_id-grows past more g.legal in
      omega (arith, before, after, grown));
  snapshots = λ k d lt low.
      let m : Contains newer.snapshots (get_or newer.snapshots k d) = Contains-get_or newer.snapshots k d lt in
      rw h.snapshots (opened-before past more (get_or newer.snapshots k d) g.legal (rw (← g.snapshots) m)
      (rw (← h.last_id) low));
}
