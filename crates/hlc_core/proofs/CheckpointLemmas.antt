-- A state that represents a past has its floor, and with its rows in order is a checkpoint.
use Rattle.std.proofs.Common.{◌≡◌, ℕ, ◌+◌, ◌<◌, ◌≤◌, List, [], ◌∷◌, ◌++◌, length, max, get_or, true, false, Some, None}
use Rattle.std.proofs.Common.{Option, refl, ap, sym, ◌∙◌, subst, inl, inr, arith, cond}
use Rattle.std.specs.Prelude.{All, Contains, nat_le}
use Rattle.std.proofs.lemmas.{Option.get_or_from_slice_get, Bool.cases_lt, Bool.Decides.nat_tests}
use Rattle.std.proofs.lemmas.List.{length-append, Quantifiers.all_pairs_push}
use Rattle.std.proofs.lemmas.List.Elements.{All-nil, All-weaker, All-push, All-contains, All-contains_itself}
use Rattle.hlc_intake.specs.IntakeView.{IntakeView}
use Rattle.hlc_node.specs.Items.{retires}
use Rattle.hlc_heads.specs.{Heads.no_link, Heads.link_at, declared.heads.JoinFault.TheVariants.TooManyNodes}
use Rattle.hlc_heads.specs.declared.heads.TheConstants.{MAX_INITIAL_NODES, MAX_NODES}
use Rattle.hlc_heads.proofs.LowLemmas.{low-same}
use Rattle.hlc_snapshot.specs.declared.{snapshot.Snapshot.Snapshot, fault.SnapshotFault.SnapshotFault}
use Rattle.hlc_snapshot.specs.declared.registry.TheConstants.{MAX_OPEN_SNAPSHOTS}
use Rattle.hlc_snapshot.specs.RegistryView.{RegistryView, IsRegister, opened_at, room_refusal as room_in}
use Rattle.hlc_snapshot.proofs.RegisterLemmas.{closed-is_register}
use Rattle.hlc_witness.specs.{Certificate.RowsAscend, Cost.IsInLimits}
use Rattle.hlc_core.specs.Past.{Step, Started, Began, Took, Opened, Closed, Joined, numbered, count, head, retired, top}
use Rattle.hlc_core.specs.Past.{floor, horizon, last_id, open_snapshots, of_room, initial_nodes, IsLegal, writes}
use Rattle.hlc_core.specs.Past.{greatest_accepted}
use Rattle.hlc_events.specs.declared.fault.CoreFault.TheVariants.{Join}
use Rattle.hlc_core.specs.StoreView.{StoreView, greatest_head, HasNodes, HasStamps, HasLastItem, IsUnderHead}
use Rattle.hlc_core.specs.StoreView.{Represents}
use Rattle.hlc_core.specs.Checkpoint.{IsCheckpoint, IsCopyOf, floor_in}
use Rattle.hlc_core.proofs.PastLemmas.{inside, rises, head-same, head-other, head-joined, head-joined_other, floor-some}
use Rattle.hlc_core.proofs.PastLemmas.{fresh, accepted-low, retired-head, by_equal, older, unless-none, inside-row}
use Rattle.hlc_core.proofs.PastLemmas.{below_head, writes-limits, open-low, open-below, open-above, open-room}
use Rattle.hlc_core.proofs.PastLemmas.{horizon-low, positive}
use Rattle.hlc_core.proofs.{Moved.represents-moved, Sound.greatest-le}
use Rattle.hlc_core.proofs.BeganLemmas.{greatest-ge, began-head, began-top, began-count, began-last}

-- the nodes at the start keep their numbers
numbered-from : (past : List Step) → IsLegal past → initial_nodes past ≤ numbered past
numbered-from [] legal = omega arith
numbered-from (Started nodes ∷ past) legal = omega arith
numbered-from (Began kept ∷ past) legal = legal.2.store.sound.nodes.linked
numbered-from (Joined node start ∷ past) legal = (let h = numbered-from past legal.3 in omega (arith, h))
numbered-from (_ ∷ past) legal = numbered-from past legal.1

-- and no more numbers are assigned than there are
numbered-few : (past : List Step) → initial_nodes past ≤ MAX_INITIAL_NODES → IsLegal past
    → numbered past ≤ MAX_NODES
numbered-few [] few legal = omega arith
numbered-few (Started nodes ∷ past) few legal =
    (let none : numbered past ≡ 0 = ap numbered legal.0 in omega (arith, few))
numbered-few (Began kept ∷ past) few legal = legal.2.store.sound.nodes.bounded
numbered-few (Joined node start ∷ past) few legal =
    let full = unless-none (nat_le MAX_NODES (numbered past)) (Join TooManyNodes) None legal.0 in
    grind (arith, nat_tests, full.0)
numbered-few (_ ∷ past) few legal = numbered-few past few legal.1

-- no head is above the top
pub heads-low : (past : List Step) → IsLegal past → (n : ℕ) → head n past ≤ top past
heads-low [] legal n = omega arith
heads-low (Began kept ∷ past) legal n = began-head kept n legal.2
heads-low (Joined node start ∷ past) legal n =
    by_equal (λ b. cond b start (head n past) ≤ max (top past) start) node n (λ _. omega arith)
    (λ _. omega (arith, heads-low past legal.3 n))
heads-low (Took item ∷ past) legal n =
    by_equal (λ b. cond b item.stamp (head n past) ≤ max (top past) item.stamp) item.node n (λ _. omega arith)
    (λ _. omega (arith, heads-low past legal.1 n))
heads-low (_ ∷ past) legal n = heads-low past legal.1 n

-- and one head is it
pub top-at : (past : List Step) → 0 < initial_nodes past → IsLegal past
    → (n : ℕ) × (n < numbered past) × (head n past ≡ top past)
top-at [] some legal = absurd (omega (arith, some))
top-at (Started nodes ∷ past) some legal =
    rw legal.0 (0, omega (arith, some), refl)
top-at (Began kept ∷ past) some legal = began-top kept legal.2
top-at (Joined node start ∷ past) some legal =
    let old = top-at past some legal.3 in
    let within : old.0 < numbered past = old.1 in
    let was : head old.0 past ≡ top past = old.2 in
    let is : node ≡ numbered past = legal.1 in
    elim (cases_lt (top past) start) [
      | inl above ↦ (
        node,
        (let goal : node < numbered past + 1 = omega arith in goal),
        (let e : head node (Joined node start ∷ past) ≡ start = head-joined node node start past refl in
            let goal : head node (Joined node start ∷ past) ≡ max (top past) start = omega arith in goal),
      )
      | inr below ↦ (
        old.0,
        (let goal : old.0 < numbered past + 1 = omega arith in goal),
        (let e : head old.0 (Joined node start ∷ past) ≡ head old.0 past =
            head-joined_other old.0 node start past (λ e. omega (arith, e)) in
            let goal : head old.0 (Joined node start ∷ past) ≡ max (top past) start = omega arith in goal),
      )
    ]
top-at (Took item ∷ past) some legal =
    let old = top-at past some legal.1 in
    let at : head old.0 past ≡ top past = old.2 in
    let up : head item.node past < item.stamp = rises past item legal.0 in
    elim (cases_lt (top past) item.stamp) [
      | inl above ↦ (
        item.node,
        inside past item legal.0,
        (let e : head item.node (Took item ∷ past) ≡ item.stamp = head-same item.node item past refl in
            let goal : head item.node (Took item ∷ past) ≡ max (top past) item.stamp = omega arith in goal),
      )
      | inr below ↦ (
        old.0,
        old.1,
        (let other : item.node ≡ old.0 → ⊥ =
            λ e. (let f : head item.node past ≡ head old.0 past = ap (λ k. head k past) e in omega arith) in
            let e : head old.0 (Took item ∷ past) ≡ head old.0 past = head-other old.0 item past other in
            let goal : head old.0 (Took item ∷ past) ≡ max (top past) item.stamp = omega arith in goal),
      )
    ]
top-at (_ ∷ past) some legal = top-at past some legal.1

-- if all nodes have retired, the floor is the greatest stamp of an accepted item
pub floor-retired : (past : List Step) → 0 < initial_nodes past → IsLegal past
    → ((n : ℕ) → n < numbered past → retired n past ≡ true) → floor past ≡ greatest_accepted past
floor-retired past some legal has_retired =
    elim (floor-some past) [
      | inl one ↦ absurd (let e : false ≡ true = sym one.2 ∙ has_retired one.0 one.1 in cc)
      | inr all' ↦
          let one = top-at past some legal in
          let e : head one.0 past ≡ top past = one.2 in
          let low : head one.0 past ≤ greatest_accepted past =
          retired-head past one.0 legal (has_retired one.0 one.1) in
          let up : greatest_accepted past ≤ top past = accepted-low past legal in
          let at : floor past ≡ top past = all'.1 in omega arith
    ]

-- the registry of a legal past
of_room-none : (fault : Option SnapshotFault) → of_room fault ≡ None → fault ≡ None
of_room-none None h = refl
of_room-none (Some fault) h = absurd (cc)

register-open : (register : RegistryView) (stamp : ℕ) → IsRegister register
    → room_in (length register.snapshots) register.last_id ≡ None → IsRegister (opened_at register stamp)
register-open register stamp h none =
    let room : (length register.snapshots < MAX_OPEN_SNAPSHOTS) × (register.last_id < 18446744073709551614) =
    grind (arith, nat_tests) in
    let few : length register.snapshots < MAX_OPEN_SNAPSHOTS = room.0 in
    let spare : register.last_id < 18446744073709551614 = room.1 in
    let new : Snapshot = record { id = register.last_id + 1; stamp = stamp } in
    let l : length (register.snapshots ++ new ∷ []) ≡ length register.snapshots + 1 =
    length-append register.snapshots (new ∷ []) in
    record {
      rising = all_pairs_push (λ older newer. older.id < newer.id) register.snapshots new h.rising
          (λ k d lt. (let g : (get_or register.snapshots k d).id ≤ register.last_id = (h.bounded k d lt).1 in
          omega arith));
      bounded = All-push (λ snapshot. (0 < snapshot.id) × (snapshot.id ≤ register.last_id + 1)) register.snapshots new
          (λ k d lt. ((h.bounded k d lt).0, (let g = (h.bounded k d lt).1 in omega (arith, g))))
          (omega arith, omega arith);
      few = omega arith;
      in_range = omega arith;
    }

pub register-of : (past : List Step) → IsLegal past
    → IsRegister (record { snapshots = open_snapshots past; last_id = last_id past })
register-of [] legal =
    record {
      rising = λ i j d less within. absurd (omega arith);
      bounded = All-nil _;
      few = omega arith;
      in_range = omega arith;
    }
register-of (Began kept ∷ past) legal = legal.2.store.register
register-of (Closed id ∷ past) legal =
    closed-is_register (record { snapshots = open_snapshots past; last_id = last_id past }) id
    (register-of past legal.1)
register-of (Opened stamp ∷ past) legal =
    register-open (record { snapshots = open_snapshots past; last_id = last_id past }) stamp
    (register-of past legal.1)
    (of_room-none _ (sym (open-room past stamp (open-below past stamp legal.0)
    (open-above past stamp legal.0)) ∙ legal.0))
register-of (step ∷ past) legal = register-of past (older step past legal)

-- each item has a stamp of its own above 0.0
count-low : (past : List Step) → IsLegal past → (n : ℕ) → count n past ≤ head n past
count-low [] legal n = omega arith
count-low (Began kept ∷ past) legal n = began-count kept n legal.2
count-low (Joined node start ∷ past) legal n =
    by_equal (λ b. count n past ≤ cond b start (head n past)) node n
    (λ same. omega (arith, (fresh past n legal.3 (omega (arith, legal.1))).0)) (λ _. count-low past legal.3 n)
count-low (Took item ∷ past) legal n =
    let old : count n past ≤ head n past = count-low past legal.1 n in
    by_equal (λ b. cond b (count n past + 1) (count n past) ≤ cond b item.stamp (head n past)) item.node n
    (λ same. let at : head item.node past ≡ head n past = ap (λ k. head k past) same in
    omega (arith, rises past item legal.0)) (λ _. old)
count-low (_ ∷ past) legal n = count-low past legal.1 n

-- and a node that has retired has an item
count-retired : (past : List Step) (n : ℕ) → IsLegal past → retired n past ≡ true → 0 < count n past
count-retired [] n legal has_retired = absurd cc
count-retired (Began kept ∷ past) n legal has_retired = (began-last kept n legal.2 has_retired).1
count-retired (Took item ∷ past) n legal has_retired =
    by_equal (λ b. cond b (retires item.body) (retired n past) ≡ true → 0 < cond b (count n past + 1) (count n past))
    item.node n (λ _ _. omega arith) (λ _ old. count-retired past n legal.1 old) has_retired
count-retired (step ∷ past) n legal has_retired = count-retired past n (older step past legal) has_retired

pub link-is : (kept : StoreView) (past : List Step) → Represents kept past → (k : ℕ) (d : IntakeView)
    → k < length kept.links
    → get_or kept.links k d ≡ record { next = count k past; head = head k past; retired = retired k past }
link-is kept past h k d lt =
    get_or_from_slice_get kept.links k (record { next = count k past; head = head k past; retired = retired k past }) d
    (h.links.each k lt)

link-head : (kept : StoreView) (past : List Step) → Represents kept past → (k : ℕ) (d : IntakeView)
    → k < length kept.links
    → (get_or kept.links k d).head ≡ head k past
link-head kept past h k d lt = ap (λ (link : IntakeView). link.head) (link-is kept past h k d lt)

-- the floor of a state is that of the past which it represents
pub floor-in : (kept : StoreView) (past : List Step) → Represents kept past → floor_in kept ≡ floor past
floor-in kept past h =
    low-same (λ k. (link_at kept.links k).head) (λ k. head k past) (λ k. (link_at kept.links k).retired)
    (λ k. retired k past) (length kept.links) (numbered past) kept.top (top past) h.links.many h.top
    (λ k within.
    let is = link-is kept past h k no_link (let many = h.links.many in omega (arith, within, many)) in
    (ap (λ (link : IntakeView). link.head) is, ap (λ (link : IntakeView). link.retired) is))

pub checkpoint-sound : (kept : StoreView) (past : List Step) → Represents kept past → 0 < kept.initial_nodes
    → kept.initial_nodes ≤ MAX_INITIAL_NODES → RowsAscend kept.rows → IsCheckpoint kept
checkpoint-sound kept past h some few ascend =
    let many : length kept.links ≡ numbered past = h.links.many in
    let from = numbered-from past h.legal in
    let some' : 0 < initial_nodes past = rw (← h.initial_nodes) some in
    let bounded = numbered-few past (rw (← h.initial_nodes) few) h.legal in
    let has : HasNodes kept.initial_nodes kept.links =
    record {
      some = some;
      few = few;
      linked = (let start = h.initial_nodes in omega (arith, from, start));
      bounded = omega (arith, bounded);
    } in
    let at : floor_in kept ≡ floor past = floor-in kept past h in
    let most = top-at past some' h.legal in
    let within : most.0 < length kept.links = (let w : most.0 < numbered past = most.1 in omega arith) in
    let d : IntakeView = record { next = 0; head = 0; retired = true } in
    record {
      store = record {
        consistent = record {
          opened = subst (λ xs. All (λ (s : Snapshot). s.stamp ≤ floor_in kept) xs) (sym h.snapshots)
              (subst (λ f. All (λ (s : Snapshot). s.stamp ≤ f) (open_snapshots past)) (sym at)
              (open-low past h.legal));
          row_set = h.rows.row_set;
          stored = All-weaker (Contains kept.rows) (IsUnderHead kept.links)
              (λ row m.
              let all' : Contains (writes past) row = h.rows.within row m in
              let node : row.node < numbered past = inside-row past h.legal row all' in
              let inside : row.node < length kept.links = omega (arith, node, many) in
              let same = link-head kept past h row.node no_link inside in
              let low : row.stamp ≤ head row.node past = below_head past h.legal row all' in
              (inside, omega (arith, same, low), positive past h.legal row all'))
              kept.rows (All-contains_itself kept.rows);
        };
        sound = record {
          nodes = has;
          stamps = λ k d lt. subst HasStamps (sym (link-is kept past h k d lt)) (count-low past h.legal k);
          last = λ k d lt. subst HasLastItem (sym (link-is kept past h k d lt)) (count-retired past k h.legal);
          top =
              (let t : kept.top ≡ top past = h.top in
              let a : head most.0 past ≡ top past = most.2 in
              let b : (get_or kept.links most.0 d).head ≡ head most.0 past = link-head kept past h most.0 d within in
              let c : (get_or kept.links most.0 d).head ≤ greatest_head kept.links =
              greatest-ge kept.links most.0 d within in
              let e : greatest_head kept.links ≤ top past =
              greatest-le kept.links (top past)
              (λ k d lt. (let f = link-head kept past h k d lt in
              let g = heads-low past h.legal k in omega (arith, f, g))) in
              omega arith);
          horizon = (let low = horizon-low past h.legal in
              let e : kept.horizon ≡ horizon past = h.horizon in omega (arith, low, at));
          limits = All-weaker (Contains kept.rows) IsInLimits
              (λ row m. All-contains IsInLimits (writes past) row (writes-limits past h.legal)
              (h.rows.within row m))
              kept.rows (All-contains_itself kept.rows);
        };
        register = subst IsRegister
            (ap (λ xs. record { snapshots = xs; last_id = last_id past }) (sym h.snapshots)
            ∙ ap (λ n. record { snapshots = kept.snapshots; last_id = n }) (sym h.last_id))
            (register-of past h.legal);
      };
      ascend = ascend;
    }

pub copy-represents : (kept copy : StoreView) (past : List Step) → Represents kept past → IsCopyOf kept copy
    → Represents copy past
copy-represents kept copy past h is =
    subst (λ k. Represents k past) (sym is.same) (represents-moved kept past copy.rows h is.rows)
