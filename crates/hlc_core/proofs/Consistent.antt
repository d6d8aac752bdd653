-- The invariant of a core, for any past that it represents: no open snapshot is above the floor, which never falls, the
-- rows are a row set, and none is above the head of its node.
use Rattle.std.proofs.Common.{◌≡◌, ℕ, ◌+◌, ◌<◌, ◌≤◌, List, [], ◌∷◌, ◌++◌, length, max, Bool, false, refl, ap, sym, ◌∙◌}
use Rattle.std.proofs.Common.{subst, inl, inr, arith, length-set, length-append, get_or-set_other}
use Rattle.std.proofs.lemmas.{Grind.get_or-set_at, Bool.cases_eq, List.get_or_append_left}
use Rattle.std.proofs.Math.Seq.{get_or-append_seam}
use Rattle.std.specs.Prelude.{All, Contains, Result, Ok, Err, Some, None, IfOk, OnErr, not, ◌==◌, slice_set}
use Rattle.std.proofs.lemmas.List.Elements.{All-nil, All-push, All-weaker, All-filter, All-contains, All-append}
use Rattle.std.proofs.lemmas.List.Elements.{All-contains_itself}
use Rattle.hlc_rows.specs.{declared.row.Row.Row, Rows.IsRowSet}
use Rattle.hlc_node.specs.{declared.item.Body.Body, Items.body_refusal}
use Rattle.hlc_snapshot.specs.declared.{snapshot.Snapshot.Snapshot, fault.NoSnapshot.NoSnapshot}
use Rattle.hlc_snapshot.specs.RegistryView.{RegistryView, closed, stamp_in, without}
use Rattle.hlc_heads.specs.Low.{low}
use Rattle.hlc_heads.proofs.LowLemmas.{low-rises, low-joins}
use Rattle.hlc_heads.specs.Heads.{HeadsView, a_link, no_link, link_at, advanced, joined, floor_of}
use Rattle.hlc_core.specs.{Past.body_rows, StoreView.IsConsistent, StoreView.IsUnderHead}
use Rattle.hlc_intake.specs.IntakeView.{IntakeView}
use Rattle.hlc_core.proofs.PastLemmas.{body_rows-are, row_set-body}

-- the head of a node, and whether it has retired
abbrev head_at : List IntakeView → ℕ → ℕ
head_at links k = (link_at links k).head

abbrev retired_at : List IntakeView → ℕ → Bool
retired_at links k = (link_at links k).retired

abbrev AreBelow : ℕ → Snapshot → Type 0
AreBelow floor snapshot = snapshot.stamp ≤ floor

pub consistent-new : (marks : HeadsView) → IsConsistent marks [] []
consistent-new marks = record { opened = All-nil _; row_set = tt; stored = All-nil _ }

set-at : (links : List IntakeView) (node : ℕ) (x : IntakeView) → node < length links
    → link_at (slice_set links node x) node ≡ x
set-at links node x within = get_or-set_at links node node x no_link refl within

set-other : (links : List IntakeView) (node k : ℕ) (x : IntakeView) → (k ≡ node → ⊥)
    → link_at (slice_set links node x) k ≡ link_at links k
set-other links node k x other = get_or-set_other links node k x no_link other

-- the floor does not fall when a link advances
pub floor-advanced : (marks : HeadsView) (node : ℕ) (link : IntakeView) → node < length marks.links
    → (link_at marks.links node).retired ≡ false → (link_at marks.links node).head < link.head
    → floor_of marks ≤ floor_of (advanced marks node link)
floor-advanced marks node link within here up =
    let new : List IntakeView = slice_set marks.links node link in
    let len : length new ≡ length marks.links = length-set marks.links node link in
    let rises : floor_of marks ≤ low (head_at new) (retired_at new) (length marks.links) (max marks.top link.head) =
    low-rises (head_at marks.links) (head_at new) (retired_at marks.links) (retired_at new) (length marks.links)
    marks.top (max marks.top link.head) node link.head within here up
    (ap (λ (x : IntakeView). x.head) (set-at marks.links node link within))
    (λ k other. (
      ap (λ (x : IntakeView). x.head) (set-other marks.links node k link other),
      ap (λ (x : IntakeView). x.retired) (set-other marks.links node k link other),
    ))
    (omega arith) in
    subst (λ n. floor_of marks ≤ low (head_at new) (retired_at new) n (max marks.top link.head)) (sym len) rises

-- nor when a node joins that is not below it
pub floor-joined : (marks : HeadsView) (start : ℕ) → floor_of marks ≤ start
    → floor_of marks ≤ floor_of (joined marks start)
floor-joined marks start up =
    let x : IntakeView = a_link 0 start false in
    let new : List IntakeView = marks.links ++ x ∷ [] in
    let len : length new ≡ length marks.links + 1 = length-append marks.links (x ∷ []) in
    let at : head_at new (length marks.links) ≡ start =
    ap (λ (y : IntakeView). y.head) (get_or-append_seam marks.links x [] no_link) in
    let joins : floor_of marks ≤ low (head_at new) (retired_at new) (length marks.links + 1) (max marks.top start) =
    low-joins (head_at marks.links) (head_at new) (retired_at marks.links) (retired_at new) (length marks.links)
    marks.top
    (max marks.top start) (omega arith) (omega arith)
    (λ k within. (
      ap (λ (y : IntakeView). y.head) (get_or_append_left marks.links (x ∷ []) no_link k within),
      ap (λ (y : IntakeView). y.retired) (get_or_append_left marks.links (x ∷ []) no_link k within),
    )) in
    subst (λ n. floor_of marks ≤ low (head_at new) (retired_at new) n (max marks.top start)) (sym len) joins

-- a row that was not above its head is not above it after a link advances
under-advanced : (links : List IntakeView) (node : ℕ) (link : IntakeView) (row : Row) → node < length links
    → (link_at links node).head < link.head → IsUnderHead links row → IsUnderHead (slice_set links node link) row
under-advanced links node link row within up under =
    let l : length (slice_set links node link) ≡ length links = length-set links node link in
    let n : row.node < length links = under.0 in
    let s : row.stamp ≤ head_at links row.node = under.1 in
    elim (cases_eq row.node node) [
      | inl same ↦
          let e : head_at (slice_set links node link) row.node ≡ link.head =
          ap (head_at (slice_set links node link)) same
          ∙ ap (λ (y : IntakeView). y.head) (set-at links node link within) in
          let f : head_at links row.node ≡ head_at links node = ap (head_at links) same in
          (omega arith, omega arith, under.2)
      | inr other ↦ let e : head_at (slice_set links node link) row.node ≡ head_at links row.node =
          ap (λ (y : IntakeView). y.head) (set-other links node row.node link other) in
          (omega arith, omega arith, under.2)
    ]

under-joined : (links : List IntakeView) (x : IntakeView) (row : Row) → IsUnderHead links row
    → IsUnderHead (links ++ x ∷ []) row
under-joined links x row under =
    let l : length (links ++ x ∷ []) ≡ length links + 1 = length-append links (x ∷ []) in
    let n : row.node < length links = under.0 in
    let s : row.stamp ≤ head_at links row.node = under.1 in
    let e : head_at (links ++ x ∷ []) row.node ≡ head_at links row.node =
    ap (λ (y : IntakeView). y.head) (get_or_append_left links (x ∷ []) no_link row.node n) in
    (omega arith, omega arith, under.2)

under-all : (P : Row → Type 0) (rows : List Row) (node stamp : ℕ) (body : Body) → All P rows
    → ((row : Row) → row.node ≡ node → row.stamp ≡ stamp → P row) → All P (rows ++ body_rows node stamp body)
under-all P rows node stamp body all' new =
    let more : List Row = body_rows node stamp body in
    All-append P rows more all'
    (All-weaker (Contains more) P
    (λ row m. let are = body_rows-are node stamp body row m in new row are.0 are.1) more (All-contains_itself more))

raised-all : (floor high : ℕ) (snapshots : List Snapshot) → floor ≤ high → All (AreBelow floor) snapshots
    → All (AreBelow high) snapshots
raised-all floor high snapshots up all' = All-weaker (AreBelow floor) (AreBelow high)
    (λ snapshot below. (let b : snapshot.stamp ≤ floor = below in omega arith)) snapshots all'

-- an item above its node's head is accepted: its link advances, and its rows are stored
pub consistent-accept : (marks : HeadsView) (snapshots : List Snapshot) (rows : List Row) (node : ℕ) (link : IntakeView)
    (body : Body) → IsConsistent marks snapshots rows → node < length marks.links
    → (link_at marks.links node).retired ≡ false → (link_at marks.links node).head < link.head
    → body_refusal body ≡ None
    → IsConsistent (advanced marks node link) snapshots (rows ++ body_rows node link.head body)
consistent-accept marks snapshots rows node link body h within here up good =
    let links : List IntakeView = marks.links in
    let new : List IntakeView = slice_set links node link in
    let l : length new ≡ length links = length-set links node link in
    let e : head_at new node ≡ link.head = ap (λ (y : IntakeView). y.head) (set-at links node link within) in
    record {
      opened = raised-all (floor_of marks) (floor_of (advanced marks node link)) snapshots
          (floor-advanced marks node link within here up) h.opened;
      row_set = row_set-body node link.head body rows good
          (λ row other m k same.
          let are : (row.node ≡ node) × (row.stamp ≡ link.head) = body_rows-are node link.head body row m in
          let under : IsUnderHead links other = All-contains (IsUnderHead links) rows other h.stored k in
          let below : other.stamp ≤ head_at links other.node = under.1 in
          let at : head_at links other.node ≡ head_at links node = ap (head_at links) (same.node ∙ are.0) in
          omega (arith, same.stamp, are.1))
          h.row_set;
      stored = under-all (IsUnderHead new) rows node link.head body
          (All-weaker (IsUnderHead links) (IsUnderHead new)
          (λ row under. under-advanced links node link row within up under) rows h.stored)
          (λ row of at.
          let f : head_at new row.node ≡ head_at new node = ap (head_at new) of in
          (omega (arith, of), omega (arith, at), omega (arith, at, up)));
    }

-- a node joins, not below the floor
pub consistent-joined : (marks : HeadsView) (snapshots : List Snapshot) (rows : List Row) (start : ℕ)
    → IsConsistent marks snapshots rows → floor_of marks ≤ start → IsConsistent (joined marks start) snapshots rows
consistent-joined marks snapshots rows start h up = record {
  opened = raised-all (floor_of marks) (floor_of (joined marks start)) snapshots (floor-joined marks start up) h.opened;
  row_set = h.row_set;
  stored = All-weaker (IsUnderHead marks.links) (IsUnderHead (marks.links ++ a_link 0 start false ∷ []))
      (λ row under. under-joined marks.links (a_link 0 start false) row under) rows h.stored;
}

-- a snapshot that is not above the floor is opened
pub consistent-open : (marks : HeadsView) (snapshots : List Snapshot) (rows : List Row) (id stamp : ℕ)
    → IsConsistent marks snapshots rows → stamp ≤ floor_of marks
    → IsConsistent marks (snapshots ++ record { id = id; stamp = stamp } ∷ []) rows
consistent-open marks snapshots rows id stamp h le = record {
  opened = All-push (AreBelow (floor_of marks)) snapshots (record { id = id; stamp = stamp }) h.opened le;
  row_set = h.row_set;
  stored = h.stored;
}

-- a snapshot is closed
pub consistent-close : (marks : HeadsView) (snapshots : List Snapshot) (rows : List Row) (id : ℕ)
    → IsConsistent marks snapshots rows
    → IsConsistent marks (without id snapshots) rows
consistent-close marks snapshots rows id h = record {
  opened = All-filter (λ snapshot. not (snapshot.id == id)) (AreBelow (floor_of marks)) snapshots h.opened;
  row_set = h.row_set;
  stored = h.stored;
}

-- rows are dropped
pub consistent-fewer : (marks : HeadsView) (snapshots : List Snapshot) (rows fewer : List Row)
    → IsConsistent marks snapshots rows
    → IsRowSet fewer → ((row : Row) → Contains fewer row → Contains rows row) → IsConsistent marks snapshots fewer
consistent-fewer marks snapshots rows fewer h apart within = record {
  opened = h.opened;
  row_set = apart;
  stored = All-weaker (Contains fewer) (IsUnderHead marks.links)
      (λ row m. All-contains (IsUnderHead marks.links) rows row h.stored (within row m))
      fewer (All-contains_itself fewer);
}

pub consistent-close_result : (marks : HeadsView) (rows : List Row) (old new : RegistryView) (id : ℕ)
    (result : Result ℕ NoSnapshot)
    → IsConsistent marks old.snapshots rows
    → IfOk result (λ stamp. (stamp_in id old.snapshots ≡ Some stamp) × (new ≡ closed id old))
    → OnErr result ((stamp_in id old.snapshots ≡ None) × (new ≡ old)) → IsConsistent marks new.snapshots rows
consistent-close_result marks rows old new id (Ok stamp) h ok err =
    subst (λ register. IsConsistent marks register.snapshots rows) (sym ok.1)
    (consistent-close marks old.snapshots rows id h)
consistent-close_result marks rows old new id (Err fault) h ok err =
    subst (λ register. IsConsistent marks register.snapshots rows) (sym err.1) h
