-- What is true of a legal past: an item that is not refused has a stamp above its node's head, so no write is accepted
-- twice, and the floor never falls, so no open snapshot is above it; and its body is allowed, so no accepted write is
-- out of the limits.
use Rattle.std.proofs.Common.{◌≡◌, ℕ, ◌+◌, ◌<◌, ◌≤◌, ◌⊎◌, List, [], ◌∷◌, ◌++◌, max, Bool, true, false, Option, Some}
use Rattle.std.proofs.Common.{None, refl, ap, sym, ◌∙◌, subst, inl, inr, arith, cond, All, Contains, ◌==◌, ◌≢◌}
use Rattle.std.proofs.Common.{if◌then◌else◌, not, nat_le, nat_lt, le-leb, le-ltb, eq-eqb, ne_eqb}
use Rattle.std.proofs.lemmas.Bool.{cond-true, cond-false, lt-leb, cases_lt, cases_eq, Decides.nat_tests}
use Rattle.std.proofs.lemmas.List.Elements.{Contains-append_cases, All-nil, All-cons, All-weaker, All-push, All-filter}
use Rattle.std.proofs.lemmas.List.Elements.{All-append, Contains-append_left, Contains-append_right}
use Rattle.hlc_values.proofs.MemberLemmas.{Contains-none, Contains-cons_cases}
use Rattle.hlc_rows.specs.{declared.row.Row.Row, declared.limits.BodyFault.BodyFault, Rows.IsSameVersion, Rows.IsRowSet}
use Rattle.hlc_node.specs.declared.item.{Item.Item, Body.Body, Body.TheVariants.Write, Body.TheVariants.Batch}
use Rattle.hlc_intake.specs.declared.intake.LinkFault.TheVariants.{Retired, NotNext, NumbersSpent, StampNotRising}
use Rattle.hlc_events.specs.declared.fault.CoreFault.{CoreFault}
use Rattle.hlc_events.specs.declared.fault.CoreFault.TheVariants.{NoNode, Link, AboveFloor, BelowHorizon}
use Rattle.hlc_node.specs.Items.{body_refusal, retires}
use Rattle.hlc_rows.proofs.WritesLemmas.{good as writes-good}
use Rattle.hlc_heads.specs.{Low.low, declared.heads.TheConstants.MAX_NODES}
use Rattle.hlc_heads.proofs.LowLemmas.{low-is, low-rises, low-joins, low-stays}
use Rattle.hlc_witness.specs.Cost.{IsInLimits, AreInLimits}
use Rattle.hlc_core.proofs.BatchLemmas.{rows_written-are, rows_written-set, rows_written-limits, row_set-append}
use Rattle.hlc_core.specs.Past.{Step, Started, Began, Took, Opened, Closed, Vacuumed, PartVacuumed, Joined, numbered}
use Rattle.hlc_core.specs.Past.{count, head, retired, top, floor, horizon, vacuumed, open_snapshots, room_refusal}
use Rattle.hlc_core.specs.Past.{open_refusal, open_after, body_rows, item_rows, writes, link_refusal, of_body}
use Rattle.hlc_core.specs.Past.{item_refusal, vacuum_refusal, IsLegal, greatest_accepted, join_refusal, join_at_refusal}
use Rattle.hlc_intake.specs.IntakeView.{IntakeView}
use Rattle.hlc_checkpoint.specs.Checkpoint.{floor_in}
use Rattle.hlc_core.proofs.BeganLemmas.{link_in-out, floor-began, began-issued, began-retired, began-row, began-under}
use Rattle.hlc_core.proofs.BeganLemmas.{began-positive}

-- a reason that is none was not found, nor any after it
pub unless-none : {A : Type 0} (b : Bool) (x : A) (rest : Option A) → (if b then Some x else rest) ≡ None
    → (b ≡ false) × (rest ≡ None)
unless-none true x rest none = absurd (cc)
unless-none false x rest none = (refl, none)

-- what is true of two numbers that are equal, and of two that are not
pub by_equal : (P : Bool → Type 0) (a b : ℕ) → (a ≡ b → P true) → ((a ≡ b → ⊥) → P false) → P (a == b)
by_equal P a b same other = elim (cases_eq a b) [
  | inl e ↦ subst P (sym (eq-eqb a b e)) (same e)
  | inr e ↦ subst P (sym (ne_eqb a b e)) (other e)
]

-- a past without its last step is legal
pub older : (step : Step) (past : List Step) → IsLegal (step ∷ past) → IsLegal past
older (Joined node start) past legal = legal.3
older _ past legal = legal.1

-- what is true of an item that is not refused
pub record IsAdmissible (has_retired : Bool) (next last : ℕ) (item : Item) : Type 0 where
  pub here : has_retired ≡ false
  pub number : item.number ≡ next
  pub left : item.number ≢ 18446744073709551615
  pub stamp : last < item.stamp
  pub limits : body_refusal item.body ≡ None

of_body-none : (fault : Option BodyFault) → of_body fault ≡ None → fault ≡ None
of_body-none None h = refl
of_body-none (Some fault) h = absurd (cc)

none_of : (a b c d : Bool) (x y z w : CoreFault) (rest : Option CoreFault)
    → (if a then Some x else if b then Some y else if c then Some z else if d then Some w else rest) ≡ None
    → (a ≡ false) × (b ≡ false) × (c ≡ false) × (d ≡ false) × (rest ≡ None)
none_of false false false false x y z w rest none = (refl, refl, refl, refl, none)
none_of _ _ _ _ x y z w rest none = absurd (cc)

pub admissible : (has_retired : Bool) (next last : ℕ) (item : Item) → link_refusal has_retired next last item ≡ None
    → IsAdmissible has_retired next last item
admissible has_retired next last item h =
    let parts = none_of has_retired (not (item.number == next)) (item.number == 18446744073709551615)
    (nat_le item.stamp last) (Link Retired) (Link (NotNext next)) (Link NumbersSpent) (Link (StampNotRising last))
    (of_body (body_refusal item.body)) h in
    record {
      here = parts.0;
      number = grind (arith, nat_tests, parts.1);
      left = grind (arith, nat_tests, parts.2);
      stamp = grind (arith, nat_tests, parts.3);
      limits = of_body-none (body_refusal item.body) parts.4;
    }

-- the node is one of the core's
pub inside : (past : List Step) (item : Item) → item_refusal past item ≡ None
    → item.node < numbered past
inside past item h =
    let out = unless-none (nat_le (numbered past) item.node) NoNode
    (link_refusal (retired item.node past) (count item.node past) (head item.node past) item) h in
    grind (arith, nat_tests, out.0)

-- at a node of the core, the item is refused as on its link
pub on_link : (past : List Step) (item : Item) → item.node < numbered past
    → item_refusal past item
    ≡ link_refusal (retired item.node past) (count item.node past) (head item.node past) item
on_link past item below = cond-false _ _ _ (lt-leb (numbered past) item.node below)

pub head-same : (n : ℕ) (item : Item) (past : List Step) → item.node ≡ n → head n (Took item ∷ past) ≡ item.stamp
head-same n item past e = cond-true _ _ _ (eq-eqb _ _ e)

pub head-other : (n : ℕ) (item : Item) (past : List Step) → (item.node ≡ n → ⊥)
    → head n (Took item ∷ past) ≡ head n past
head-other n item past e = cond-false _ _ _ (ne_eqb _ _ e)

pub retired-same : (n : ℕ) (item : Item) (past : List Step) → item.node ≡ n
    → retired n (Took item ∷ past) ≡ retires item.body
retired-same n item past e = cond-true _ _ _ (eq-eqb _ _ e)

pub retired-other : (n : ℕ) (item : Item) (past : List Step) → (item.node ≡ n → ⊥)
    → retired n (Took item ∷ past) ≡ retired n past
retired-other n item past e = cond-false _ _ _ (ne_eqb _ _ e)

pub count-other : (n : ℕ) (item : Item) (past : List Step) → (item.node ≡ n → ⊥)
    → count n (Took item ∷ past) ≡ count n past
count-other n item past e = cond-false _ _ _ (ne_eqb _ _ e)

-- a node's start is its first head
pub head-joined : (n node start : ℕ) (past : List Step) → node ≡ n → head n (Joined node start ∷ past) ≡ start
head-joined n node start past e = cond-true _ _ _ (eq-eqb _ _ e)

pub head-joined_other : (n node start : ℕ) (past : List Step) → (node ≡ n → ⊥)
    → head n (Joined node start ∷ past) ≡ head n past
head-joined_other n node start past e = cond-false _ _ _ (ne_eqb _ _ e)

-- a node that does not exist has no accepted item
pub fresh : (past : List Step) (n : ℕ) → IsLegal past → numbered past ≤ n
    → (count n past ≡ 0) × (retired n past ≡ false)
fresh [] n legal out = (refl, refl)
fresh (Started nodes ∷ past) n legal out =
    fresh past n legal.1 (let out' : numbered past + nodes ≤ n = out in omega arith)
fresh (Began kept ∷ past) n legal out =
    let e = link_in-out kept n out in
    (ap (λ (link : IntakeView). link.next) e, ap (λ (link : IntakeView). link.retired) e)
fresh (Joined node start ∷ past) n legal out =
    fresh past n legal.3 (let out' : numbered past + 1 ≤ n = out in omega arith)
fresh (Took item ∷ past) n legal out =
    let within : item.node < numbered past = inside past item legal.0 in
    let out' : numbered past ≤ n = out in
    let other : item.node ≡ n → ⊥ = λ e. omega arith in
    let rest = fresh past n legal.1 out in
    (count-other n item past other ∙ rest.0, retired-other n item past other ∙ rest.1)
fresh (_ ∷ past) n legal out = fresh past n legal.1 out

-- each row of an item has its node and its stamp
pub body_rows-are : (node stamp : ℕ) (body : Body) (row : Row) → Contains (body_rows node stamp body) row
    → (row.node ≡ node) × (row.stamp ≡ stamp)
body_rows-are node stamp (Batch writes) row m = rows_written-are node stamp writes row m
body_rows-are node stamp (Write key value) row m =
    elim (Contains-cons_cases (record { key = key; stamp = stamp; node = node; value = value }) row [] m) [
      | inl same ↦ (sym (ap (λ r. r.node) same), sym (ap (λ r. r.stamp) same))
      | inr rest ↦ absurd (Contains-none row rest)
    ]
body_rows-are node stamp _ row m = absurd (Contains-none row m)

head-up : (n : ℕ) (item : Item) (past : List Step) → head item.node past < item.stamp
    → head n past ≤ head n (Took item ∷ past)
head-up n item past up =
    by_equal (λ b. head n past ≤ cond b item.stamp (head n past)) item.node n
    (λ same. let e : head item.node past ≡ head n past = ap (λ k. head k past) same in omega arith) (λ _. omega arith)

-- an item that is not refused has a stamp above its node's head
pub rises : (past : List Step) (item : Item) → item_refusal past item ≡ None
    → head item.node past < item.stamp
rises past item h = (admissible _ _ _ item (sym (on_link past item (inside past item h)) ∙ h)).stamp

-- and its node has not retired
pub still_here : (past : List Step) (item : Item) → item_refusal past item ≡ None
    → retired item.node past ≡ false
still_here past item h =
    (admissible _ _ _ item (sym (on_link past item (inside past item h)) ∙ h)).here

-- and its body is allowed
pub good_body : (past : List Step) (item : Item) → item_refusal past item ≡ None
    → body_refusal item.body ≡ None
good_body past item h =
    (admissible _ _ _ item (sym (on_link past item (inside past item h)) ∙ h)).limits

-- no head of a node that has not retired is below the floor
pub floor-le : (past : List Step) (n : ℕ) → n < numbered past → retired n past ≡ false
    → floor past ≤ head n past
floor-le past n within here =
    (low-is (λ n. head n past) (λ n. retired n past) (numbered past) (top past)).least n within here

-- and the floor is one of those, or all have retired and it is the greatest accepted stamp
pub floor-some : (past : List Step)
    → ((n : ℕ) × (n < numbered past) × (retired n past ≡ false) × (head n past ≡ floor past))
    ⊎ (((n : ℕ) → n < numbered past → retired n past ≡ true) × (floor past ≡ top past))
floor-some past =
    (low-is (λ n. head n past) (λ n. retired n past) (numbered past) (top past)).is

-- and so it is above the floor
pub above_floor : (past : List Step) (item : Item) → item_refusal past item ≡ None
    → floor past < item.stamp
above_floor past item h =
    let low : floor past ≤ head item.node past =
    floor-le past item.node (inside past item h) (still_here past item h) in
    let up : head item.node past < item.stamp = rises past item h in omega arith

-- each accepted write is of a node that exists
pub inside-row : (past : List Step) → IsLegal past → (row : Row) → Contains (writes past) row
    → row.node < numbered past
inside-row [] legal row m = absurd (Contains-none row m)
inside-row (Started nodes ∷ past) legal row m =
    let within : row.node < numbered past = inside-row past legal.1 row m in
    let goal : row.node < numbered past + nodes = omega arith in goal
inside-row (Began kept ∷ past) legal row m =
    (began-under kept row legal.2 (began-row kept past row legal.0 m)).0
inside-row (Joined node start ∷ past) legal row m =
    let within : row.node < numbered past = inside-row past legal.3 row m in
    let goal : row.node < numbered past + 1 = omega arith in goal
inside-row (Took item ∷ past) legal row m =
    elim (Contains-append_cases (writes past) (item_rows item) row m) [
      | inl earlier ↦ inside-row past legal.1 row earlier
      | inr here ↦
          let are : (row.node ≡ item.node) × (row.stamp ≡ item.stamp) =
          body_rows-are item.node item.stamp item.body row here in
          let within : item.node < numbered past = inside past item legal.0 in
          let goal : row.node < numbered past = omega (arith, are.0) in goal
    ]
inside-row (_ ∷ past) legal row m = inside-row past legal.1 row m

-- each accepted write is at or below its node's head
pub below_head : (past : List Step) → IsLegal past → (row : Row) → Contains (writes past) row
    → row.stamp ≤ head row.node past
below_head [] legal row m = absurd (Contains-none row m)
below_head (Began kept ∷ past) legal row m =
    (began-under kept row legal.2 (began-row kept past row legal.0 m)).1
below_head (Joined node start ∷ past) legal row m =
    by_equal (λ b. row.stamp ≤ cond b start (head row.node past)) node row.node
    (λ same. absurd (let within = inside-row past legal.3 row m in omega (arith, within, legal.1)))
    (λ _. below_head past legal.3 row m)
below_head (Took item ∷ past) legal row m =
    let up : head item.node past < item.stamp = rises past item legal.0 in
    elim (Contains-append_cases (writes past) (item_rows item) row m) [
      | inl earlier ↦
          let old : row.stamp ≤ head row.node past = below_head past legal.1 row earlier in
          let g = head-up row.node item past up in omega (arith, g)
      | inr here ↦
          let are : (row.node ≡ item.node) × (row.stamp ≡ item.stamp) =
          body_rows-are item.node item.stamp item.body row here in
          let e : head row.node (Took item ∷ past) ≡ item.stamp = head-same row.node item past (sym are.0) in
          omega (arith, are.1)
    ]
below_head (_ ∷ past) legal row m = below_head past legal.1 row m

-- each accepted write has a stamp above 0.0
pub positive : (past : List Step) → IsLegal past → (row : Row) → Contains (writes past) row → 0 < row.stamp
positive [] legal row m = absurd (Contains-none row m)
positive (Began kept ∷ past) legal row m = began-positive kept row legal.2 (began-row kept past row legal.0 m)
positive (Took item ∷ past) legal row m =
    elim (Contains-append_cases (writes past) (item_rows item) row m) [
      | inl old ↦ positive past legal.1 row old
      | inr here ↦
          (let e : row.stamp ≡ item.stamp = (body_rows-are item.node item.stamp item.body row here).1 in
          let up : head item.node past < item.stamp = rises past item legal.0 in omega arith)
    ]
positive (step ∷ past) legal row m = positive past (older step past legal) row m

-- each row of an item that was accepted is an accepted write
pub took-writes : (past : List Step) (item : Item) (row : Row) → Contains past (Took item)
    → Contains (item_rows item) row → Contains (writes past) row
took-writes [] item row m r = absurd (Contains-none (Took item) m)
took-writes (Took last ∷ past) item row m r =
    elim (Contains-cons_cases (Took last) (Took item) past m) [
      | inl same ↦
          let is : last ≡ item = cc in
          Contains-append_right (writes past) (item_rows last) row
          (subst (λ x. Contains (item_rows x) row) (sym is) r)
      | inr rest ↦ Contains-append_left (writes past) (item_rows last) row (took-writes past item row rest r)
    ]
took-writes (Began kept ∷ past) item row m r =
    elim (Contains-cons_cases (Began kept) (Took item) past m) [
      | inl same ↦ absurd cc
      | inr rest ↦ Contains-append_left (writes past) kept.rows row (took-writes past item row rest r)
    ]
took-writes (step ∷ past) item row m r =
    elim (Contains-cons_cases step (Took item) past m) [
      | inl same ↦ absurd cc
      | inr rest ↦ took-writes past item row rest r
    ]

new_version : (past : List Step) (item : Item) → IsLegal past → item_refusal past item ≡ None
    → (row other : Row) → Contains (item_rows item) row → Contains (writes past) other → IsSameVersion other row → ⊥
new_version past item legal none row other m k v =
    let up : head item.node past < item.stamp = rises past item none in
    let are : (row.node ≡ item.node) × (row.stamp ≡ item.stamp) = body_rows-are item.node item.stamp item.body row m in
    let low : other.stamp ≤ head other.node past = below_head past legal other k in
    let e : head other.node past ≡ head item.node past = ap (λ j. head j past) (v.node ∙ are.0) in
    omega (arith, v.stamp, are.1)

-- the rows of a body that is not refused are a row set
body_rows-set : (node stamp : ℕ) (body : Body) → body_refusal body ≡ None → IsRowSet (body_rows node stamp body)
body_rows-set node stamp (Write key value) good = ((λ other m same. Contains-none other m), tt)
body_rows-set node stamp (Batch writes) good = rows_written-set node stamp writes (writes-good writes good).once
body_rows-set node stamp _ good = tt

-- the rows of an item are added to others that are not versions of them
pub row_set-body : (node stamp : ℕ) (body : Body) (rows : List Row) → body_refusal body ≡ None
    → ((row other : Row) → Contains (body_rows node stamp body) row → Contains rows other → IsSameVersion other row → ⊥)
    → IsRowSet rows → IsRowSet (rows ++ body_rows node stamp body)
row_set-body node stamp body rows good fresh set' =
    row_set-append rows (body_rows node stamp body) set' (body_rows-set node stamp body good) fresh

-- no two accepted writes are alike in key, stamp and node
pub writes-row_set : (past : List Step) → IsLegal past → IsRowSet (writes past)
writes-row_set [] legal = tt
writes-row_set (Began kept ∷ past) legal =
    subst (λ (p : List Step). IsRowSet (writes p ++ kept.rows)) (sym legal.0) legal.2.store.consistent.row_set
writes-row_set (Took item ∷ past) legal =
    row_set-body item.node item.stamp item.body (writes past) (good_body past item legal.0)
    (new_version past item legal.1 legal.0) (writes-row_set past legal.1)
writes-row_set (step ∷ past) legal = writes-row_set past (older step past legal)

-- the rows of a body that is not refused are in the limits
body_rows-limits : (node stamp : ℕ) (body : Body) → body_refusal body ≡ None → AreInLimits (body_rows node stamp body)
body_rows-limits node stamp (Write key value) good =
    All-cons IsInLimits (record { key = key; stamp = stamp; node = node; value = value }) [] good (All-nil _)
body_rows-limits node stamp (Batch writes) good = rows_written-limits node stamp writes (writes-good writes good).none
body_rows-limits node stamp _ good = All-nil _

-- the rows of an item are added to others that are in the limits
pub limits-body : (node stamp : ℕ) (body : Body) (rows : List Row) → body_refusal body ≡ None → AreInLimits rows
    → AreInLimits (rows ++ body_rows node stamp body)
limits-body node stamp body rows good all' =
    All-append IsInLimits rows (body_rows node stamp body) all' (body_rows-limits node stamp body good)

-- the keys and values of all accepted writes are in the limits
pub writes-limits : (past : List Step) → IsLegal past → AreInLimits (writes past)
writes-limits [] legal = All-nil _
writes-limits (Began kept ∷ past) legal =
    subst (λ (p : List Step). AreInLimits (writes p ++ kept.rows)) (sym legal.0) legal.2.store.sound.limits
writes-limits (Took item ∷ past) legal =
    limits-body item.node item.stamp item.body (writes past) (good_body past item legal.0)
    (writes-limits past legal.1)
writes-limits (step ∷ past) legal = writes-limits past (older step past legal)

-- the floor never falls: not with an item
pub floor-grows : (past : List Step) (item : Item) → item_refusal past item ≡ None
    → floor past ≤ floor (Took item ∷ past)
floor-grows past item none =
    low-rises (λ n. head n past) (λ n. head n (Took item ∷ past)) (λ n. retired n past)
    (λ n. retired n (Took item ∷ past)) (numbered past) (top past) (top (Took item ∷ past)) item.node item.stamp
    (inside past item none) (still_here past item none) (rises past item none)
    (head-same item.node item past refl)
    (λ k other. (
      head-other k item past (λ e. other (sym e)),
      retired-other k item past (λ e. other (sym e)),
    ))
    (let e : top (Took item ∷ past) ≡ max (top past) item.stamp = refl in omega arith)

-- nor with a node that joins at or above it
pub floor-joins : (past : List Step) (node start : ℕ) → node ≡ numbered past
    → floor past ≤ start → floor past ≤ floor (Joined node start ∷ past)
floor-joins past node start is up =
    let at : head (numbered past) (Joined node start ∷ past) ≡ start =
    head-joined (numbered past) node start past is in
    low-joins (λ n. head n past) (λ n. head n (Joined node start ∷ past)) (λ n. retired n past)
    (λ n. retired n (Joined node start ∷ past)) (numbered past) (top past) (max (top past) start)
    (omega arith) (omega arith)
    (λ k within. (head-joined_other k node start past (λ e. omega (arith, is)), refl))

-- and it does not move if some node has not retired
pub floor-stays : (past : List Step) (node start n : ℕ) → node ≡ numbered past
    → floor past ≤ start → n < numbered past → retired n past ≡ false
    → floor (Joined node start ∷ past) ≡ floor past
floor-stays past node start n is up within here =
    let at : head (numbered past) (Joined node start ∷ past) ≡ start =
    head-joined (numbered past) node start past is in
    low-stays (λ n. head n past) (λ n. head n (Joined node start ∷ past)) (λ n. retired n past)
    (λ n. retired n (Joined node start ∷ past)) (numbered past) (top past) (max (top past) start) n within here
    (omega arith) (λ k within. (head-joined_other k node start past (λ e. omega (arith, is)), refl))

-- a stamp that is not refused is between these
open_after-none : (most least : ℕ) (room : Option CoreFault) (stamp : ℕ) → open_after most least room stamp ≡ None
    → (stamp ≤ most) × (least ≤ stamp)
open_after-none most least room stamp none =
    let high = unless-none (nat_lt most stamp) (AboveFloor most)
    (if nat_lt stamp least then Some (BelowHorizon least) else room) none in
    let low = unless-none (nat_lt stamp least) (BelowHorizon least) room high.1 in
    (grind (arith, nat_tests, high.0), grind (arith, nat_tests, low.0))

-- a stamp at which an opening is not refused is not above the floor
pub open-below : (past : List Step) (stamp : ℕ) → open_refusal past stamp ≡ None
    → stamp ≤ floor past
open-below past stamp none = (open_after-none _ _ _ stamp none).0

-- no open snapshot is above the floor
pub open-low : (past : List Step) → IsLegal past
    → All (λ snapshot. snapshot.stamp ≤ floor past) (open_snapshots past)
open-low [] legal = All-nil _
open-low (Took item ∷ past) legal =
    let up : floor past ≤ floor (Took item ∷ past) = floor-grows past item legal.0 in
    All-weaker (λ snapshot. snapshot.stamp ≤ floor past)
    (λ snapshot. snapshot.stamp ≤ floor (Took item ∷ past))
    (λ snapshot low. (let low' : snapshot.stamp ≤ floor past = low in omega arith)) _
    (open-low past legal.1)
open-low (Opened stamp ∷ past) legal = All-push (λ snapshot. snapshot.stamp ≤ floor past) _ _
    (open-low past legal.1) (open-below past stamp legal.0)
open-low (Started nodes ∷ past) legal = rw legal.0 (All-nil _)
open-low (Closed id ∷ past) legal =
    All-filter _ (λ snapshot. snapshot.stamp ≤ floor past) _ (open-low past legal.1)
open-low (Began kept ∷ past) legal =
    subst (λ f. All (λ snapshot. snapshot.stamp ≤ f) kept.snapshots) (sym (floor-began kept past))
    legal.2.store.consistent.opened
open-low (Joined node start ∷ past) legal =
    let up : floor past ≤ floor (Joined node start ∷ past) =
    floor-joins past node start legal.1 legal.2 in
    All-weaker (λ snapshot. snapshot.stamp ≤ floor past)
    (λ snapshot. snapshot.stamp ≤ floor (Joined node start ∷ past))
    (λ snapshot low. (let low' : snapshot.stamp ≤ floor past = low in omega arith)) _
    (open-low past legal.3)
open-low (_ ∷ past) legal = open-low past legal.1

-- nor below the horizon
pub open-above : (past : List Step) (stamp : ℕ) → open_refusal past stamp ≡ None
    → horizon past ≤ stamp
open-above past stamp none = (open_after-none _ _ _ stamp none).1

-- a stamp to which a vacuum is not refused is not above the floor
pub vacuum-below : (past : List Step) (at : ℕ) → vacuum_refusal past at ≡ None → at ≤ floor past
vacuum-below past at none = (open_after-none _ _ _ at none).0

-- nor below the horizon
pub vacuum-above : (past : List Step) (at : ℕ) → vacuum_refusal past at ≡ None → horizon past ≤ at
vacuum-above past at none = (open_after-none _ _ _ at none).1

-- and a stamp between them is not refused
pub vacuum-none : (past : List Step) (at : ℕ) → at ≤ floor past → horizon past ≤ at
    → vacuum_refusal past at ≡ None
vacuum-none past at low high = cond-false _ _ _ (le-ltb (floor past) at low)
    ∙ cond-false _ _ _ (le-ltb at (horizon past) high)

-- the horizon is not above the floor
pub horizon-low : (past : List Step) → IsLegal past → horizon past ≤ floor past
horizon-low [] legal = omega arith
horizon-low (Took item ∷ past) legal =
    omega (arith, horizon-low past legal.1, floor-grows past item legal.0)
horizon-low (Started nodes ∷ past) legal = rw legal.0 (omega arith)
horizon-low (Vacuumed at ∷ past) legal = vacuum-below past at legal.0
horizon-low (Began kept ∷ past) legal =
    let e : floor (Began kept ∷ past) ≡ floor_in kept = floor-began kept past in
    let low : kept.horizon ≤ floor_in kept = legal.2.store.sound.horizon in
    let goal : kept.horizon ≤ floor (Began kept ∷ past) = omega arith in goal
horizon-low (PartVacuumed at dropped ∷ past) legal = vacuum-below past at legal.0
horizon-low (Joined node start ∷ past) legal =
    omega (arith, horizon-low past legal.3, floor-joins past node start legal.1 legal.2)
horizon-low (_ ∷ past) legal = horizon-low past legal.1

-- nor is the stamp of the last whole vacuum above the horizon
pub vacuumed-low : (past : List Step) → IsLegal past → vacuumed past ≤ horizon past
vacuumed-low [] legal = omega arith
vacuumed-low (Vacuumed at ∷ past) legal = omega arith
vacuumed-low (Began kept ∷ past) legal =
    let none : vacuumed past ≡ 0 = ap vacuumed legal.0 in
    let goal : vacuumed past ≤ kept.horizon = omega arith in goal
vacuumed-low (PartVacuumed at dropped ∷ past) legal =
    let low : vacuumed past ≤ horizon past = vacuumed-low past legal.1 in
    let up : horizon past ≤ at = vacuum-above past at legal.0 in
    let goal : vacuumed past ≤ at = omega arith in goal
vacuumed-low (step ∷ past) legal = vacuumed-low past (older step past legal)

-- an item that is accepted is above the horizon
pub above-horizon : (past : List Step) (item : Item) → IsLegal past
    → item_refusal past item ≡ None → horizon past < item.stamp
above-horizon past item legal none =
    omega (arith, horizon-low past legal, above_floor past item none)

-- a stamp that is neither above the floor nor below the horizon is refused only if no more snapshot can be opened
pub open-room : (past : List Step) (stamp : ℕ) → stamp ≤ floor past → horizon past ≤ stamp
    → open_refusal past stamp ≡ room_refusal past
open-room past stamp low high = cond-false _ _ _ (le-ltb (floor past) stamp low)
    ∙ cond-false _ _ _ (le-ltb stamp (horizon past) high)

-- the greatest accepted stamp is not above the top, which also counts starts
pub accepted-low : (past : List Step) → IsLegal past → greatest_accepted past ≤ top past
accepted-low [] legal = omega arith
accepted-low (Took item ∷ past) legal = omega (arith, accepted-low past legal.1)
accepted-low (Began kept ∷ past) legal = began-issued kept legal.2
accepted-low (Joined node start ∷ past) legal = omega (arith, accepted-low past legal.3)
accepted-low (_ ∷ past) legal = accepted-low past legal.1

-- a node that has retired issued its head
pub retired-head : (past : List Step) (n : ℕ) → IsLegal past → retired n past ≡ true
    → head n past ≤ greatest_accepted past
retired-head [] n legal has_retired = omega arith
retired-head (Began kept ∷ past) n legal has_retired = began-retired kept n legal.2 has_retired
retired-head (Joined node start ∷ past) n legal has_retired =
    by_equal (λ b. cond b start (head n past) ≤ greatest_accepted past) node n
    (λ same. let none = fresh past n legal.3 (omega (arith, legal.1)) in
    absurd (let e : false ≡ true = sym none.1 ∙ has_retired in cc)) (λ _. retired-head past n legal.3 has_retired)
retired-head (Took item ∷ past) n legal has_retired =
    by_equal (λ b. cond b (retires item.body) (retired n past) ≡ true
    → cond b item.stamp (head n past) ≤ max (greatest_accepted past) item.stamp) item.node n
    (λ _ _. omega arith) (λ _ old. omega (arith, retired-head past n legal.1 old)) has_retired
retired-head (_ ∷ past) n legal has_retired = retired-head past n legal.1 has_retired

-- a join at the floor does not move it
pub floor-at_floor : (past : List Step) (node : ℕ) → IsLegal past → node ≡ numbered past
    → floor (Joined node (floor past) ∷ past) ≡ floor past
floor-at_floor past node legal is =
    let start : ℕ = floor past in
    let up : floor past ≤ floor (Joined node start ∷ past) =
    floor-joins past node start is (omega arith) in
    let at : head node (Joined node start ∷ past) ≡ start = head-joined node node start past refl in
    let within : node < numbered past + 1 = omega arith in
    let here = fresh past node legal (omega arith) in
    let low : floor (Joined node start ∷ past) ≤ head node (Joined node start ∷ past) =
    floor-le (Joined node start ∷ past) node within here.1 in omega arith

-- and is refused as a join without a start
pub join-at_floor : (past : List Step)
    → join_at_refusal past (floor past) ≡ join_refusal past
join-at_floor past =
    elim (cases_lt (numbered past) MAX_NODES) [
      | inl few ↦
          let f = lt-leb MAX_NODES (numbered past) few in
          cond-false _ _ _ f ∙ cond-false _ _ _ (le-ltb (floor past) (floor past) (omega arith))
          ∙ sym (cond-false _ _ _ f)
      | inr full ↦ let f = le-leb MAX_NODES (numbered past) full in cond-true _ _ _ f ∙ sym (cond-true _ _ _ f)
    ]
