-- A node's link follows from its items and its start, so it is alike in all replicas, as are the floor and the rows. Of
-- replicas that lag both can go on until they are replicas, and no answer up to the floor of either changes on the way.
use Rattle.std.proofs.Common.{◌≡◌, ℕ, ◌+◌, ◌<◌, ◌≤◌, Bool, false, List, [], ◌∷◌, length, Contains, None, ◌⊎◌, ◌++◌}
use Rattle.std.proofs.Common.{refl, ap, sym, ◌∙◌, subst, inl, inr, arith}
use Rattle.std.specs.Prelude.{◌==◌, if◌then◌else◌, Option, Some, nat_le, nat_lt}
use Rattle.std.proofs.lemmas.Bool.{cond-true, cond-false, eq-eqb, ne_eqb, cases_eq}
use Rattle.std.proofs.lemmas.List.Elements.{Contains-append_left, Contains-append_right, Contains-append_cases}
use Rattle.hlc_values.proofs.MemberLemmas.{Contains-first, Contains-rest, Contains-cons_cases, Contains-none}
use Rattle.hlc_rows.specs.{declared.row.Row.Row, Rows.answer}
use Rattle.hlc_node.specs.{declared.item.Item.Item, Items.retires}
use Rattle.hlc_heads.proofs.LowLemmas.{low-same}
use Rattle.hlc_snapshot.specs.RegistryView.{stamps}
use Rattle.hlc_vacuum_draft.proofs.PartLemmas.{same_rows}
use Rattle.hlc_heads.specs.declared.heads.TheConstants.{MAX_NODES}
use Rattle.hlc_events.specs.declared.fault.CoreFault.{CoreFault, TheVariants.Join}
use Rattle.hlc_heads.specs.declared.heads.JoinFault.TheVariants.{TooManyNodes, BelowFloor}
use Rattle.hlc_core.specs.Past.{Step, Started, Began, Took, Opened, Closed, Vacuumed, PartVacuumed, Joined, numbered}
use Rattle.hlc_core.specs.Past.{count, head, retired, top, floor, horizon, open_snapshots, writes, item_rows}
use Rattle.hlc_core.specs.Past.{initial_nodes, link_in, item_refusal, join_at_refusal, IsLegal}
use Rattle.hlc_core.specs.StoreView.{StoreView, Represents}
use Rattle.hlc_core.specs.Replicas.{items_of, joins_of, begun, AreReplicas, CanMeet}
use Rattle.hlc_core.proofs.PastLemmas.{inside, head-same, head-other, head-joined, head-joined_other, retired-same}
use Rattle.hlc_core.proofs.PastLemmas.{retired-other, count-other, body_rows-are, writes-row_set}
use Rattle.hlc_core.proofs.CheckpointLemmas.{heads-low, top-at}
use Rattle.hlc_core.proofs.StayLemmas.{answers-stay}

pub items-same : (n : ℕ) (item : Item) (past : List Step) → item.node ≡ n
    → items_of n (Took item ∷ past) ≡ item ∷ items_of n past
items-same n item past e = cond-true _ _ _ (eq-eqb _ _ e)

pub items-other : (n : ℕ) (item : Item) (past : List Step) → (item.node ≡ n → ⊥)
    → items_of n (Took item ∷ past) ≡ items_of n past
items-other n item past e = cond-false _ _ _ (ne_eqb _ _ e)

-- no item is of a node that does not exist
items-none : (past : List Step) (n : ℕ) → IsLegal past → numbered past ≤ n
    → items_of n past ≡ []
items-none [] n legal out = refl
items-none (Opened stamp ∷ past) n legal out = items-none past n legal.1 out
items-none (Started nodes ∷ past) n legal out =
    items-none past n legal.1 (let out' : numbered past + nodes ≤ n = out in omega arith)
items-none (Closed id ∷ past) n legal out = items-none past n legal.1 out
items-none (Vacuumed at ∷ past) n legal out = items-none past n legal.1 out
items-none (Began kept ∷ past) n legal out =
    subst (λ (p : List Step). items_of n p ≡ []) (sym legal.0) refl
items-none (PartVacuumed at dropped ∷ past) n legal out = items-none past n legal.1 out
items-none (Joined node start ∷ past) n legal out =
    items-none past n legal.3 (let out' : numbered past + 1 ≤ n = out in omega arith)
items-none (Took item ∷ past) n legal out =
    let within : item.node < numbered past = inside past item legal.0 in
    let out' : numbered past ≤ n = out in
    items-other n item past (λ e. omega arith) ∙ items-none past n legal.1 out

-- What a past begins with: of a node its start, or its head in the state; whether it retired there; the number of its
-- items; of all the number of node numbers, and the rows.
abbrev start_in : ℕ → List (ℕ × ℕ) → List StoreView → ℕ
start_in n [] [] = 0
start_in n [] (kept ∷ earlier) = (link_in kept n).head
start_in n (join ∷ joins) start = if join.0 == n then join.1 else start_in n joins start

abbrev ended_by : ℕ → List Item → List StoreView → Bool
ended_by n [] [] = false
ended_by n [] (kept ∷ earlier) = (link_in kept n).retired
ended_by n (item ∷ items) start = retires item.body

abbrev counted : ℕ → List StoreView → ℕ
counted n [] = 0
counted n (kept ∷ earlier) = (link_in kept n).next

abbrev based : ℕ → List StoreView → ℕ
based nodes [] = nodes
based nodes (kept ∷ earlier) = length kept.links

abbrev rows_begun : List StoreView → List Row
rows_begun [] = []
rows_begun (kept ∷ earlier) = rows_begun earlier ++ kept.rows

-- the head of a node, from its items and the joins
abbrev last_head : ℕ → List Item → List (ℕ × ℕ) → List StoreView → ℕ
last_head n [] joins start = start_in n joins start
last_head n (item ∷ items) joins start = item.stamp

head-skips : (n node at : ℕ) (items : List Item) (joins : List (ℕ × ℕ)) (start : List StoreView) → (node ≡ n → ⊥)
    → last_head n items ((node, at) ∷ joins) start ≡ last_head n items joins start
head-skips n node at [] joins start e = cond-false _ _ _ (ne_eqb _ _ e)
head-skips n node at (item ∷ items) joins start e = refl

head-by : (past : List Step) (n : ℕ) → IsLegal past
    → head n past ≡ last_head n (items_of n past) (joins_of past) (begun past)
head-by [] n legal = refl
head-by (Opened stamp ∷ past) n legal = head-by past n legal.1
head-by (Started nodes ∷ past) n legal = head-by past n legal.1
head-by (Began kept ∷ past) n legal =
    subst (λ (p : List Step). (link_in kept n).head ≡ last_head n (items_of n p) (joins_of p) (kept ∷ begun p))
    (sym legal.0) refl
head-by (Closed id ∷ past) n legal = head-by past n legal.1
head-by (Vacuumed at ∷ past) n legal = head-by past n legal.1
head-by (PartVacuumed at dropped ∷ past) n legal = head-by past n legal.1
head-by (Joined node start ∷ past) n legal =
    elim (cases_eq node n) [
      | inl same ↦
          let out : numbered past ≤ n = (let is : node ≡ numbered past = legal.1 in omega arith) in
          let none = items-none past n legal.3 out in
          head-joined n node start past same
          ∙ sym (ap (λ items. last_head n items ((node, start) ∷ joins_of past) (begun past)) none
          ∙ cond-true _ _ _ (eq-eqb _ _ same))
      | inr other ↦
          head-joined_other n node start past other ∙ head-by past n legal.3
          ∙ sym (head-skips n node start (items_of n past) (joins_of past) (begun past) other)
    ]
head-by (Took item ∷ past) n legal =
    elim (cases_eq item.node n) [
      | inl same ↦ head-same n item past same
          ∙ sym (ap (λ items. last_head n items (joins_of past) (begun past)) (items-same n item past same))
      | inr other ↦ head-other n item past other ∙ head-by past n legal.1
          ∙ sym (ap (λ items. last_head n items (joins_of past) (begun past)) (items-other n item past other))
    ]

-- a node retired if its last accepted item is its last one
retired-by : (past : List Step) (n : ℕ) → IsLegal past
    → retired n past ≡ ended_by n (items_of n past) (begun past)
retired-by [] n legal = refl
retired-by (Opened stamp ∷ past) n legal = retired-by past n legal.1
retired-by (Started nodes ∷ past) n legal = retired-by past n legal.1
retired-by (Began kept ∷ past) n legal =
    subst (λ (p : List Step). (link_in kept n).retired ≡ ended_by n (items_of n p) (kept ∷ begun p)) (sym legal.0)
    refl
retired-by (Closed id ∷ past) n legal = retired-by past n legal.1
retired-by (Vacuumed at ∷ past) n legal = retired-by past n legal.1
retired-by (PartVacuumed at dropped ∷ past) n legal = retired-by past n legal.1
retired-by (Joined node start ∷ past) n legal = retired-by past n legal.3
retired-by (Took item ∷ past) n legal =
    elim (cases_eq item.node n) [
      | inl same ↦ retired-same n item past same
          ∙ sym (ap (λ items. ended_by n items (begun past)) (items-same n item past same))
      | inr other ↦ retired-other n item past other ∙ retired-by past n legal.1
          ∙ sym (ap (λ items. ended_by n items (begun past)) (items-other n item past other))
    ]

count-by : (past : List Step) (n : ℕ) → IsLegal past
    → count n past ≡ counted n (begun past) + length (items_of n past)
count-by [] n legal = omega arith
count-by (Opened stamp ∷ past) n legal = count-by past n legal.1
count-by (Started nodes ∷ past) n legal = count-by past n legal.1
count-by (Began kept ∷ past) n legal =
    subst (λ (p : List Step). (link_in kept n).next ≡ (link_in kept n).next + length (items_of n p)) (sym legal.0)
    (omega arith)
count-by (Closed id ∷ past) n legal = count-by past n legal.1
count-by (Vacuumed at ∷ past) n legal = count-by past n legal.1
count-by (PartVacuumed at dropped ∷ past) n legal = count-by past n legal.1
count-by (Joined node start ∷ past) n legal = count-by past n legal.3
count-by (Took item ∷ past) n legal =
    let old : count n past ≡ counted n (begun past) + length (items_of n past) = count-by past n legal.1 in
    elim (cases_eq item.node n) [
      | inl same ↦
          let a : count n (Took item ∷ past) ≡ count n past + 1 =
          cond-true (item.node == n) (count n past + 1) (count n past) (eq-eqb _ _ same) in
          let b : length (items_of n (Took item ∷ past)) ≡ length (item ∷ items_of n past) =
          ap length (items-same n item past same) in
          let goal : count n (Took item ∷ past)
          ≡ counted n (begun past) + length (items_of n (Took item ∷ past)) = omega arith in goal
      | inr other ↦
          let a : count n (Took item ∷ past) ≡ count n past = count-other n item past other in
          let b : length (items_of n (Took item ∷ past)) ≡ length (items_of n past) =
          ap length (items-other n item past other) in
          let goal : count n (Took item ∷ past)
          ≡ counted n (begun past) + length (items_of n (Took item ∷ past)) = omega arith in goal
    ]

numbered-by : (past : List Step) → IsLegal past
    → numbered past ≡ based (initial_nodes past) (begun past) + length (joins_of past)
numbered-by [] legal = omega arith
numbered-by (Took item ∷ past) legal = numbered-by past legal.1
numbered-by (Opened stamp ∷ past) legal = numbered-by past legal.1
numbered-by (Started nodes ∷ past) legal = rw legal.0 (omega arith)
numbered-by (Began kept ∷ past) legal = rw legal.0 (omega arith)
numbered-by (Closed id ∷ past) legal = numbered-by past legal.1
numbered-by (Vacuumed at ∷ past) legal = numbered-by past legal.1
numbered-by (PartVacuumed at dropped ∷ past) legal = numbered-by past legal.1
numbered-by (Joined node start ∷ past) legal = (let h = numbered-by past legal.3 in omega (arith, h))

numbered-same : (past other : List Step) → IsLegal past → IsLegal other → begun past ≡ begun other
    → initial_nodes past ≡ initial_nodes other → joins_of past ≡ joins_of other → numbered past ≡ numbered other
numbered-same past other legal legal' start nodes joins =
    numbered-by past legal ∙ ap (λ js. based (initial_nodes past) (begun past) + length js) joins
    ∙ ap (λ many. based many (begun past) + length (joins_of other)) nodes
    ∙ ap (λ from. based (initial_nodes other) from + length (joins_of other)) start ∙ sym (numbered-by other legal')

head-agrees : (past other : List Step) (n : ℕ) → IsLegal past → IsLegal other → begun past ≡ begun other
    → joins_of past ≡ joins_of other → items_of n past ≡ items_of n other → head n past ≡ head n other
head-agrees past other n legal legal' start joins items =
    head-by past n legal ∙ ap (λ js. last_head n (items_of n past) js (begun past)) joins
    ∙ ap (λ is. last_head n is (joins_of other) (begun past)) items
    ∙ ap (last_head n (items_of n other) (joins_of other)) start ∙ sym (head-by other n legal')

retired-agrees : (past other : List Step) (n : ℕ) → IsLegal past → IsLegal other → begun past ≡ begun other
    → items_of n past ≡ items_of n other → retired n past ≡ retired n other
retired-agrees past other n legal legal' start items =
    retired-by past n legal ∙ ap (λ is. ended_by n is (begun past)) items ∙ ap (ended_by n (items_of n other)) start
    ∙ sym (retired-by other n legal')

count-agrees : (past other : List Step) (n : ℕ) → IsLegal past → IsLegal other → begun past ≡ begun other
    → items_of n past ≡ items_of n other → count n past ≡ count n other
count-agrees past other n legal legal' start items =
    count-by past n legal ∙ ap (λ is. counted n (begun past) + length is) items
    ∙ ap (λ from. counted n from + length (items_of n other)) start ∙ sym (count-by other n legal')

-- an item is refused alike if the starts and the items of its node are the same
pub refusals-agree : (past other : List Step) (item : Item) → IsLegal past → IsLegal other → begun past ≡ begun other
    → initial_nodes past ≡ initial_nodes other → joins_of past ≡ joins_of other
    → items_of item.node past ≡ items_of item.node other
    → item_refusal past item ≡ item_refusal other item
refusals-agree past other item legal legal' start nodes joins items =
    rw (
      numbered-same past other legal legal' start nodes joins,
      retired-agrees past other item.node legal legal' start items,
      count-agrees past other item.node legal legal' start items,
      head-agrees past other item.node legal legal' start joins items,
    ) refl

top-le : (past other : List Step) → 0 < initial_nodes past → IsLegal past → IsLegal other
    → ((n : ℕ) → head n past ≡ head n other) → top past ≤ top other
top-le past other some legal legal' same =
    let one = top-at past some legal in
    let at : head one.0 past ≡ top past = one.2 in
    let e : head one.0 past ≡ head one.0 other = same one.0 in
    let low : head one.0 other ≤ top other = heads-low other legal' one.0 in omega arith

-- the floor is the same
pub floors-agree : (past other : List Step) → 0 < initial_nodes past → IsLegal past → IsLegal other
    → AreReplicas past other → floor past ≡ floor other
floors-agree past other some legal legal' are =
    let heads : (n : ℕ) → head n past ≡ head n other =
    λ n. head-agrees past other n legal legal' are.begun are.joins (are.items n) in
    let a : top past ≤ top other = top-le past other some legal legal' heads in
    let b : top other ≤ top past =
    top-le other past (rw (← are.initial_nodes) some) legal' legal (λ n. sym (heads n)) in
    let tops : top past ≡ top other = omega arith in
    low-same (λ k. head k past) (λ k. head k other) (λ k. retired k past) (λ k. retired k other) (numbered past)
    (numbered other) (top past) (top other)
    (numbered-same past other legal legal' are.begun are.initial_nodes are.joins) tops
    (λ k within. (heads k, retired-agrees past other k legal legal' are.begun (are.items k)))

-- why no node joins at a start, from the number of assigned node numbers and the floor
abbrev refusal_of : ℕ → ℕ → ℕ → Option CoreFault
refusal_of many low start =
    if nat_le MAX_NODES many then Some (Join TooManyNodes)
    else if nat_lt start low then Some (Join (BelowFloor low)) else None

-- so a join at a start is refused alike
pub joins-agree : (past other : List Step) (start : ℕ) → 0 < initial_nodes past → IsLegal past
    → IsLegal other → AreReplicas past other
    → join_at_refusal past start ≡ join_at_refusal other start
joins-agree past other start some legal legal' are =
    ap (λ many. refusal_of many (floor past) start) (numbered-same past other legal legal' are.begun are.initial_nodes
    are.joins)
    ∙ ap (λ low. refusal_of (numbered other) low start) (floors-agree past other some legal legal' are)

-- the row is of the state that the past begins with, or of an item of its node
abbrev IsFrom : List Step → Row → Type 0
IsFrom past row =
    Contains (rows_begun (begun past)) row
    ⊎ ((item : Item) × Contains (items_of row.node past) item × Contains (item_rows item) row)

-- each accepted write is
writes-from : (past : List Step) (row : Row) → Contains (writes past) row → IsFrom past row
writes-from [] row m = absurd (Contains-none row m)
writes-from (Opened stamp ∷ past) row m = writes-from past row m
writes-from (Started nodes ∷ past) row m = writes-from past row m
writes-from (Began kept ∷ past) row m =
    elim (Contains-append_cases (writes past) kept.rows row m) [
      | inl earlier ↦
          elim (writes-from past row earlier) [
            | inl began ↦ inl (Contains-append_left (rows_begun (begun past)) kept.rows row began)
            | inr found ↦ inr found
          ]
      | inr here ↦ inl (Contains-append_right (rows_begun (begun past)) kept.rows row here)
    ]
writes-from (Closed id ∷ past) row m = writes-from past row m
writes-from (Vacuumed at ∷ past) row m = writes-from past row m
writes-from (PartVacuumed at dropped ∷ past) row m = writes-from past row m
writes-from (Joined node start ∷ past) row m = writes-from past row m
writes-from (Took item ∷ past) row m =
    elim (Contains-append_cases (writes past) (item_rows item) row m) [
      | inl earlier ↦
          elim (writes-from past row earlier) [
            | inl began ↦ inl began
            | inr found ↦ inr (
              found.0,
              elim (cases_eq item.node row.node) [
                | inl same ↦ subst (λ items. Contains items found.0) (sym (items-same row.node item past same))
                    (Contains-rest item found.0 (items_of row.node past) found.1)
                | inr other ↦
                    subst (λ items. Contains items found.0) (sym (items-other row.node item past other)) found.1
              ],
              found.2,
            )
          ]
      | inr here ↦
          let are : (row.node ≡ item.node) × (row.stamp ≡ item.stamp) =
          body_rows-are item.node item.stamp item.body row here in
          inr (
            item,
            subst (λ items. Contains items item) (sym (items-same row.node item past (sym are.0)))
                (Contains-first item (items_of row.node past)),
            here,
          )
    ]

-- and each row of the state is an accepted write
begun-to : (past : List Step) (row : Row) → Contains (rows_begun (begun past)) row → Contains (writes past) row
begun-to [] row m = absurd (Contains-none row m)
begun-to (Opened stamp ∷ past) row m = begun-to past row m
begun-to (Started nodes ∷ past) row m = begun-to past row m
begun-to (Began kept ∷ past) row m =
    elim (Contains-append_cases (rows_begun (begun past)) kept.rows row m) [
      | inl earlier ↦ Contains-append_left (writes past) kept.rows row (begun-to past row earlier)
      | inr here ↦ Contains-append_right (writes past) kept.rows row here
    ]
begun-to (Closed id ∷ past) row m = begun-to past row m
begun-to (Vacuumed at ∷ past) row m = begun-to past row m
begun-to (PartVacuumed at dropped ∷ past) row m = begun-to past row m
begun-to (Joined node start ∷ past) row m = begun-to past row m
begun-to (Took item ∷ past) row m = Contains-append_left (writes past) (item_rows item) row (begun-to past row m)

-- and the row of each item of a node is an accepted write
writes-to : (past : List Step) (n : ℕ) (item : Item) (row : Row) → Contains (items_of n past) item
    → Contains (item_rows item) row → Contains (writes past) row
writes-to [] n item row m r = absurd (Contains-none item m)
writes-to (Opened stamp ∷ past) n item row m r = writes-to past n item row m r
writes-to (Started nodes ∷ past) n item row m r = writes-to past n item row m r
writes-to (Closed id ∷ past) n item row m r = writes-to past n item row m r
writes-to (Vacuumed at ∷ past) n item row m r = writes-to past n item row m r
writes-to (Began kept ∷ past) n item row m r =
    Contains-append_left (writes past) kept.rows row (writes-to past n item row m r)
writes-to (PartVacuumed at dropped ∷ past) n item row m r = writes-to past n item row m r
writes-to (Joined node start ∷ past) n item row m r = writes-to past n item row m r
writes-to (Took last ∷ past) n item row m r =
    elim (cases_eq last.node n) [
      | inl same ↦
          elim (Contains-cons_cases last item (items_of n past)
          (subst (λ items. Contains items item) (items-same n last past same) m)) [
            | inl here ↦ Contains-append_right (writes past) (item_rows last) row
                (subst (λ x. Contains (item_rows x) row) (sym here) r)
            | inr earlier ↦ Contains-append_left (writes past) (item_rows last) row
                (writes-to past n item row earlier r)
          ]
      | inr other ↦ Contains-append_left (writes past) (item_rows last) row
          (writes-to past n item row (subst (λ items. Contains items item) (items-other n last past other) m) r)
    ]

writes-part : (past other : List Step) → begun past ≡ begun other
    → ((n : ℕ) → items_of n past ≡ items_of n other) → (row : Row) → Contains (writes past) row
    → Contains (writes other) row
writes-part past other start items row m =
    elim (writes-from past row m) [
      | inl began ↦ begun-to other row (subst (λ from. Contains (rows_begun from) row) start began)
      | inr found ↦
          writes-to other row.node found.0 row (subst (λ is. Contains is found.0) (items row.node) found.1) found.2
    ]

-- the accepted writes answer alike
pub answers-agree : (past other : List Step) → IsLegal past → AreReplicas past other
    → (key : List ℕ) (stamp : ℕ) → answer (writes past) key stamp ≡ answer (writes other) key stamp
answers-agree past other legal are =
    same_rows (writes past) (writes other) (writes-row_set past legal) (writes-part past other are.begun are.items)
    (writes-part other past (sym are.begun) (λ n. sym (are.items n)))

-- and so do the stores, at each stamp from both horizons on
pub stores-agree : (kept copy : StoreView) (past other : List Step) → Represents kept past → Represents copy other
    → AreReplicas past other → (key : List ℕ) (stamp : ℕ) → horizon past ≤ stamp → horizon other ≤ stamp
    → answer kept.rows key stamp ≡ answer copy.rows key stamp
stores-agree kept copy past other h h' are key stamp up up' =
    h.rows.from_horizon key stamp up ∙ answers-agree past other h.legal are key stamp
    ∙ sym (h'.rows.from_horizon key stamp up')

-- pasts that can meet answer alike up to the lesser floor
pub lagging-agree : (past other : List Step) → CanMeet past other → (key : List ℕ) (stamp : ℕ)
    → stamp ≤ floor past → stamp ≤ floor other
    → answer (writes past) key stamp ≡ answer (writes other) key stamp
lagging-agree past other meet key stamp low low' =
    sym (answers-stay past meet.more meet.legal key stamp low)
    ∙ answers-agree (meet.more ++ past) (meet.rest ++ other) meet.legal meet.meet key stamp
    ∙ answers-stay other meet.rest meet.other_legal key stamp low'

-- a store answers as all accepted writes do where it may be read
answers-there : (kept : StoreView) (past : List Step) → Represents kept past → (key : List ℕ) (stamp : ℕ)
    → (horizon past ≤ stamp) ⊎ Contains (stamps (open_snapshots past)) stamp
    → answer kept.rows key stamp ≡ answer (writes past) key stamp
answers-there kept past h key stamp (inl up) = h.rows.from_horizon key stamp up
answers-there kept past h key stamp (inr is_open) = h.rows.at_open key stamp is_open

-- and so do their stores, at each stamp from its horizon on or at which it has a snapshot open
pub lagging_stores-agree : (kept copy : StoreView) (past other : List Step) → Represents kept past
    → Represents copy other → CanMeet past other → (key : List ℕ) (stamp : ℕ)
    → stamp ≤ floor past → stamp ≤ floor other
    → (horizon past ≤ stamp) ⊎ Contains (stamps (open_snapshots past)) stamp
    → (horizon other ≤ stamp) ⊎ Contains (stamps (open_snapshots other)) stamp
    → answer kept.rows key stamp ≡ answer copy.rows key stamp
lagging_stores-agree kept copy past other h h' meet key stamp low low' may may' =
    answers-there kept past h key stamp may ∙ lagging-agree past other meet key stamp low low'
    ∙ sym (answers-there copy other h' key stamp may')
