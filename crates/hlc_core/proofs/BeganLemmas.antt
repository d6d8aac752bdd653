-- The links of a state that a past begins with, and what a checkpoint says of them.
use Rattle.std.proofs.Common.{◌≡◌, ℕ, zero, suc, ◌<◌, ◌≤◌, List, [], ◌∷◌, length, max, get_or, true, false, refl, ap}
use Rattle.std.proofs.Common.{sym, ◌∙◌, subst, inl, inr, arith, cond}
use Rattle.std.{specs.Prelude.Contains, specs.Prelude.nat_lt, proofs.lemmas.Bool.lt-ltb, proofs.lemmas.Bool.cases_lt}
use Rattle.std.proofs.lemmas.List.{get_or_default, get_or_past, Elements.All-contains, Elements.Contains-append_cases}
use Rattle.hlc_values.proofs.MemberLemmas.{Contains-none}
use Rattle.hlc_rows.specs.declared.row.Row.{Row}
use Rattle.hlc_intake.specs.IntakeView.{IntakeView}
use Rattle.hlc_heads.specs.Heads.{a_link, no_link, link_at}
use Rattle.hlc_heads.proofs.LowLemmas.{low-same}
use Rattle.hlc_checkpoint.specs.StoreView.{StoreView, greatest_head, IsUnderHead}
use Rattle.hlc_checkpoint.specs.Checkpoint.{IsCheckpoint, floor_in}
use Rattle.hlc_core.specs.Past.{Step, Began, head, retired, floor, writes, link_in, greatest_issued}

-- the link of a node that the state does not have
pub link_in-out : (kept : StoreView) (n : ℕ) → length kept.links ≤ n → link_in kept n ≡ a_link 0 0 false
link_in-out kept n out = get_or_past kept.links n (a_link 0 0 false) out

-- and of one that it has
pub link_in-at : (kept : StoreView) (n : ℕ) (d : IntakeView) → n < length kept.links
    → link_in kept n ≡ get_or kept.links n d
link_in-at kept n d within = get_or_default kept.links n (a_link 0 0 false) d within

-- the floor of a past that begins with the state is the state's
pub floor-began : (kept : StoreView) (past : List Step) → floor (Began kept ∷ past) ≡ floor_in kept
floor-began kept past =
    low-same (λ k. head k (Began kept ∷ past)) (λ k. (link_at kept.links k).head) (λ k. retired k (Began kept ∷ past))
    (λ k. (link_at kept.links k).retired) (length kept.links) (length kept.links) kept.top kept.top refl refl
    (λ k within.
    let within' : k < length kept.links = within in
    let is : link_in kept k ≡ link_at kept.links k = link_in-at kept k no_link within' in
    (ap (λ (link : IntakeView). link.head) is, ap (λ (link : IntakeView). link.retired) is))

-- no head is above the greatest one
pub greatest-ge : (links : List IntakeView) (k : ℕ) (d : IntakeView) → k < length links
    → (get_or links k d).head ≤ greatest_head links
greatest-ge [] k d lt = absurd (omega arith)
greatest-ge (link ∷ links) zero d lt = omega arith
greatest-ge (link ∷ links) (suc k) d lt =
    (let h : (get_or links k d).head ≤ greatest_head links = greatest-ge links k d (omega arith) in omega arith)

-- and one head is it
greatest-at : (links : List IntakeView) (d : IntakeView) → 0 < length links
    → (n : ℕ) × (n < length links) × ((get_or links n d).head ≡ greatest_head links)
greatest-at [] d some = absurd (omega arith)
greatest-at (link ∷ []) d some = (0, omega arith, omega arith)
greatest-at (link ∷ next ∷ links) d some =
    let rest = greatest-at (next ∷ links) d (omega arith) in
    let within : rest.0 < length (next ∷ links) = rest.1 in
    let at : (get_or (next ∷ links) rest.0 d).head ≡ greatest_head (next ∷ links) = rest.2 in
    elim (cases_lt link.head (greatest_head (next ∷ links))) [
      | inl below ↦ (
        suc rest.0,
        omega arith,
        (let goal : (get_or (next ∷ links) rest.0 d).head ≡ max link.head (greatest_head (next ∷ links)) =
            omega arith in goal),
      )
      | inr above ↦ (
        0,
        omega arith,
        (let goal : link.head ≡ max link.head (greatest_head (next ∷ links)) = omega arith in goal),
      )
    ]

-- a link that has an item does not have a head above the greatest one of such links
issued-ge : (links : List IntakeView) (k : ℕ) (d : IntakeView) → k < length links → 0 < (get_or links k d).next
    → (get_or links k d).head ≤ greatest_issued links
issued-ge [] k d lt some = absurd (omega arith)
issued-ge (link ∷ links) zero d lt some = let has = lt-ltb 0 link.next some in rw has (omega arith)
issued-ge (link ∷ links) (suc k) d lt some =
    let h : (get_or links k d).head ≤ greatest_issued links = issued-ge links k d (omega arith) some in
    elim (nat_lt 0 link.next) as (λ b. (get_or links k d).head
    ≤ cond b (max link.head (greatest_issued links)) (greatest_issued links)) [
      | true ↦ omega arith
      | false ↦ omega arith
    ]

issued-low : (links : List IntakeView) → greatest_issued links ≤ greatest_head links
issued-low [] = omega arith
issued-low (link ∷ links) =
    let h : greatest_issued links ≤ greatest_head links = issued-low links in
    elim (nat_lt 0 link.next) as (λ b. cond b (max link.head (greatest_issued links)) (greatest_issued links)
    ≤ max link.head (greatest_head links)) [
      | true ↦ omega arith
      | false ↦ omega arith
    ]

-- Of a checkpoint: no stamp of an accepted item is above the top.
pub began-issued : (kept : StoreView) → IsCheckpoint kept → greatest_issued kept.links ≤ kept.top
began-issued kept is =
    let low : greatest_issued kept.links ≤ greatest_head kept.links = issued-low kept.links in
    let most : kept.top ≡ greatest_head kept.links = is.store.sound.top in omega arith

-- no head is above it
pub began-head : (kept : StoreView) (n : ℕ) → IsCheckpoint kept → (link_in kept n).head ≤ kept.top
began-head kept n is =
    elim (cases_lt n (length kept.links)) [
      | inl within ↦
          let low : (link_in kept n).head ≤ greatest_head kept.links =
          greatest-ge kept.links n (a_link 0 0 false) within in
          let most : kept.top ≡ greatest_head kept.links = is.store.sound.top in omega arith
      | inr out ↦
          let e : (link_in kept n).head ≡ 0 = ap (λ (link : IntakeView). link.head) (link_in-out kept n out) in
          omega arith
    ]

-- and one head is it
pub began-top : (kept : StoreView) → IsCheckpoint kept
    → (n : ℕ) × (n < length kept.links) × ((link_in kept n).head ≡ kept.top)
began-top kept is =
    let some : 0 < kept.initial_nodes = is.store.sound.nodes.some in
    let linked : kept.initial_nodes ≤ length kept.links = is.store.sound.nodes.linked in
    let found = greatest-at kept.links (a_link 0 0 false) (omega arith) in
    let at : (link_in kept found.0).head ≡ greatest_head kept.links = found.2 in
    let most : kept.top ≡ greatest_head kept.links = is.store.sound.top in
    (found.0, found.1, omega arith)

-- each item has a stamp of its own
pub began-count : (kept : StoreView) (n : ℕ) → IsCheckpoint kept → (link_in kept n).next ≤ (link_in kept n).head
began-count kept n is =
    elim (cases_lt n (length kept.links)) [
      | inl within ↦ is.store.sound.stamps n (a_link 0 0 false) within
      | inr out ↦
          let e : (link_in kept n).next ≡ 0 = ap (λ (link : IntakeView). link.next) (link_in-out kept n out) in
          omega arith
    ]

-- a node that has retired has an item
pub began-last : (kept : StoreView) (n : ℕ) → IsCheckpoint kept → (link_in kept n).retired ≡ true
    → (n < length kept.links) × (0 < (link_in kept n).next)
began-last kept n is has_retired =
    elim (cases_lt n (length kept.links)) [
      | inl within ↦ (within, is.store.sound.last n (a_link 0 0 false) within has_retired)
      | inr out ↦
          let e : (link_in kept n).retired ≡ false =
          ap (λ (link : IntakeView). link.retired) (link_in-out kept n out) in
          absurd (let f : false ≡ true = sym e ∙ has_retired in cc)
    ]

-- and issued its head
pub began-retired : (kept : StoreView) (n : ℕ) → IsCheckpoint kept → (link_in kept n).retired ≡ true
    → (link_in kept n).head ≤ greatest_issued kept.links
began-retired kept n is has_retired =
    let last = began-last kept n is has_retired in
    issued-ge kept.links n (a_link 0 0 false) last.0 last.1

-- the rows of the past are those of the state
pub began-row : (kept : StoreView) (past : List Step) (row : Row) → past ≡ []
    → Contains (writes (Began kept ∷ past)) row → Contains kept.rows row
began-row kept past row none m =
    elim (Contains-append_cases (writes past) kept.rows row m) [
      | inl earlier ↦ absurd (Contains-none row (subst (λ (p : List Step). Contains (writes p) row) none earlier))
      | inr here ↦ here
    ]

-- each is of a node that the state has, and not above its head
pub began-under : (kept : StoreView) (row : Row) → IsCheckpoint kept → Contains kept.rows row
    → (row.node < length kept.links) × (row.stamp ≤ (link_in kept row.node).head)
began-under kept row is m =
    let under : IsUnderHead kept.links row =
    All-contains (IsUnderHead kept.links) kept.rows row is.store.consistent.stored m in
    let e : (link_in kept row.node).head ≡ (link_at kept.links row.node).head =
    ap (λ (link : IntakeView). link.head) (link_in-at kept row.node no_link under.0) in
    let low : row.stamp ≤ (link_at kept.links row.node).head = under.1 in
    (under.0, omega arith)

-- and above 0.0
pub began-positive : (kept : StoreView) (row : Row) → IsCheckpoint kept → Contains kept.rows row → 0 < row.stamp
began-positive kept row is m =
    (All-contains (IsUnderHead kept.links) kept.rows row is.store.consistent.stored m).2
