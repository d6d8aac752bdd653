-- When a node advances, retires or joins, the groups again have their least heads, and the least of them is the floor.
use Rattle.std.proofs.Common.{◌≡◌, ◌≢◌, ℕ, ◌+◌, ◌*◌, ◌/◌, ◌<◌, ◌≤◌, true, false, List, [], ◌∷◌, ◌++◌, length, refl}
use Rattle.std.proofs.Common.{Option, Some, None, sym, ap, ◌∙◌, subst, inl, inr, arith, slice_set, MatchOption, min}
use Rattle.std.proofs.Common.{get_or-set_same, get_or-set_other, length-set, length-append, unwrap_or}
use Rattle.std.proofs.lemmas.{Bool.cases_eq, Bool.cases_lt, List.get_or_append_left, List.get_or_past}
use Rattle.std.proofs.Math.Seq.{get_or-append_seam}
use Rattle.hlc_intake.specs.IntakeView.{IntakeView}
use Rattle.hlc_heads.specs.declared.{heads.TheConstants.MAX_NODES, groups.TheConstants.GROUP}
use Rattle.hlc_heads.specs.Heads.{HeadsView, a_link, no_link, link_at, advanced, joined, IsSized, IsFloor}
use Rattle.hlc_heads.specs.Groups.{IsLeastIn, IsLeastOf, AreGroups, AreOthers, group_at}

-- the least is the start, or the lower of the start and the one found
abbrev pub IsLower : Option ℕ → ℕ → ℕ → Type 0
IsLower found start least = MatchOption found (least ≡ start) (λ low. least ≡ min low start)

other : (links : List IntakeView) (node k : ℕ) (link : IntakeView) → k ≢ node
    → link_at (slice_set links node link) k ≡ link_at links k
other links node k link apart = get_or-set_other links node k link no_link apart

here : (links : List IntakeView) (node k : ℕ) (link : IntakeView) → node < length links → k ≡ node
    → link_at (slice_set links node link) k ≡ link
here links node k link within at =
    ap (link_at (slice_set links node link)) at ∙ get_or-set_same links node link no_link within

-- the least head of a range does not change, unless it was the node's head
moves-in : (links : List IntakeView) (node from to : ℕ) (link : IntakeView) (found : Option ℕ) → node < length links
    → (link_at links node).retired ≡ false → (link_at links node).head < link.head
    → (from ≤ node → node < to → found ≢ Some (link_at links node).head) → IsLeastIn links from to found
    → IsLeastIn (slice_set links node link) from to found
moves-in links node from to link None within left rising apart h = λ k ge lt.
    elim (cases_eq k node) [
      | inl at ↦ absurd (let e : false ≡ true = sym left ∙ ap (λ n. (link_at links n).retired) (sym at)
          ∙ h k ge lt in cc)
      | inr away ↦ ap (λ (x : IntakeView). x.retired) (other links node k link away) ∙ h k ge lt
    ]
moves-in links node from to link (Some low) within left rising apart h = (
  (let k = h.0.0 in
      let at : (link_at links k).head ≡ low = h.0.5 in
      let away : k ≢ node =
      λ e. apart (subst (λ n. from ≤ n) e h.0.1) (subst (λ n. n < to) e h.0.2) (ap Some (sym at
      ∙ ap (λ n. (link_at links n).head) e)) in
      let o = other links node k link away in (
        k,
        h.0.1,
        h.0.2,
        subst (λ n. k < n) (sym (length-set links node link)) h.0.3,
        ap
            (λ (x : IntakeView). x.retired) o ∙ h.0.4,
        ap (λ (x : IntakeView). x.head) o ∙ at,
      )),
  (λ k ge lt unretired.
      elim (cases_eq k node) [
        | inl at ↦
            let x : (link_at (slice_set links node link) k).head ≡ link.head =
            ap (λ (x : IntakeView). x.head) (here links node k link within at) in
            let y : low ≤ (link_at links node).head =
            h.1 node (subst (λ n. from ≤ n) at ge) (subst (λ n. n < to) at lt) left in
            omega arith
        | inr away ↦
            let o = other links node k link away in
            let x : (link_at (slice_set links node link) k).head ≡ (link_at links k).head =
            ap (λ (x : IntakeView). x.head) o in
            let y : low ≤ (link_at links k).head =
            h.1 k ge lt (sym (ap (λ (x : IntakeView). x.retired) o) ∙ unretired) in
            omega arith
      ]),
)

-- a node advances or retires
pub moves : (links : List IntakeView) (groups : List (Option ℕ)) (node : ℕ) (link : IntakeView) → node < length links
    → (link_at links node).retired ≡ false → (link_at links node).head < link.head → AreGroups links groups
    → AreOthers (slice_set links node link) groups node (link_at links node).head
moves links groups node link within left rising h = λ group lt apart.
    moves-in links node (group * GROUP) (group * GROUP + GROUP) link (group_at groups group) within left rising
    (λ ge less. apart (omega (arith, ge, less))) (h group lt)

-- the least of the groups is not above the head of a node that has not retired
above : (links : List IntakeView) (groups : List (Option ℕ)) (low group k : ℕ) (found : Option ℕ)
    → group_at groups group ≡ found
    → ((other : ℕ) → group_at groups group ≡ Some other → low ≤ other)
    → group * GROUP ≤ k → k < group * GROUP + GROUP → (link_at links k).retired ≡ false
    → IsLeastIn links (group * GROUP) (group * GROUP + GROUP) found → low ≤ (link_at links k).head
above links groups low group k None same least ge lt left h =
    absurd (let e : false ≡ true = sym left ∙ h k ge lt in cc)
above links groups low group k (Some other) same least ge lt left h =
    let a : low ≤ other = least other same in
    let b : other ≤ (link_at links k).head = h.1 k ge lt left in
    omega arith

-- the least of the groups is the floor
pub found_floor : (marks : HeadsView) (groups : List (Option ℕ)) (found : Option ℕ) → length marks.links ≤ MAX_NODES
    → AreGroups marks.links groups → IsLeastOf GROUP groups found → IsFloor marks (unwrap_or found marks.top)
found_floor marks groups None few h none = inr (
  (λ k lt.
      let group = k / GROUP in
      let less : group < GROUP = omega (arith, lt, few) in
      subst (λ o. IsLeastIn marks.links (group * GROUP) (group * GROUP + GROUP) o) (none group less)
      (h group less) k (omega arith) (omega arith)),
  refl,
)
found_floor marks groups (Some low) few h one =
    let at = subst (λ o. IsLeastIn marks.links (one.0.0 * GROUP) (one.0.0 * GROUP + GROUP) o) one.0.2
    (h one.0.0 one.0.1) in
    inl (record {
      is_head = (at.0.0, at.0.3, at.0.4, at.0.5);
      least = λ k lt left.
          let group = k / GROUP in
          let less : group < GROUP = omega (arith, lt, few) in
          above marks.links groups low group k (group_at groups group) refl (λ other e. one.1 group other less e)
          (omega arith) (omega arith) left (h group less);
    })

some-same : {a b : ℕ} → Some a ≡ Some b → a ≡ b
some-same e = cc e

-- a node whose head is above the floor advances or retires: the floor does not change
pub floor-stays : (marks : HeadsView) (node floor : ℕ) (link : IntakeView) → node < length marks.links
    → (link_at marks.links node).retired ≡ false → (link_at marks.links node).head < link.head
    → (link_at marks.links node).head ≢ floor → IsFloor marks floor → IsFloor (advanced marks node link) floor
floor-stays marks node floor link within left rising apart h =
    elim h [
      | inl one ↦
          let o = moves-in marks.links node 0 (length marks.links) link (Some floor) within left rising
          (λ ge lt e. apart (sym (some-same e))) (
            (one.is_head.0, omega arith, one.is_head.1, one.is_head.1, one.is_head.2, one.is_head.3),
            (λ k ge lt. one.least k lt),
          ) in
          inl (record {
            is_head = (o.0.0, o.0.3, o.0.4, o.0.5);
            least = λ k lt. o.1 k (omega arith)
                (subst (λ n. k < n) (length-set marks.links node link) lt);
          })
      | inr none ↦ absurd (let e : false ≡ true = sym left ∙ none.0 node within in cc)
    ]

-- when a node joins, the other links do not change
joined-other : (links : List IntakeView) (start k : ℕ) → k ≢ length links
    → link_at (links ++ a_link 0 start false ∷ []) k ≡ link_at links k
joined-other links start k apart =
    elim (cases_lt k (length links)) [
      | inl was ↦ get_or_append_left links (a_link 0 start false ∷ []) no_link k was
      | inr past ↦
          let l : length (links ++ a_link 0 start false ∷ []) ≡ length links + 1 =
          length-append links (a_link 0 start false ∷ []) in
          get_or_past (links ++ a_link 0 start false ∷ []) k no_link (omega (arith, past, l, apart))
          ∙ sym (get_or_past links k no_link past)
    ]

joined-here : (links : List IntakeView) (start k : ℕ) → k ≡ length links
    → link_at (links ++ a_link 0 start false ∷ []) k ≡ a_link 0 start false
joined-here links start k at =
    ap (link_at (links ++ a_link 0 start false ∷ [])) at
    ∙ get_or-append_seam links (a_link 0 start false) [] no_link

-- when a node joins that is not in a range, the range's least head does not change
joins-in : (links : List IntakeView) (start from to : ℕ) (found : Option ℕ)
    → (from ≤ length links → length links < to → ⊥) → IsLeastIn links from to found
    → IsLeastIn (links ++ a_link 0 start false ∷ []) from to found
joins-in links start from to None out h = λ k ge lt.
    ap (λ (x : IntakeView). x.retired)
    (joined-other links start k (λ e. out (subst (λ n. from ≤ n) e ge) (subst (λ n. n < to) e lt))) ∙ h k ge lt
joins-in links start from to (Some low) out h = (
  (let k = h.0.0 in
      let l : length (links ++ a_link 0 start false ∷ []) ≡ length links + 1 =
      length-append links (a_link 0 start false ∷ []) in
      let o = joined-other links start k (λ e. out (subst (λ n. from ≤ n) e h.0.1) (subst (λ n. n < to) e h.0.2)) in (
        k,
        h.0.1,
        h.0.2,
        (let w : k < length links = h.0.3 in omega arith),
        ap (λ (x : IntakeView). x.retired) o
            ∙ h.0.4,
        ap (λ (x : IntakeView). x.head) o ∙ h.0.5,
      )),
  (λ k ge lt left.
      let o = joined-other links start k (λ e. out (subst (λ n. from ≤ n) e ge) (subst (λ n. n < to) e lt)) in
      let x : (link_at (links ++ a_link 0 start false ∷ []) k).head ≡ (link_at links k).head =
      ap (λ (x : IntakeView). x.head) o in
      let y : low ≤ (link_at links k).head = h.1 k ge lt (sym (ap (λ (x : IntakeView). x.retired) o) ∙ left) in
      omega arith),
)

-- when a node joins in a range, the range's least head is the lower of the earlier one and the start
joins-here : (links : List IntakeView) (start from to least : ℕ) (found : Option ℕ) → from ≤ length links
    → length links < to → IsLower found start least → IsLeastIn links from to found
    → IsLeastIn (links ++ a_link 0 start false ∷ []) from to (Some least)
joins-here links start from to least None after before is h =
    let l : length (links ++ a_link 0 start false ∷ []) ≡ length links + 1 =
    length-append links (a_link 0 start false ∷ []) in
    let here' = joined-here links start (length links) refl in (
      (
        length links,
        after,
        before,
        omega arith,
        ap (λ (x : IntakeView). x.retired) here',
        ap (λ (x : IntakeView). x.head) here' ∙ sym is,
      ),
      (λ k ge lt left.
          elim (cases_eq k (length links)) [
            | inl at ↦
                (let x : (link_at (links ++ a_link 0 start false ∷ []) k).head ≡ start =
                ap (λ (x : IntakeView). x.head) (joined-here links start k at) in omega (arith, is))
            | inr away ↦
                absurd (let e : false ≡ true =
                sym (sym (ap (λ (x : IntakeView). x.retired) (joined-other links start k away)) ∙ left)
                ∙ h k ge lt in cc)
          ]),
    )
joins-here links start from to least (Some low) after before is h =
    let l : length (links ++ a_link 0 start false ∷ []) ≡ length links + 1 =
    length-append links (a_link 0 start false ∷ []) in
    let here' = joined-here links start (length links) refl in
    let k = h.0.0 in
    let w : k < length links = h.0.3 in
    let o = joined-other links start k (omega arith) in (
      elim (cases_lt low start) [
        | inl less ↦ (
          k,
          h.0.1,
          h.0.2,
          omega arith,
          ap (λ (x : IntakeView). x.retired) o ∙ h.0.4,
          (let e : (link_at (links ++ a_link 0 start false ∷ []) k).head ≡ low =
              ap (λ (x : IntakeView). x.head) o ∙ h.0.5 in omega (arith, is)),
        )
        | inr more ↦ (
          length links,
          after,
          before,
          omega arith,
          ap (λ (x : IntakeView). x.retired) here',
          (let e : (link_at (links ++ a_link 0 start false ∷ []) (length links)).head ≡ start =
              ap (λ (x : IntakeView). x.head) here' in omega (arith, is)),
        )
      ],
      (λ k ge lt left.
          elim (cases_eq k (length links)) [
            | inl at ↦
                (let x : (link_at (links ++ a_link 0 start false ∷ []) k).head ≡ start =
                ap (λ (x : IntakeView). x.head) (joined-here links start k at) in omega (arith, is))
            | inr away ↦
                let p = joined-other links start k away in
                let x : (link_at (links ++ a_link 0 start false ∷ []) k).head ≡ (link_at links k).head =
                ap (λ (x : IntakeView). x.head) p in
                let y : low ≤ (link_at links k).head =
                h.1 k ge lt (sym (ap (λ (x : IntakeView). x.retired) p) ∙ left) in omega (arith, is)
          ]),
    )

-- its group's least head is the lower of the earlier one and the start
pub groups_join : (marks : HeadsView) (groups : List (Option ℕ)) (start least : ℕ) → length groups ≡ GROUP
    → length marks.links < MAX_NODES
    → IsLower (group_at groups (length marks.links / GROUP)) start least
    → AreGroups marks.links groups
    → AreGroups (joined marks start).links (slice_set groups (length marks.links / GROUP) (Some least))
groups_join marks groups start least sized few is old = λ group lt.
    elim (cases_eq group (length marks.links / GROUP)) [
      | inl at ↦
          let place : length marks.links / GROUP < length groups = omega (arith, few, sized) in
          let x : group_at (slice_set groups (length marks.links / GROUP) (Some least)) group ≡ Some least =
          ap (group_at (slice_set groups (length marks.links / GROUP) (Some least))) at
          ∙ get_or-set_same groups (length marks.links / GROUP) (Some least) None place in
          subst (λ o. IsLeastIn (joined marks start).links (group * GROUP) (group * GROUP + GROUP) o) (sym x)
          (joins-here marks.links start (group * GROUP) (group * GROUP + GROUP) least (group_at groups group)
          (omega (arith, at)) (omega (arith, at))
          (subst (λ g. IsLower (group_at groups g) start least) (sym at) is) (old group lt))
      | inr away ↦
          let x : group_at
          (slice_set groups (length marks.links / GROUP) (Some least)) group ≡ group_at groups group =
          get_or-set_other groups (length marks.links / GROUP) group (Some least) None away in
          subst (λ o. IsLeastIn (joined marks start).links (group * GROUP) (group * GROUP + GROUP) o) (sym x)
          (joins-in marks.links start (group * GROUP) (group * GROUP + GROUP) (group_at groups group)
          (λ ge less. away (omega (arith, ge, less))) (old group lt))
    ]

-- and there is room for it
pub joined-sized : (marks : HeadsView) (start : ℕ) → IsSized marks → length marks.links < MAX_NODES
    → IsSized (joined marks start)
joined-sized marks start h few =
    let l : length (marks.links ++ a_link 0 start false ∷ []) ≡ length marks.links + 1 =
    length-append marks.links (a_link 0 start false ∷ []) in
    record { some = omega arith; few = omega arith }
