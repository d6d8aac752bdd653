-- An accepted item leaves the head of its node at or above its stamp, and the floor is the least of such heads.
use Rattle.std.proofs.Common.{◌≡◌, ℕ, ◌<◌, ◌≤◌, List, [], ◌∷◌, Contains, false, refl, ap, sym, ◌∙◌, subst, inl, inr}
use Rattle.std.proofs.Common.{arith}
use Rattle.std.proofs.lemmas.Bool.{cases_eq}
use Rattle.hlc_values.proofs.MemberLemmas.{Contains-cons_cases, Contains-none}
use Rattle.hlc_node.specs.declared.item.Item.{Item}
use Rattle.hlc_core.specs.Past.{Step, Started, Began, Took, Opened, Closed, Vacuumed, PartVacuumed, Joined, numbered}
use Rattle.hlc_core.specs.Past.{head, retired, top, floor, IsLegal}
use Rattle.hlc_core.proofs.PastLemmas.{inside, rises, head-same, head-other, head-joined_other, floor-some}

-- the node of an accepted item is numbered
took-inside : (past : List Step) (item : Item) → IsLegal past → Contains past (Took item)
    → item.node < numbered past
took-inside [] item legal m = absurd (Contains-none (Took item) m)
took-inside (Began kept ∷ past) item legal m =
    elim (Contains-cons_cases (Began kept) (Took item) past m) [
      | inl here ↦ absurd (cc)
      | inr earlier ↦
          absurd (Contains-none (Took item) (subst (λ (p : List Step). Contains p (Took item)) legal.0 earlier))
    ]
took-inside (Started nodes ∷ past) item legal m =
    elim (Contains-cons_cases (Started nodes) (Took item) past m) [
      | inl here ↦ absurd (cc)
      | inr earlier ↦
          absurd (Contains-none (Took item) (subst (λ (p : List Step). Contains p (Took item)) legal.0 earlier))
    ]
took-inside (Opened stamp ∷ past) item legal m =
    elim (Contains-cons_cases (Opened stamp) (Took item) past m) [
      | inl here ↦ absurd (cc)
      | inr earlier ↦ took-inside past item legal.1 earlier
    ]
took-inside (Closed id ∷ past) item legal m =
    elim (Contains-cons_cases (Closed id) (Took item) past m) [
      | inl here ↦ absurd (cc)
      | inr earlier ↦ took-inside past item legal.1 earlier
    ]
took-inside (Vacuumed at ∷ past) item legal m =
    elim (Contains-cons_cases (Vacuumed at) (Took item) past m) [
      | inl here ↦ absurd (cc)
      | inr earlier ↦ took-inside past item legal.1 earlier
    ]
took-inside (PartVacuumed at dropped ∷ past) item legal m =
    elim (Contains-cons_cases (PartVacuumed at dropped) (Took item) past m) [
      | inl here ↦ absurd (cc)
      | inr earlier ↦ took-inside past item legal.1 earlier
    ]
took-inside (Joined node start ∷ past) item legal m =
    elim (Contains-cons_cases (Joined node start) (Took item) past m) [
      | inl here ↦ absurd (cc)
      | inr earlier ↦ (let h : item.node < numbered past = took-inside past item legal.3 earlier in omega arith)
    ]
took-inside (Took last ∷ past) item legal m =
    elim (Contains-cons_cases (Took last) (Took item) past m) [
      | inl here ↦
          let same : last ≡ item = cc in
          subst (λ (i : Item). i.node < numbered past) same (inside past last legal.0)
      | inr earlier ↦ took-inside past item legal.1 earlier
    ]

-- and its head is not below the item
took-low : (past : List Step) (item : Item) → IsLegal past → Contains past (Took item)
    → item.stamp ≤ head item.node past
took-low [] item legal m = absurd (Contains-none (Took item) m)
took-low (Began kept ∷ past) item legal m =
    elim (Contains-cons_cases (Began kept) (Took item) past m) [
      | inl here ↦ absurd (cc)
      | inr earlier ↦
          absurd (Contains-none (Took item) (subst (λ (p : List Step). Contains p (Took item)) legal.0 earlier))
    ]
took-low (Started nodes ∷ past) item legal m =
    elim (Contains-cons_cases (Started nodes) (Took item) past m) [
      | inl here ↦ absurd (cc)
      | inr earlier ↦ took-low past item legal.1 earlier
    ]
took-low (Opened stamp ∷ past) item legal m =
    elim (Contains-cons_cases (Opened stamp) (Took item) past m) [
      | inl here ↦ absurd (cc)
      | inr earlier ↦ took-low past item legal.1 earlier
    ]
took-low (Closed id ∷ past) item legal m =
    elim (Contains-cons_cases (Closed id) (Took item) past m) [
      | inl here ↦ absurd (cc)
      | inr earlier ↦ took-low past item legal.1 earlier
    ]
took-low (Vacuumed at ∷ past) item legal m =
    elim (Contains-cons_cases (Vacuumed at) (Took item) past m) [
      | inl here ↦ absurd (cc)
      | inr earlier ↦ took-low past item legal.1 earlier
    ]
took-low (PartVacuumed at dropped ∷ past) item legal m =
    elim (Contains-cons_cases (PartVacuumed at dropped) (Took item) past m) [
      | inl here ↦ absurd (cc)
      | inr earlier ↦ took-low past item legal.1 earlier
    ]
took-low (Joined node start ∷ past) item legal m =
    elim (Contains-cons_cases (Joined node start) (Took item) past m) [
      | inl here ↦ absurd (cc)
      | inr earlier ↦
          let h : item.stamp ≤ head item.node past = took-low past item legal.3 earlier in
          let within : item.node < numbered past = took-inside past item legal.3 earlier in
          let next : node ≡ numbered past = legal.1 in
          let e : head item.node (Joined node start ∷ past) ≡ head item.node past =
          head-joined_other item.node node start past (λ same. omega arith) in omega arith
    ]
took-low (Took last ∷ past) item legal m =
    elim (Contains-cons_cases (Took last) (Took item) past m) [
      | inl here ↦
          let same : last ≡ item = cc in
          let e : head last.node (Took last ∷ past) ≡ last.stamp = head-same last.node last past refl in
          subst (λ (i : Item). i.stamp ≤ head i.node (Took last ∷ past)) same (omega arith)
      | inr earlier ↦
          let h : item.stamp ≤ head item.node past = took-low past item legal.1 earlier in
          elim (cases_eq last.node item.node) [
            | inl same ↦
                let e : head item.node (Took last ∷ past) ≡ last.stamp = head-same item.node last past same in
                let up : head last.node past < last.stamp = rises past last legal.0 in
                let at : head last.node past ≡ head item.node past = ap (λ n. head n past) same in omega arith
            | inr other ↦
                let e : head item.node (Took last ∷ past) ≡ head item.node past =
                head-other item.node last past other in omega arith
          ]
    ]

-- the floor is at or above what each head that counts in it is
pub heads-raise : (past : List Step) (at : ℕ) → at ≤ top past
    → ((n : ℕ) → n < numbered past → retired n past ≡ false → at ≤ head n past) → at ≤ floor past
heads-raise past at most low =
    elim (floor-some past) [
      | inl least ↦
          let h : at ≤ head least.0 past = low least.0 least.1 least.2 in
          let e : head least.0 past ≡ floor past = least.3 in omega arith
      | inr all ↦ (let e : floor past ≡ top past = all.1 in omega arith)
    ]

pub items-raise : (past : List Step) (at left : ℕ) → IsLegal past → left < numbered past
    → retired left past ≡ false
    → ((n : ℕ) → n < numbered past → retired n past ≡ false → (item : Item)
    × Contains past (Took item) × (item.node ≡ n) × (at ≤ item.stamp))
    → at ≤ floor past
items-raise past at left legal within lives reported =
    elim (floor-some past) [
      | inl least ↦
          let one = reported least.0 least.1 least.2 in
          let low : one.0.stamp ≤ head one.0.node past = took-low past one.0 legal one.1 in
          let same : head one.0.node past ≡ head least.0 past = ap (λ n. head n past) one.2 in
          let up : at ≤ one.0.stamp = one.3 in
          let e : head least.0 past ≡ floor past = least.3 in omega arith
      | inr all ↦ absurd (let gone = all.0 left within in let f = sym lives ∙ gone in cc)
    ]
