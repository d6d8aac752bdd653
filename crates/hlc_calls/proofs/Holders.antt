-- Which links hold the floor back, and which nodes.
use Rattle.std.proofs.Common.{◌≡◌, ℕ, ◌+◌, ◌<◌, ◌∙◌, sym, ap, subst, List, length, Some, slice_get, get_or, arith, inl}
use Rattle.std.proofs.Common.{inr, refl, true, false, true≢false, eq-eqb, ◌==◌, ◌&&◌, not, None}
use Rattle.std.proofs.lemmas.{Bool.cases_lt, Option.slice_get_within, Option.slice_get_read, Option.same_Some}
use Rattle.hlc_intake.specs.IntakeView.{IntakeView}
use Rattle.hlc_core.specs.{Past.Step, Past.count, Past.head, Past.retired, Past.floor, StoreView.AreLinks}
use Rattle.hlc_calls.specs.Status.{IsHolder, IsFirstHolder, HoldsFloor, ReturnsHolder}

holds : (past : List Step) (links : List IntakeView) (at n : ℕ) → AreLinks past links
    → at ≡ floor past → IsHolder links at n → HoldsFloor past n
holds past links at n are is h =
    let lt = slice_get_within links n h.0 h.1 in
    let same : h.0 ≡ record { next = count n past; head = head n past; retired = retired n past } =
    same_Some h.0 (record { next = count n past; head = head n past; retired = retired n past })
    (sym h.1 ∙ are.each n lt) in (
      omega (arith, lt, are.many),
      sym (ap (λ (link : IntakeView). link.retired) same) ∙ h.2,
      sym (ap (λ (link : IntakeView). link.head) same) ∙ h.3 ∙ is,
    )

is-holder : (past : List Step) (links : List IntakeView) (at n : ℕ) → AreLinks past links
    → at ≡ floor past → HoldsFloor past n → IsHolder links at n
is-holder past links at n are is h = (
  record { next = count n past; head = head n past; retired = retired n past },
  are.each n (omega (arith, h.0, are.many)),
  h.1,
  h.2 ∙ sym is,
)

pub first-holds : (past : List Step) (links : List IntakeView) (at n : ℕ) → AreLinks past links
    → at ≡ floor past → IsFirstHolder links at (Some n) → ReturnsHolder past 0 n
first-holds past links at n are is h =
    inl (
      refl,
      holds past links at n are is h.0,
      λ other lt also. h.1 other lt (is-holder past links at other are is also),
    )

pub none-holds : (past : List Step) (links : List IntakeView) (at : ℕ) → AreLinks past links
    → at ≡ floor past → IsFirstHolder links at None → ReturnsHolder past 115 0
none-holds past links at are is h =
    inr (refl, refl, λ other also. h other (is-holder past links at other are is also))

-- the places up to this one are passed
pub passed : (links : List IntakeView) (at place : ℕ) (link : IntakeView) → place < length links
    → link ≡ get_or links place link → (not link.retired && (link.head == at)) ≡ false
    → ((other : ℕ) → other < place → IsHolder links at other → ⊥)
    → (other : ℕ) → other < place + 1 → IsHolder links at other → ⊥
passed links at place link lt is none before other low h = elim (cases_lt other place) [
  | inl less ↦ before other less h
  | inr not-less ↦
      let here : other ≡ place = omega (arith, low, not-less) in
      let there : slice_get links place ≡ Some h.0 = subst (λ n. slice_get links n ≡ Some h.0) here h.1 in
      let same : link ≡ h.0 =
      same_Some link h.0 (sym (slice_get_read links (length links) place link refl lt is) ∙ there) in
      let yes : (not link.retired && (link.head == at)) ≡ true =
      ap (λ (l : IntakeView). not l.retired && (l.head == at)) same
      ∙ ap (λ b. not b && (h.0.head == at)) h.2 ∙ eq-eqb h.0.head at h.3 in
      absurd (true≢false (sym yes ∙ none))
]
