-- Every link of a legal run is one of its machine and its store: the store accepted the first of its items, and all
-- others are above its head.
use Rattle.std.proofs.Common.{◌≡◌, ℕ, Bool, false, ◌+◌, ◌<◌, ◌≤◌, List, [], ◌∷◌, length, Some, max, refl, ap, sym, ◌∙◌}
use Rattle.std.proofs.Common.{subst, inl, inr, arith}
use Rattle.std.{specs.Prelude.Contains, proofs.lemmas.Bool.cases_eq}
use Rattle.hlc_node.specs.declared.item.Item.{Item}
use Rattle.hlc_core.specs.{Past.Step, Past.Started, Past.Began, Past.Took, Past.Joined, Past.numbered, Past.count}
use Rattle.hlc_core.specs.{Past.head, Past.retired, Past.IsLegal as IsLegalPast, Replicas.items_of, Replicas.begun}
use Rattle.hlc_core.proofs.PastLemmas.{inside, on_link, admissible, head-same, head-other, head-joined}
use Rattle.hlc_core.proofs.PastLemmas.{head-joined_other}
use Rattle.hlc_replicas.proofs.ReplicaLemmas.{items-same, items-other}
use Rattle.hlc_ranges.specs.Run.{Layout, Turn, Issued, Stepped, past_of, issued, mark_of, raised_by, last_stamp}
use Rattle.hlc_ranges.specs.Run.{ends_with, has_ended, next_number, IsIssuedStep, IsAllowed, IsLegal}
use Rattle.hlc_ranges.proofs.Links.{IsLink, link-begins, link-rises, link-issue, link-took, link-more, link-start}
use Rattle.hlc_ranges.proofs.Turns.{raised-same, clock-grows, past-same, past-other, issued-same, issued-other_node}
use Rattle.hlc_ranges.proofs.Turns.{issued-other, stepped-none}
use Rattle.hlc_ranges.proofs.Begins.{untaken, count-since}

-- a link of a node in a past
abbrev pub IsLinkOf : ℕ → Bool → ℕ → ℕ → List Item → List Step → Type 0
IsLinkOf base ended last n items past = IsLink base ended last (numbered past) n items (items_of n past) (head n past)

-- after a step of its store, which took only an item of the link
pub link-step : (base : ℕ) (ended : Bool) (last n : ℕ) (items : ℕ → List Item) (step : Step) (past : List Step)
    → IsLegalPast (step ∷ past) → begun (step ∷ []) ≡ [] → count n past ≡ base + length (items_of n past)
    → ((item : Item) → step ≡ Took item → Contains (items item.node) item)
    → ((start : ℕ) → step ≡ Joined n start → start ≤ last)
    → IsLinkOf base ended last n (items n) past → IsLinkOf base ended last n (items n) (step ∷ past)
link-step base ended last n items (Started nodes) past legal none counted from up h =
    link-more base ended last (numbered past) (numbered past + nodes) n (items n) (items_of n past) (head n past)
    (omega arith) h
link-step base ended last n items (Began kept) past legal none counted from up h = absurd (cc)
link-step base ended last n items (Took item) past legal none counted from up h =
    elim (cases_eq item.node n) [
      | inl same ↦
          let is = admissible _ _ _ item (sym (on_link past item (inside past item legal.0)) ∙ legal.0) in
          let number : item.number ≡ base + length (items_of n past) =
          is.number ∙ ap (λ k. count k past) same ∙ counted in
          let took = link-took base ended last (numbered past) n (items n) (items_of n past) (head n past) item h
          (subst (λ k. Contains (items k) item) same (from item refl)) number in
          subst (λ top. IsLink base ended last (numbered past) n (items n) (items_of n (Took item ∷ past)) top)
          (sym (head-same n item past same))
          (subst (λ xs. IsLink base ended last (numbered past) n (items n) xs item.stamp)
          (sym (items-same n item past same)) took)
      | inr other ↦
          subst (λ top. IsLink base ended last (numbered past) n (items n) (items_of n (Took item ∷ past)) top)
          (sym (head-other n item past other))
          (subst (λ xs. IsLink base ended last (numbered past) n (items n) xs (head n past))
          (sym (items-other n item past other)) h)
    ]
link-step base ended last n items (Joined node start) past legal none counted from up h =
    elim (cases_eq node n) [
      | inl same ↦
          let is : n ≡ numbered past = sym same ∙ legal.1 in
          subst (λ top. IsLink base ended last (numbered past + 1) n (items n) (items_of n past) top)
          (sym (head-joined n node start past same))
          (link-start base ended last (numbered past) n (items n) (items_of n past) (head n past) start is
          (up start (ap (λ k. Joined k start) same)) h)
      | inr other ↦
          subst (λ top. IsLink base ended last (numbered past + 1) n (items n) (items_of n past) top)
          (sym (head-joined_other n node start past other))
          (link-more base ended last (numbered past) (numbered past + 1) n (items n) (items_of n past) (head n past)
          (omega arith) h)
    ]
link-step base ended last n items step past legal none counted from up h = h

-- every link fits
abbrev pub IsOrderly : Layout → List Turn → Type 0
IsOrderly layout run =
    (s n : ℕ)
    → IsLinkOf (count n (layout.begun s)) (retired n (layout.begun s)) (last_stamp layout (layout.machine s n) run) n
    (issued s n run) (past_of layout s run)

-- a turn that changes only a clock
orderly-clock : (layout : Layout) (turn : Turn) (run : List Turn) → IsOrderly layout run → (s n : ℕ)
    → IsLinkOf (count n (layout.begun s)) (retired n (layout.begun s))
    (last_stamp layout (layout.machine s n) (turn ∷ run)) n (issued s n run) (past_of layout s run)
orderly-clock layout turn run h s n =
    link-rises (count n (layout.begun s)) (retired n (layout.begun s)) _ _ (numbered (past_of layout s run)) n
    (issued s n run) (items_of n (past_of layout s run)) (head n (past_of layout s run))
    (clock-grows layout (layout.machine s n) turn run) (h s n)

orderly-issued : (layout : Layout) (t : ℕ) (item : Item) (run : List Turn) → IsAllowed layout (Issued t item) run
    → IsOrderly layout run → IsOrderly layout (Issued t item ∷ run)
orderly-issued layout t item run allowed h = λ s n.
    let base : ℕ = count n (layout.begun s) in
    let ended : Bool = retired n (layout.begun s) in
    let clocked = orderly-clock layout (Issued t item) run h s n in
    let many : ℕ = numbered (past_of layout s run) in
    let last : ℕ = last_stamp layout (layout.machine s n) (Issued t item ∷ run) in
    elim (cases_eq t s) [
      | inr other ↦ subst (λ xs. IsLinkOf base ended last n xs (past_of layout s run))
          (sym (issued-other s t n item run other)) clocked
      | inl same ↦
          elim (cases_eq item.node n) [
            | inr other ↦ subst (λ xs. IsLinkOf base ended last n xs (past_of layout s run))
                (sym (issued-other_node s t n item run same other)) clocked
            | inl own ↦
                let within : n < many = subst (λ k. k < many) own
                (subst (λ k. item.node < numbered (past_of layout k run)) same allowed.1) in
                let open' : ends_with ended (issued s n run) ≡ false =
                subst (λ k. has_ended layout s k run ≡ false) own
                (subst (λ k. has_ended layout k item.node run ≡ false) same allowed.2) in
                let number : item.number ≡ base + length (issued s n run) =
                allowed.3 ∙ ap (λ k. next_number layout k item.node run) same
                ∙ ap (λ k. next_number layout s k run) own in
                let machine : layout.machine t item.node ≡ layout.machine s n =
                ap (λ k. layout.machine k item.node) same ∙ ap (λ k. layout.machine s k) own in
                let up : last_stamp layout (layout.machine s n) run < item.stamp =
                subst (λ k. last_stamp layout k run < item.stamp) machine allowed.4 in
                let made = link-issue base ended _ many n (issued s n run) (items_of n (past_of layout s run))
                (head n (past_of layout s run)) item (h s n) within open' number up in
                let at = raised-same (layout.machine s n) (layout.machine t item.node, item.stamp)
                (last_stamp layout (layout.machine s n) run) machine in
                subst (λ xs. IsLinkOf base ended last n xs (past_of layout s run))
                (sym (issued-same s t n item run same own))
                (link-rises base ended item.stamp last many n (item ∷ issued s n run)
                (items_of n (past_of layout s run)) (head n (past_of layout s run)) (omega (arith, at)) made)
          ]
    ]

orderly-stepped : (layout : Layout) (t : ℕ) (step : Step) (run : List Turn) → IsLegal layout (Stepped t step ∷ run)
    → IsOrderly layout run → IsOrderly layout (Stepped t step ∷ run)
orderly-stepped layout t step run legal h = λ s n.
    let allowed = legal.0 in
    let base : ℕ = count n (layout.begun s) in
    let ended : Bool = retired n (layout.begun s) in
    let clocked = orderly-clock layout (Stepped t step) run h s n in
    let last : ℕ = last_stamp layout (layout.machine s n) (Stepped t step ∷ run) in
    elim (cases_eq t s) [
      | inr other ↦ subst (λ past. IsLinkOf base ended last n (issued s n run) past)
          (sym (past-other layout s t step run other)) clocked
      | inl same ↦
          subst (λ past. IsLinkOf base ended last n (issued s n run) past) (sym (past-same layout s t step run same))
          (link-step base ended last n (λ k. issued s k run) step (past_of layout s run)
          (subst (λ k. IsLegalPast (step ∷ past_of layout k run)) same allowed.1)
          (stepped-none layout t step run legal) (count-since layout run s n legal.1)
          (λ item is. subst (λ k. Contains (issued k item.node run) item) same
          (subst (λ x. IsIssuedStep t x run) is allowed.2))
          (λ start is.
          let at : mark_of layout (Stepped t step) ≡ Some (layout.machine t n, start) =
          ap (λ x. mark_of layout (Stepped t x)) is in
          let machine : layout.machine t n ≡ layout.machine s n = ap (λ k. layout.machine k n) same in
          let e : last ≡ max (last_stamp layout (layout.machine s n) run) start =
          ap (λ o. raised_by (layout.machine s n) o (last_stamp layout (layout.machine s n) run)) at
          ∙ raised-same (layout.machine s n) (layout.machine t n, start) _ machine in
          omega arith)
          clocked)
    ]

-- every legal run is orderly
pub orderly : (layout : Layout) (run : List Turn) → IsLegal layout run → IsOrderly layout run
orderly layout [] legal = λ s n.
    subst
    (λ xs. IsLink (count n (layout.begun s)) (retired n (layout.begun s)) (layout.clock (layout.machine s n))
    (numbered (layout.begun s)) n [] xs (head n (layout.begun s)))
    (sym (untaken layout s n legal))
    (link-begins (count n (layout.begun s)) (retired n (layout.begun s)) (layout.clock (layout.machine s n))
    (numbered (layout.begun s)) n (head n (layout.begun s)) (legal.reached s n))
orderly layout (Issued t item ∷ run) legal = orderly-issued layout t item run legal.0 (orderly layout run legal.1)
orderly layout (Stepped t step ∷ run) legal = orderly-stepped layout t step run legal (orderly layout run legal.1)
orderly layout (turn ∷ run) legal = orderly-clock layout turn run (orderly layout run legal.1)
