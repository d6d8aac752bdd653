-- The least value over those that have not retired is the one of the definition. It does not fall when one of them
-- rises, nor when one is added that is not below it, and is the same for the same values.
use Rattle.std.proofs.Common.{◌≡◌, ℕ, zero, suc, ◌+◌, ◌<◌, ◌≤◌, true, false, Bool, Some, None, Option, refl, ap, sym}
use Rattle.std.proofs.Common.{◌∙◌, ◌⊎◌, subst, inl, inr, arith, length}
use Rattle.std.proofs.lemmas.Bool.{cond-true, cond-false, cases_lt, cases_eq, cases_Bool}
use Rattle.hlc_heads.specs.Low.{lower, least_left, or_else, low}
use Rattle.hlc_heads.specs.Heads.{HeadsView, link_at, IsFloor, floor_of}

-- one of those that have not retired has the value
abbrev pub IsOneLeft : (ℕ → ℕ) → (ℕ → Bool) → ℕ → ℕ → Type 0
IsOneLeft f has_retired n value = (k : ℕ) × (k < n) × (has_retired k ≡ false) × (f k ≡ value)

-- the value is the least over those that have not retired; if all have, it is this one
pub record IsLow (f : ℕ → ℕ) (has_retired : ℕ → Bool) (n top value : ℕ) : Type 0 where
  pub least : (k : ℕ) → k < n → has_retired k ≡ false → value ≤ f k
  pub is : IsOneLeft f has_retired n value ⊎ (((k : ℕ) → k < n → has_retired k ≡ true) × (value ≡ top))

-- the meaning of the least value over those below n
abbrev IsLeft : (ℕ → ℕ) → (ℕ → Bool) → ℕ → Option ℕ → Type 0
IsLeft f has_retired n None = (k : ℕ) → k < n → has_retired k ≡ true
IsLeft f has_retired n (Some value) =
    IsOneLeft f has_retired n value × ((k : ℕ) → k < n → has_retired k ≡ false → value ≤ f k)

skip : (f : ℕ → ℕ) (has_retired : ℕ → Bool) (n : ℕ) (o : Option ℕ) → has_retired n ≡ true → IsLeft f has_retired n o
    → IsLeft f has_retired (suc n) o
skip f has_retired n None out h = λ k lt.
    elim (cases_eq k n) [
      | inl same ↦ ap has_retired same ∙ out
      | inr other ↦ h k (omega arith)
    ]
skip f has_retired n (Some value) out h = (
  (h.0.0, (let l : h.0.0 < n = h.0.1 in omega arith), h.0.2, h.0.3),
  λ k lt in'.
      elim (cases_eq k n) [
        | inl same ↦ absurd (let e : false ≡ true = sym in' ∙ ap has_retired same ∙ out in cc)
        | inr other ↦ h.1 k (omega arith) in'
      ],
)

meet : (f : ℕ → ℕ) (has_retired : ℕ → Bool) (n : ℕ) (o : Option ℕ) → has_retired n ≡ false → IsLeft f has_retired n o
    → IsLeft f has_retired (suc n) (Some (lower o (f n)))
meet f has_retired n None here h = (
  (n, omega arith, here, refl),
  λ k lt in'.
      elim (cases_eq k n) [
        | inl same ↦ (let e : f k ≡ f n = ap f same in omega arith)
        | inr other ↦ absurd (let e : false ≡ true = sym in' ∙ h k (omega arith) in cc)
      ],
)
meet f has_retired n (Some value) here h = (
  elim (cases_lt value (f n)) [
    | inl less ↦
        (h.0.0, (let l : h.0.0 < n = h.0.1 in omega arith), h.0.2, (let e : f h.0.0 ≡ value = h.0.3 in omega arith))
    | inr more ↦ (n, omega arith, here, omega arith)
  ],
  λ k lt in'.
      elim (cases_eq k n) [
        | inl same ↦ (let e : f k ≡ f n = ap f same in omega arith)
        | inr other ↦ (let l : value ≤ f k = h.1 k (omega arith) in' in omega arith)
      ],
)

left-is : (f : ℕ → ℕ) (has_retired : ℕ → Bool) (n : ℕ) → IsLeft f has_retired n (least_left f has_retired n)
left-is f has_retired zero = λ k lt. absurd (omega arith)
left-is f has_retired (suc n) =
    elim (cases_Bool (has_retired n)) [
      | inl out ↦
          subst (λ o. IsLeft f has_retired (suc n) o) (sym (cond-true _ _ _ out))
          (skip f has_retired n (least_left f has_retired n) out (left-is f has_retired n))
      | inr here ↦
          subst (λ o. IsLeft f has_retired (suc n) o) (sym (cond-false _ _ _ here))
          (meet f has_retired n (least_left f has_retired n) here (left-is f has_retired n))
    ]

low-by : (f : ℕ → ℕ) (has_retired : ℕ → Bool) (n top : ℕ) (o : Option ℕ) → IsLeft f has_retired n o
    → IsLow f has_retired n top (or_else o top)
low-by f has_retired n top None h =
    record {
      least = λ k lt in'. absurd (let e : false ≡ true = sym in'
          ∙ h k lt in cc);
      is = inr (h, refl);
    }
low-by f has_retired n top (Some value) h = record { least = h.1; is = inl h.0 }

-- the function computes the least value
pub low-is : (f : ℕ → ℕ) (has_retired : ℕ → Bool) (n top : ℕ) → IsLow f has_retired n top (low f has_retired n top)
low-is f has_retired n top = low-by f has_retired n top (least_left f has_retired n) (left-is f has_retired n)

-- there is only one
pub low-one : (f : ℕ → ℕ) (has_retired : ℕ → Bool) (n top a b : ℕ) → IsLow f has_retired n top a
    → IsLow f has_retired n top b → a ≡ b
low-one f has_retired n top a b x y =
    elim x.is [
      | inl one ↦
          elim y.is [
            | inl other ↦
                let p : b ≤ f one.0 = y.least one.0 one.1 one.2 in
                let q : a ≤ f other.0 = x.least other.0 other.1 other.2 in
                let e : f one.0 ≡ a = one.3 in
                let g : f other.0 ≡ b = other.3 in omega arith
            | inr none ↦ absurd (let e : false ≡ true = sym one.2 ∙ none.0 one.0 one.1 in cc)
          ]
      | inr all' ↦
          elim y.is [
            | inl other ↦ absurd (let e : false ≡ true = sym other.2 ∙ all'.0 other.0 other.1 in cc)
            | inr none ↦ all'.1 ∙ sym none.1
          ]
    ]

-- it does not fall when one of those that have not retired rises, even if that one then retires, and no other changes
pub low-rises : (f g : ℕ → ℕ) (has_retired left : ℕ → Bool) (n top next node stamp : ℕ) → node < n
    → has_retired node ≡ false → f node < stamp → g node ≡ stamp
    → ((k : ℕ) → (k ≡ node → ⊥) → (g k ≡ f k) × (left k ≡ has_retired k)) → stamp ≤ next
    → low f has_retired n top ≤ low g left n next
low-rises f g has_retired left n top next node stamp within here up at others high =
    let was = low-is f has_retired n top in
    let below : low f has_retired n top ≤ f node = was.least node within here in
    elim (low-is g left n next).is [
      | inl one ↦
          let e : g one.0 ≡ low g left n next = one.3 in
          elim (cases_eq one.0 node) [
            | inl same ↦ (let x : g one.0 ≡ g node = ap g same in omega arith)
            | inr other ↦
                let o = others one.0 other in
                let x : low f has_retired n top ≤ f one.0 = was.least one.0 one.1 (sym o.1 ∙ one.2) in
                let y : g one.0 ≡ f one.0 = o.0 in omega arith
          ]
      | inr none ↦ (let e : low g left n next ≡ next = none.1 in omega arith)
    ]

-- nor when one is added that is not below it
pub low-joins : (f g : ℕ → ℕ) (has_retired left : ℕ → Bool) (n top next : ℕ) → low f has_retired n top ≤ g n
    → top ≤ next
    → ((k : ℕ) → k < n → (g k ≡ f k) × (left k ≡ has_retired k))
    → low f has_retired n top ≤ low g left (n + 1) next
low-joins f g has_retired left n top next at rise others =
    let was = low-is f has_retired n top in
    elim (low-is g left (n + 1) next).is [
      | inl one ↦
          let e : g one.0 ≡ low g left (n + 1) next = one.3 in
          let lt : one.0 < n + 1 = one.1 in
          elim (cases_eq one.0 n) [
            | inl same ↦ (let x : g one.0 ≡ g n = ap g same in omega arith)
            | inr other ↦
                let o = others one.0 (omega arith) in
                let x : low f has_retired n top ≤ f one.0 =
                was.least one.0 (omega arith) (sym o.1 ∙ one.2) in
                let y : g one.0 ≡ f one.0 = o.0 in omega arith
          ]
      | inr none ↦
          let e : low g left (n + 1) next ≡ next = none.1 in
          elim was.is [
            | inl one ↦
                absurd (let lt : one.0 < n = one.1 in let x : false ≡ true = sym one.2
                ∙ sym (others one.0 lt).1 ∙ none.0 one.0 (omega arith) in cc)
            | inr all' ↦ (let x : low f has_retired n top ≡ top = all'.1 in omega arith)
          ]
    ]

-- and it does not change if an earlier one has not retired
pub low-stays : (f g : ℕ → ℕ) (has_retired left : ℕ → Bool) (n top next k : ℕ) → k < n → has_retired k ≡ false
    → low f has_retired n top ≤ g n → ((k : ℕ) → k < n → (g k ≡ f k) × (left k ≡ has_retired k))
    → low g left (n + 1) next ≡ low f has_retired n top
low-stays f g has_retired left n top next k within here at others =
    let was = low-is f has_retired n top in
    let is = low-is g left (n + 1) next in
    elim was.is [
      | inl one ↦
          let lt : one.0 < n = one.1 in
          let o = others one.0 lt in
          let e : f one.0 ≡ low f has_retired n top = one.3 in
          let x : g one.0 ≡ f one.0 = o.0 in
          let below : low g left (n + 1) next ≤ g one.0 = is.least one.0 (omega arith) (o.1 ∙ one.2) in
          elim is.is [
            | inl other ↦
                let in' : other.0 < n + 1 = other.1 in
                let y : g other.0 ≡ low g left (n + 1) next = other.3 in
                elim (cases_eq other.0 n) [
                  | inl same ↦ (let z : g other.0 ≡ g n = ap g same in omega arith)
                  | inr apart ↦
                      let p = others other.0 (omega arith) in
                      let z : low f has_retired n top ≤ f other.0 =
                      was.least other.0 (omega arith) (sym p.1 ∙ other.2) in
                      let w : g other.0 ≡ f other.0 = p.0 in omega arith
                ]
            | inr none ↦ absurd (let w : false ≡ true = sym one.2 ∙ sym o.1 ∙ none.0 one.0 (omega arith) in cc)
          ]
      | inr none ↦ absurd (let e : false ≡ true = sym here ∙ none.0 k within in cc)
    ]

least-same : (f g : ℕ → ℕ) (has_retired left : ℕ → Bool) (n : ℕ)
    → ((k : ℕ) → k < n → (f k ≡ g k) × (has_retired k ≡ left k)) → least_left f has_retired n ≡ least_left g left n
least-same f g has_retired left zero same = refl
least-same f g has_retired left (suc n) same =
    let here = same n (omega arith) in
    rw (here.0, here.1, least-same f g has_retired left n (λ k lt. same k (omega arith))) refl

-- the same values have the same least one
pub low-same : (f g : ℕ → ℕ) (has_retired left : ℕ → Bool) (n m top next : ℕ) → n ≡ m → top ≡ next
    → ((k : ℕ) → k < m → (f k ≡ g k) × (has_retired k ≡ left k)) → low f has_retired n top ≡ low g left m next
low-same f g has_retired left n m top next many tops same =
    rw (many, tops) (ap (λ o. or_else o next) (least-same f g has_retired left m same))

-- the floor is the one that the function computes
pub floor-is : (marks : HeadsView) (floor : ℕ) → IsFloor marks floor → floor ≡ floor_of marks
floor-is marks floor h =
    low-one (λ k. (link_at marks.links k).head) (λ k. (link_at marks.links k).retired)
    (length marks.links) marks.top floor (floor_of marks)
    (elim h [
      | inl one ↦ record { least = one.least; is = inl one.is_head }
      | inr none ↦
          record {
            least = λ k lt here. absurd (let e : false ≡ true = sym here
                ∙ none.0 k lt in cc);
            is = inr none;
          }
    ])
    (low-is (λ k. (link_at marks.links k).head) (λ k. (link_at marks.links k).retired)
    (length marks.links) marks.top)
