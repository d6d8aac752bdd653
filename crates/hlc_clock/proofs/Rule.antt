-- The function that computes a clock's answer meets the clock's rule: the next stamp is the least one above each
-- earlier stamp and not below the reading, since it is the greater of the two least bounds.
use Rattle.std.proofs.Common.{◌≡◌, ℕ, suc, ◌+◌, ◌*◌, ◌<◌, ◌≤◌, List, [], ◌∷◌, length, max, true, refl, arith, inl, inr}
use Rattle.std.specs.{Prelude.All, Prelude.Contains, Prelude.nat_lt, Prelude.nat_le, Bool.Decides}
use Rattle.std.proofs.lemmas.List.Elements.{All-nil, All-cons, All-head, All-tail, All-weaker}
use Rattle.std.proofs.lemmas.Bool.{Decides.Decides-by_and, Decides.Decides-ltb, cases_lt, cases_Bool, and_parts}
use Rattle.std.proofs.lemmas.Bool.{and_from, ltb-true, lt-ltb, leb-true, leb-false, both_ways}
use Rattle.hlc_clock.specs.declared.stamp.TheConstants.{READING_BOUND, COUNTER_BOUND}
use Rattle.hlc_clock.specs.Stamp.{physical}
use Rattle.hlc_clock.specs.NextStamp.{IsNext, IsCarried, above, greatest, next_stamp, all_below, is_carried}
use Rattle.hlc_clock.specs.NextStamp.{expected_stamp, IsClockAnswer}

above-all : (es : List ℕ) → All (λ e. e < above es) es
above-all [] = All-nil (λ e. e < 0)
above-all (e ∷ es) =
    All-cons (λ x. x < max (e + 1) (above es)) e es (omega arith)
    (All-weaker (λ x. x < above es) (λ x. x < max (e + 1) (above es)) (λ x h. omega arith) es (above-all es))

above-least : (es : List ℕ) (t : ℕ) → All (λ e. e < t) es → above es ≤ t
above-least [] t h = omega arith
above-least (e ∷ es) t h =
    let a : e < t = All-head (λ x. x < t) e es h in
    let b : above es ≤ t = above-least es t (All-tail (λ x. x < t) e es h) in omega arith

greatest-all : (es : List ℕ) → All (λ e. e ≤ greatest es) es
greatest-all [] = All-nil (λ e. e ≤ 0)
greatest-all (e ∷ es) =
    All-cons (λ x. x ≤ max e (greatest es)) e es (omega arith)
    (All-weaker (λ x. x ≤ greatest es) (λ x. x ≤ max e (greatest es)) (λ x h. omega arith) es (greatest-all es))

contains-later : (y : ℕ) (xs : List ℕ) (x : ℕ) → Contains xs x → Contains (y ∷ xs) x
contains-later y xs x h = (suc h.0, (let l : h.0 < length xs = h.1 in omega arith), h.2)

contains-first : (xs : List ℕ) (y x : ℕ) → y ≡ x → Contains (y ∷ xs) x
contains-first xs y x h = (0, omega arith, h)

greatest-member : (e : ℕ) (es : List ℕ) → Contains (e ∷ es) (greatest (e ∷ es))
greatest-member e [] = contains-first [] e (max e 0) (omega arith)
greatest-member e (f ∷ fs) =
    elim (cases_lt e (greatest (f ∷ fs))) [
      | inr h ↦ contains-first (f ∷ fs) e (max e (greatest (f ∷ fs))) (omega arith)
      | inl h ↦
          let same : greatest (f ∷ fs) ≡ max e (greatest (f ∷ fs)) = omega arith in
          rw same at (contains-later e (f ∷ fs) (greatest (f ∷ fs)) (greatest-member f fs))
    ]

all_below-Decides : (es : List ℕ) (l : ℕ) → Decides (all_below es l) (All (λ e. physical e < l) es)
all_below-Decides es l =
    Decides-by_and (λ e. nat_lt (physical e) l) (λ e. physical e < l) (λ xs. all_below xs l)
    (λ e. Decides-ltb (physical e) l) refl (λ _ _. refl) es

-- the next stamp is the least one
pub next_stamp-is_next : (es : List ℕ) (p : ℕ) → IsNext es p (next_stamp es p)
next_stamp-is_next es p = record {
  after = record {
    above =
        All-weaker (λ x. x < above es) (λ x. x < max (above es) (COUNTER_BOUND * p)) (λ x h. omega arith) es
        (above-all es);
    not_below = omega arith;
  };
  least = λ other h. (let a : above es ≤ other = above-least es other h.above in
      let b : COUNTER_BOUND * p ≤ other = h.not_below in omega arith);
}

-- there is at most one next stamp
pub IsNext-unique : (es : List ℕ) (p s t : ℕ) → IsNext es p s → IsNext es p t → s ≡ t
IsNext-unique es p s t h k =
    let a : s ≤ t = h.least t k.after in let b : t ≤ s = k.least s h.after in omega arith

carried-true : (es : List ℕ) (p : ℕ) → is_carried es p ≡ true → IsCarried es p (next_stamp es p)
carried-true es p h =
    let both : (nat_lt p (physical (next_stamp es p)) ≡ true) × (all_below es (physical (next_stamp es p)) ≡ true) =
    and_parts _ _ h in
    record {
      past_reading = ltb-true _ _ both.0;
      past_earlier = (all_below-Decides es (physical (next_stamp es p))).0 both.1;
    }

carried-from : (es : List ℕ) (p : ℕ) → IsCarried es p (next_stamp es p) → is_carried es p ≡ true
carried-from es p h =
    and_from _ _ (lt-ltb _ _ h.past_reading) ((all_below-Decides es (physical (next_stamp es p))).1 h.past_earlier)

-- the answer of the function meets the rule
pub expected_is_answer : (e : ℕ) (es : List ℕ) (p : ℕ) → IsClockAnswer (e ∷ es) p (expected_stamp (e ∷ es) p)
expected_is_answer e es p =
    elim (cases_Bool (nat_le READING_BOUND p)) [
      | inl large ↦ rw large (leb-true READING_BOUND p large)
      | inr small ↦
          let below : p < READING_BOUND = leb-false READING_BOUND p small in
          elim (cases_Bool (is_carried (e ∷ es) p)) [
            | inl carried ↦
                rw (small, carried) (
                  below,
                  record { member = greatest-member e es; greatest = greatest-all (e ∷ es) },
                  λ s h. rw (IsNext-unique (e ∷ es) p s (next_stamp (e ∷ es) p) h (next_stamp-is_next (e ∷ es) p))
                      (carried-true (e ∷ es) p carried),
                )
            | inr not_carried ↦
                rw (small, not_carried) (
                  below,
                  next_stamp-is_next (e ∷ es) p,
                  λ h. both_ways (is_carried (e ∷ es) p) not_carried (carried-from (e ∷ es) p h),
                )
          ]
    ]
