-- Stamps follow events, on machines, through messages and through stores.
use Rattle.std.proofs.Common.{◌≡◌, ℕ, ◌<◌, ◌≤◌, List, [], ◌∷◌, length, Some, max, refl, ap, sym, ◌∙◌}
use Rattle.std.proofs.Common.{subst, inl, inr, arith}
use Rattle.hlc_ranges.specs.Run.{Layout, Turn, Issued, Sent, Received, Observed, Stepped, stamping_of, mark_of}
use Rattle.hlc_ranges.specs.Run.{raised_by, last_stamp, turn_at, IsMessage, IsAllowed, IsLegal}
use Rattle.hlc_ranges.specs.Before.{IsStamped, HappenedBefore, on_machine, on_message, on_observation, through}
use Rattle.hlc_ranges.proofs.Turns.{some-injective, turn-cases, turn-inside, turn-keeps, raised-same, clock-grows}

-- a new stamp of a machine lies above its clock
stamp-new : (layout : Layout) (turn : Turn) (run : List Turn) (p : ℕ × ℕ) → IsAllowed layout turn run
    → stamping_of layout turn ≡ Some p → last_stamp layout p.0 run < p.1
stamp-new layout (Issued s item) run p allowed h = subst (λ q. last_stamp layout q.0 run < q.1)
    (some-injective (layout.machine s item.node, item.stamp) p h) allowed.4
stamp-new layout (Sent m st) run p allowed h =
    subst (λ q. last_stamp layout q.0 run < q.1) (some-injective (m, st) p h) allowed
stamp-new layout (Received m k st) run p allowed h =
    subst (λ q. last_stamp layout q.0 run < q.1) (some-injective (m, st) p h) allowed.0
stamp-new layout (Observed m s at st) run p allowed h =
    subst (λ q. last_stamp layout q.0 run < q.1) (some-injective (m, st) p h) allowed.0
stamp-new layout (Stepped s step) run p allowed h = absurd (cc)

-- a stamp raises the clock
mark-stamped : (layout : Layout) (turn : Turn) (p : ℕ × ℕ) → stamping_of layout turn ≡ Some p
    → mark_of layout turn ≡ Some p
mark-stamped layout (Issued s item) p h = h
mark-stamped layout (Sent m st) p h = h
mark-stamped layout (Received m k st) p h = h
mark-stamped layout (Observed m s at st) p h = h
mark-stamped layout (Stepped s step) p h = absurd (cc)

-- no stamp of a machine lies above its clock
stamp-low : (layout : Layout) (run : List Turn) (i m a : ℕ) (x : Turn) → turn_at run i ≡ Some x
    → stamping_of layout x ≡ Some (m, a) → a ≤ last_stamp layout m run
stamp-low layout [] i m a x at mark = absurd (cc)
stamp-low layout (turn ∷ run) i m a x at mark =
    elim (turn-cases turn run i x at) [
      | inl here ↦
          (let e : mark_of layout turn ≡ Some (m, a) =
          mark-stamped layout turn (m, a) (ap (λ y. stamping_of layout y) here.1 ∙ mark) in
          let f : last_stamp layout m (turn ∷ run) ≡ max (last_stamp layout m run) a =
          ap (λ o. raised_by m o (last_stamp layout m run)) e
          ∙ raised-same m (m, a) (last_stamp layout m run) refl in omega arith)
      | inr there ↦
          (let l : a ≤ last_stamp layout m run = stamp-low layout run i m a x there.1 mark in
          let g = clock-grows layout m turn run in omega (arith, g))
    ]

on_machine-less : (layout : Layout) (run : List Turn) (i j m a b : ℕ) (x y : Turn) → IsLegal layout run → i < j
    → turn_at run i ≡ Some x → stamping_of layout x ≡ Some (m, a) → turn_at run j ≡ Some y
    → stamping_of layout y ≡ Some (m, b) → a < b
on_machine-less layout [] i j m a b x y legal lt at_i h at_j k = absurd (cc)
on_machine-less layout (turn ∷ run) i j m a b x y legal lt at_i h at_j k =
    let in_j : j < length (turn ∷ run) = turn-inside (turn ∷ run) j y at_j in
    elim (turn-cases turn run i x at_i) [
      | inl here ↦ absurd (let e : i ≡ length run = here.0 in omega arith)
      | inr there ↦
          elim (turn-cases turn run j y at_j) [
            | inr earlier ↦ on_machine-less layout run i j m a b x y legal.1 lt there.1 h earlier.1 k
            | inl last ↦
                (let up = stamp-new layout turn run (m, b) legal.0 (ap (λ z. stamping_of layout z) last.1 ∙ k) in
                let low = stamp-low layout run i m a x there.1 h in omega (arith, up, low))
          ]
    ]

message-keeps : (turn : Turn) (run : List Turn) (number stamp : ℕ) → IsMessage run number stamp
    → IsMessage (turn ∷ run) number stamp
message-keeps turn run number stamp h = (h.0, h.1, turn-keeps turn run number (Sent h.0 h.1) h.2, h.3)

-- a receipt lies above the stamp of its message
received-above : (layout : Layout) (run : List Turn) (j m number b : ℕ) → IsLegal layout run
    → turn_at run j ≡ Some (Received m number b) → IsMessage run number b
received-above layout [] j m number b legal at = absurd (cc)
received-above layout (turn ∷ run) j m number b legal at =
    elim (turn-cases turn run j _ at) [
      | inr there ↦ message-keeps turn run number b (received-above layout run j m number b legal.1 there.1)
      | inl here ↦ message-keeps turn run number b (subst (λ x. IsAllowed layout x run) here.1 legal.0).1
    ]

-- an observation lies above the stamp at which the store was observed
observed-above : (layout : Layout) (run : List Turn) (j m s at b : ℕ) → IsLegal layout run
    → turn_at run j ≡ Some (Observed m s at b) → at < b
observed-above layout [] j m s at b legal h = absurd (cc)
observed-above layout (turn ∷ run) j m s at b legal h =
    elim (turn-cases turn run j _ h) [
      | inr there ↦ observed-above layout run j m s at b legal.1 there.1
      | inl here ↦ (subst (λ x. IsAllowed layout x run) here.1 legal.0).3
    ]

sent-stamp : (n a m b : ℕ) → Some (Sent n a) ≡ Some (Sent m b) → a ≡ b
sent-stamp n a m b e = (let f : Sent n a ≡ Sent m b = some-injective (Sent n a) (Sent m b) e in cc)

-- both events have stamps, which rise
record HaveStamps (layout : Layout) (run : List Turn) (i j : ℕ) : Type 0 where
  pub m : ℕ
  pub a : ℕ
  pub n : ℕ
  pub b : ℕ
  pub first : IsStamped layout run i m a
  pub later : IsStamped layout run j n b
  pub rise : a < b

-- one event has one stamp
stamp-unique : (layout : Layout) (run : List Turn) (i m a n b : ℕ) → IsStamped layout run i m a
    → IsStamped layout run i n b → a ≡ b
stamp-unique layout run i m a n b h k =
    let e : Some h.turn ≡ Some k.turn = sym h.at ∙ k.at in
    let f : ◌≡◌ {A = ℕ × ℕ} (m, a) (n, b) =
    some-injective (m, a) (n, b) (sym h.mark ∙ ap (λ z. stamping_of layout z) (some-injective _ _ e) ∙ k.mark) in
    ap (λ z. z.1) f

ends : (layout : Layout) (run : List Turn) → IsLegal layout run → {i j : ℕ} → HappenedBefore layout run i j
    → HaveStamps layout run i j
ends layout run legal (on_machine {first} {later} m a b lt h k) = record {
  m = m;
  a = a;
  n = m;
  b = b;
  first = h;
  later = k;
  rise = on_machine-less layout run first later m a b h.turn k.turn legal lt h.at h.mark k.at k.mark;
}
ends layout run legal (on_message {first} {later} n a m b h g) =
    let x = received-above layout run later m first b legal g in
    let e : a ≡ x.1 = sent-stamp n a x.0 x.1 (sym h ∙ x.2) in
    let up : x.1 < b = x.3 in record {
      m = n;
      a = a;
      n = m;
      b = b;
      first = record { turn = Sent n a; at = h; mark = refl };
      later = record { turn = Received m first b; at = g; mark = refl };
      rise = omega arith;
    }
ends layout run legal (on_observation {first} {later} s item m at b h low g) =
    let up : at < b = observed-above layout run later m s at b legal g in record {
      m = layout.machine s item.node;
      a = item.stamp;
      n = m;
      b = b;
      first = record { turn = Issued s item; at = h; mark = refl };
      later = record { turn = Observed m s at b; at = g; mark = refl };
      rise = omega arith;
    }
ends layout run legal (through {first} {middle} {last} x y) =
    let one = ends layout run legal x in
    let two = ends layout run legal y in
    let e : one.b ≡ two.a = stamp-unique layout run middle one.n one.b two.m two.a one.later two.first in
    let u : one.a < one.b = one.rise in
    let v : two.a < two.b = two.rise in
    record { m = one.m; a = one.a; n = two.n; b = two.b; first = one.first; later = two.later; rise = omega arith }

pub less : (layout : Layout) (run : List Turn) (i j m a n b : ℕ) → IsLegal layout run → HappenedBefore layout run i j
    → IsStamped layout run i m a → IsStamped layout run j n b → a < b
less layout run i j m a n b legal before h k =
    let both = ends layout run legal before in
    let x : both.a ≡ a = stamp-unique layout run i both.m both.a m a both.first h in
    let y : both.b ≡ b = stamp-unique layout run j both.n both.b n b both.later k in
    let r : both.a < both.b = both.rise in omega arith

-- no clock is below that of the beginning, and each stamp is above it
clock-low : (layout : Layout) (run : List Turn) (m : ℕ) → layout.clock m ≤ last_stamp layout m run
clock-low layout [] m = omega arith
clock-low layout (turn ∷ run) m =
    (let h = clock-low layout run m in let g = clock-grows layout m turn run in omega (arith, h, g))

above-clock : (layout : Layout) (run : List Turn) (j m b : ℕ) (y : Turn) → IsLegal layout run → turn_at run j ≡ Some y
    → stamping_of layout y ≡ Some (m, b) → layout.clock m < b
above-clock layout [] j m b y legal at mark = absurd (cc)
above-clock layout (turn ∷ run) j m b y legal at mark =
    elim (turn-cases turn run j y at) [
      | inr there ↦ above-clock layout run j m b y legal.1 there.1 mark
      | inl here ↦
          (let up = stamp-new layout turn run (m, b) legal.0 (ap (λ z. stamping_of layout z) here.1 ∙ mark) in
          let low = clock-low layout run m in omega (arith, up, low))
    ]

-- so the stamps of a machine go on rising from run to run
pub clocks-on : (old new : Layout) (run later : List Turn) (first second m a b : ℕ) → IsLegal new later
    → last_stamp old m run ≤ new.clock m → IsStamped old run first m a → IsStamped new later second m b → a < b
clocks-on old new run later first second m a b legal reached h k =
    let low = stamp-low old run first m a h.turn h.at h.mark in
    let up = above-clock new later second m b k.turn legal k.at k.mark in
    let reached' : last_stamp old m run ≤ new.clock m = reached in omega (arith, low, up)
