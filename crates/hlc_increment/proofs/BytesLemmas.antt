-- An increment is read back from its bytes, and from no others.
use Rattle.std.proofs.Common.{◌≡◌, ℕ, zero, suc, List, [], ◌∷◌, Result, Ok, Err, ap, subst, ◌∙◌, IfOk}
use Rattle.hlc_wire.specs.declared.fault.{WireFault.WireFault, DecodeError.DecodeError}
use Rattle.hlc_wire.specs.Reading.{◌>>=◌, Gives}
use Rattle.hlc_wire.proofs.FieldLemmas.{IsBytes, bind_ok, ok_is}
use Rattle.hlc_frame.proofs.FrameLemmas.{opened_is_frame, frame_is_opened}
use Rattle.hlc_saved.proofs.SaveLemmas.{body_bytes, saved_again, saved_takes}
use Rattle.hlc_frame.specs.{Frame.frame_bytes, Frame.FrameFits, Opening.opened}
use Rattle.hlc_body.specs.{Spelling.saved_bytes, Spelling.SavedFits, Reading.saved}
use Rattle.hlc_core.specs.StoreView.{StoreView}
use Rattle.hlc_increment.specs.{declared.bytes.DecodedIncrement.DecodedIncrement, Increment.IncrementView}
use Rattle.hlc_increment.specs.Bytes.{content_bytes, increment_bytes, IncrementFits, state_at, content_at, increment_at}

-- the increment of a stamp and a state
abbrev made_of : ℕ × StoreView → IncrementView
made_of made = record { since = made.0; state = made.1 }

state_takes : (bytes : List ℕ) (increment : IncrementView) → IsBytes bytes → state_at bytes ≡ Ok increment
    → SavedFits increment.since increment.state × (bytes ≡ saved_bytes increment.since increment.state)
unfolding state_at
state_takes bytes increment fits e =
    let a = bind_ok (saved bytes) (λ made. Ok (made_of made)) increment e in
    let t = saved_takes bytes a.0.0 a.0.1 fits a.1 in
    subst (λ (i : IncrementView). SavedFits i.since i.state × (bytes ≡ saved_bytes i.since i.state))
    (ok_is (made_of a.0) increment a.2) t

content_takes : (body : List ℕ) (increment : IncrementView) → IsBytes body → content_at body ≡ Ok increment
    → SavedFits increment.since increment.state × (body ≡ content_bytes increment)
unfolding content_at
content_takes [] increment fits e = absurd cc
content_takes (zero ∷ rest) increment fits e = absurd cc
content_takes (suc zero ∷ rest) increment fits e =
    let t = state_takes rest increment (λ i. fits (suc i)) e in
    (t.0, ap (λ (l : List ℕ). 1 ∷ l) t.1)
content_takes (suc (suc b) ∷ rest) increment fits e = absurd cc

abbrev with_tag : ℕ → Result IncrementView WireFault → Result (ℕ × IncrementView) WireFault
with_tag tag read = read >>= λ increment. Ok (tag, increment)

-- the bytes are the encoding of the result
increment_takes : (bytes : List ℕ) (tag : ℕ) (increment : IncrementView) → IsBytes bytes
    → increment_at bytes ≡ Ok (tag, increment)
    → IncrementFits tag increment × (bytes ≡ increment_bytes tag increment)
increment_takes bytes tag increment fits e =
    let a = bind_ok (opened bytes) (λ frame. with_tag frame.0 (content_at frame.1)) (tag, increment) e in
    let b = bind_ok (content_at a.0.1) (λ i. Ok (a.0.0, i)) (tag, increment) a.2 in
    let f = opened_is_frame bytes a.0.0 a.0.1 fits a.1 in
    let inner : IsBytes a.0.1 = body_bytes bytes a.0.0 a.0.1 fits f.1 in
    let c = content_takes a.0.1 b.0 inner b.1 in
    let made : IncrementFits a.0.0 b.0 × (bytes ≡ increment_bytes a.0.0 b.0) = (
      record { frame = subst (λ (l : List ℕ). FrameFits a.0.0 l) c.1 f.0; state = c.0 },
      f.1 ∙ ap (λ (l : List ℕ). frame_bytes a.0.0 l) c.1,
    ) in
    subst (λ (x : ℕ × IncrementView). IncrementFits x.0 x.1 × (bytes ≡ increment_bytes x.0 x.1))
    (ok_is (a.0.0, b.0) (tag, increment) b.2) made

content_again : (increment : IncrementView) → SavedFits increment.since increment.state
    → content_at (content_bytes increment) ≡ Ok increment
unfolding content_at state_at
content_again increment fits =
    ap (λ (r : Result (ℕ × StoreView) WireFault). r >>= λ made. Ok (made_of made))
    (saved_again increment.since increment.state fits)

-- the encoding of a tag and an increment is read
pub increment_again : (tag : ℕ) (increment : IncrementView) → IncrementFits tag increment
    → increment_at (increment_bytes tag increment) ≡ Ok (tag, increment)
increment_again tag increment fits =
    ap (λ (r : Result (ℕ × List ℕ) WireFault). r >>= λ frame. with_tag frame.0 (content_at frame.1))
    (frame_is_opened tag (content_bytes increment) fits.frame)
    ∙ ap (with_tag tag) (content_again increment fits.state)

pub found : (r : Result DecodedIncrement DecodeError) (bytes : List ℕ) → IsBytes bytes
    → Gives (λ (made : DecodedIncrement). (made.tag, made.increment)) r (increment_at bytes)
    → IfOk r (λ made. IncrementFits made.tag made.increment × (bytes ≡ increment_bytes made.tag made.increment))
found (Ok made) bytes fits e = increment_takes bytes made.tag made.increment fits e
found (Err error) bytes fits e = tt
