-- The one encoding of each increment, and reading it.
use Rattle.std.specs.Prelude.{◌≡◌, ℕ, zero, suc, List, [], ◌∷◌, Result, Ok, Err}
use Rattle.hlc_wire.specs.declared.fault.WireFault.{WireFault, TheVariants.Short, TheVariants.Kind}
use Rattle.hlc_wire.specs.Reading.{◌>>=◌}
use Rattle.hlc_frame.specs.{Frame.frame_bytes, Frame.FrameFits, Opening.opened}
use Rattle.hlc_body.specs.{Spelling.saved_bytes, Spelling.SavedFits, Reading.saved}
use Rattle.hlc_saved.specs.Saved.{AreFrame}
use Rattle.hlc_increment.specs.Increment.{IncrementView}

-- a byte 1, with which no checkpoint begins, and the state, in a frame whose tag is the stamp
abbrev pub content_bytes : IncrementView → List ℕ
content_bytes increment = 1 ∷ saved_bytes increment.since increment.state

-- in a frame, with a tag of the caller's
abbrev pub increment_bytes : ℕ → IncrementView → List ℕ
increment_bytes tag increment = frame_bytes tag (content_bytes increment)

-- what has an encoding
pub record IncrementFits (tag : ℕ) (increment : IncrementView) : Type 0 where
  pub frame : FrameFits tag (content_bytes increment)
  pub state : SavedFits increment.since increment.state

-- all of the bytes are one frame, whose body is a byte 1 and one frame
abbrev pub AreFrames : List ℕ → Type 0
AreFrames bytes = (tag : ℕ) × (state : List ℕ) × (opened bytes ≡ Ok (tag, 1 ∷ state)) × AreFrame state

-- a state and its stamp
unfoldable pub state_at : List ℕ → Result IncrementView WireFault
state_at bytes = do
  made ← saved bytes
  Ok (record { since = made.0; state = made.1 })

-- the body of a frame
unfoldable pub content_at : List ℕ → Result IncrementView WireFault
content_at [] = Err Short
content_at (zero ∷ rest) = Err Kind
content_at (suc zero ∷ rest) = state_at rest
content_at (suc (suc b) ∷ rest) = Err Kind

-- all of the bytes are a frame, and all of its body is an increment
abbrev pub increment_at : List ℕ → Result (ℕ × IncrementView) WireFault
increment_at bytes = do
  frame ← opened bytes
  increment ← content_at frame.1
  Ok (frame.0, increment)
