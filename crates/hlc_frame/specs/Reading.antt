-- A frame that is read in blocks of any size.
use Rattle.std.specs.Prelude.{◌≡◌, ℕ, ◌-◌, List, [], ◌++◌, length, take, drop, nat_lt, Option, Some, None, Result, Ok}
use Rattle.std.specs.Prelude.{Err}
use Rattle.sha2.specs.Hashers.{Holds256}
use Rattle.hlc_wire.specs.{declared.fault.WireFault.WireFault, Reading.◌>>=◌, Reading.whole}
use Rattle.hlc_frame.specs.declared.{front.Front.Front, rest.RestReader.RestReader, reader.FrameReader.FrameReader}
use Rattle.hlc_frame.specs.Opening.{front_at, sealed_at, opened}

-- the part of the body that follows a front: nothing if there is no front
abbrev pub body_after : Result (Front × List ℕ) WireFault → List ℕ
body_after (Ok front) = take front.0.len front.1
body_after (Err fault) = []

-- the part of the body in these bytes: nothing while the front is incomplete, or of another version
unfoldable pub body_so_far : List ℕ → List ℕ
body_so_far fed = body_after (front_at fed)

-- the tag of the frame, or the first fault
abbrev pub tag_of : List ℕ → Result ℕ WireFault
tag_of fed = opened fed >>= λ frame. Ok frame.0

-- the tag of the frame, if these bytes after its front are a body of this length, its digest, and nothing more
abbrev pub tag_after : ℕ → List ℕ → ℕ → List ℕ → Result ℕ WireFault
tag_after tag front len bytes = whole (sealed_at front len bytes) >>= λ body. Ok tag

-- after this front, which promises a body of `len` bytes, the reader has read these bytes
pub record HasReadRest (rest : RestReader) (front : List ℕ) (len : ℕ) (bytes : List ℕ) : Type 0 where
  pub hashed : Holds256 rest.hasher (front ++ take len bytes)
  pub left : rest.left ≡ len - length bytes
  pub digest : rest.digest.items ≡ take 32 (drop len bytes)
  pub more : rest.more ≡ nat_lt 0 (length (drop 32 (drop len bytes)))

-- if there is a front, the reader continues after it
abbrev pub GoesOn : Result (Front × List ℕ) WireFault → Option RestReader → List ℕ → List ℕ → Type 0
GoesOn (Ok found) (Some rest) front bytes = HasReadRest rest front found.0.len bytes
GoesOn (Err fault) None front bytes = Unit {0}
GoesOn (Ok found) None front bytes = ⊥
GoesOn (Err fault) (Some rest) front bytes = ⊥

-- the reader was fed these bytes
pub record HasRead (reader : FrameReader) (fed : List ℕ) : Type 0 where
  pub front : reader.front.items ≡ take 20 fed
  pub rest : GoesOn (front_at (take 20 fed)) reader.rest (take 20 fed) (drop 20 fed)
