-- Reading a frame from left to right, up to the first fault.
use Rattle.std.specs.Prelude.{ℕ, List, ◌++◌, take, Result, Ok, Err, bytes_eq, ◌==◌, if◌then◌else◌}
use Rattle.std.specs.Int.{w32, w64}
use Rattle.sha2.specs.Sha256.{sha256}
use Rattle.hlc_wire.specs.declared.fault.WireFault.{WireFault, TheVariants.Version, TheVariants.Damaged}
use Rattle.hlc_wire.specs.Reading.{◌>>=◌, number_at, bytes_at, whole}
use Rattle.hlc_frame.specs.declared.front.Front.{Front}

-- the front: the version, the length of the body, the tag; and the bytes after it
unfoldable pub front_at : List ℕ → Result (Front × List ℕ) WireFault
front_at bytes = do
  version ← number_at w32 bytes
  rest ← if version.0 == 1 then Ok version.1 else Err Version
  len ← number_at w64 rest
  tag ← number_at w64 len.1
  Ok (record { len = len.0; tag = tag.0 }, tag.1)

-- a body of this length and its digest, which follow this front; and the bytes after the digest
unfoldable pub sealed_at : List ℕ → ℕ → List ℕ → Result (List ℕ × List ℕ) WireFault
sealed_at front len bytes = do
  body ← bytes_at len bytes
  digest ← bytes_at 32 body.1
  if bytes_eq digest.0 (sha256 (front ++ body.0)) then Ok (body.0, digest.1) else Err Damaged

-- a frame: its tag and its body; and the bytes after it
unfoldable pub frame_at : List ℕ → Result ((ℕ × List ℕ) × List ℕ) WireFault
frame_at bytes = do
  front ← front_at bytes
  body ← sealed_at (take 20 bytes) front.0.len front.1
  Ok ((front.0.tag, body.0), body.1)

-- all of the bytes are one frame
abbrev pub opened : List ℕ → Result (ℕ × List ℕ) WireFault
opened bytes = whole (frame_at bytes)
