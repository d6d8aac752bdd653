-- Bytes that are written to a buffer.
use Rattle.std.specs.Prelude.{◌≡◌, ℕ, ◌+◌, ◌<◌, ◌≤◌, List, ◌++◌, length, take, drop, Option, Some, None}

-- a buffer with these bytes from a place on
abbrev pub with_bytes : ℕ → List ℕ → List ℕ → List ℕ
with_bytes at bytes old = take at old ++ (bytes ++ drop (at + length bytes) old)

-- the bytes were written to the front of a buffer, and how many there are is returned; or they do not fit, and the
-- buffer is unchanged
abbrev pub PutsFront : List ℕ → Option ℕ → List ℕ → List ℕ → Type 0
PutsFront bytes None old new = (length old < length bytes) × (new ≡ old)
PutsFront bytes (Some size) old new =
    (size ≡ length bytes) × (size ≤ length old) × (new ≡ bytes ++ drop (length bytes) old)
