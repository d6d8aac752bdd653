-- A frame that is written in pieces.
use Rattle.std.specs.Prelude.{ℕ, List, ◌++◌, flat_map}
use Rattle.sha2.specs.{Sha256.sha256, Hashers.Holds256}
use Rattle.hlc_frame.specs.{declared.writer.FrameWriter.FrameWriter, Frame.front_bytes}

-- the writer has hashed this front, and pieces that make this body
abbrev pub HasPut : FrameWriter → List ℕ → List ℕ → Type 0
HasPut writer front body = Holds256 writer.hasher (front ++ body)

-- the pieces, one after the other
abbrev pub joined : List (List ℕ) → List ℕ
joined pieces = flat_map (λ (piece : List ℕ). piece) pieces

-- the bytes that the caller and the writer leave after `before`: the front, the pieces, and the digest
abbrev pub written : List ℕ → ℕ → ℕ → List (List ℕ) → List ℕ
written before len tag pieces =
    ((before ++ front_bytes len tag) ++ joined pieces) ++ sha256 (front_bytes len tag ++ joined pieces)
