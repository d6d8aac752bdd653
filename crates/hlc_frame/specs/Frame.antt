-- A frame: a front, a body, and the digest of both. Numbers are big-endian.
use Rattle.std.specs.Prelude.{ℕ, ◌<◌, List, ◌++◌, length}
use Rattle.std.specs.Int.{w32, w64, to_be_bytes}
use Rattle.sha2.specs.Sha256.{sha256}

-- the version, which is 1, in four bytes; the length of the body and the caller's tag in eight each
unfoldable pub front_bytes : ℕ → ℕ → List ℕ
front_bytes len tag = to_be_bytes w32 1 ++ to_be_bytes w64 len ++ to_be_bytes w64 tag

-- a text and its digest
abbrev pub sealed : List ℕ → List ℕ
sealed text = text ++ sha256 text

-- a frame
abbrev pub frame_bytes : ℕ → List ℕ → List ℕ
frame_bytes tag body = sealed (front_bytes (length body) tag ++ body)

-- what has a frame: a tag and a length that fit in eight bytes
pub record FrameFits (tag : ℕ) (body : List ℕ) : Type 0 where
  pub tag_fits : tag < 18446744073709551616
  pub length_fits : length body < 18446744073709551616
