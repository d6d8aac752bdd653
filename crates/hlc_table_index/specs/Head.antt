-- The head of a key: its first bytes as one number.
use Rattle.std.specs.Prelude.{ℕ, zero, suc, List, ◌+◌, ◌*◌, ◌<◌, slice_index}

-- each number of a key is a byte
abbrev pub AreBytes : List ℕ → Type 0
AreBytes key = (k : ℕ) → slice_index key k < 256

-- the first n bytes of a key, the first one highest, with zeros after its end
unfoldable pub head_upto : ℕ → List ℕ → ℕ
head_upto zero key = 0
head_upto (suc n) key = head_upto n key * 256 + slice_index key n

-- its first sixteen bytes
abbrev pub head_of : List ℕ → ℕ
head_of key = head_upto 16 key
