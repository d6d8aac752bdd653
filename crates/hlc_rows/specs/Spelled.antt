-- Writes that are lent: as a slice, or as their bytes, one after another. A write is a byte of length and its key; and
-- 0 for a deletion mark, or 1, two bytes of length (big-endian) and its value. What is missing at the end of the bytes
-- counts as empty, so that any bytes say some writes.
use Rattle.std.specs.Prelude.{ℕ, zero, suc, List, [], ◌∷◌, take, drop, Option, Some, None, option_copied}
use Rattle.std.specs.Int.{w16, from_be_bytes}
use Rattle.hlc_rows.specs.declared.write.Write.{Write}
use Rattle.hlc_rows.specs.declared.writes.{Written.Written, Form.Form, Form.TheVariants.Slice, Form.TheVariants.Bytes}

-- the key at the front of some bytes, and the bytes after it
unfoldable pub key_in : List ℕ → List ℕ × List ℕ
key_in [] = ([], [])
key_in (count ∷ rest) = (take count rest, drop count rest)

-- a value of this many bytes, and the bytes after it
abbrev pub value_of : ℕ → List ℕ → Option (List ℕ) × List ℕ
value_of count bytes = (Some (take count bytes), drop count bytes)

-- the value at the front of some bytes, after the byte 1
unfoldable pub long_in : List ℕ → Option (List ℕ) × List ℕ
long_in [] = (None, [])
long_in (high ∷ []) = (None, [])
long_in (high ∷ low ∷ rest) = value_of (from_be_bytes w16 (high ∷ low ∷ [])) rest

-- the value or deletion mark at the front of some bytes, and the bytes after it
unfoldable pub value_in : List ℕ → Option (List ℕ) × List ℕ
value_in [] = (None, [])
value_in (zero ∷ rest) = (None, rest)
value_in (suc flag ∷ rest) = long_in rest

-- a write of this key and value
abbrev pub a_write : List ℕ → Option (List ℕ) → Write
a_write key value = record { key = key; value = value }

-- this many writes at the front of some bytes
unfoldable pub writes_in : ℕ → List ℕ → List Write
writes_in zero bytes = []
writes_in (suc count) bytes =
    a_write (key_in bytes).0 (value_in (key_in bytes).1).0 ∷ writes_in count (value_in (key_in bytes).1).1

-- the write that is lent
abbrev pub write_seen : Written → Write
write_seen written = a_write written.key.now (option_copied written.value)

-- the writes that are lent
abbrev pub writes_seen : Form → List Write
writes_seen (Slice writes) = writes.now
writes_seen (Bytes count bytes) = writes_in count bytes.now
