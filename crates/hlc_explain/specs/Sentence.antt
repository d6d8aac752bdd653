-- What a sentence may be, what becomes of it with more bytes, and how bytes are written and quoted in it.
use Rattle.std.specs.Prelude.{◌≡◌, ◌≤◌, ◌&&◌, ◌++◌, ◌∷◌, ◌/◌, ◌%◌, [], ℕ, List, Bool, true, nat_le, nat_lt, length, ◌-◌}
use Rattle.std.specs.Prelude.{if◌then◌else◌, take, codes}
use Rattle.std.specs.{Fmt.digit_glyph, List.list_all, List.filter, List.flat_map}

-- a byte that a terminal shows as it is: from a space to a tilde
abbrev pub is_shown : ℕ → Bool
is_shown byte = nat_le 32 byte && nat_le byte 126

-- at most 1,000 bytes, each of them shown: no control byte, so no line feed
abbrev pub IsSentence : List ℕ → Type 0
IsSentence text = (length text ≤ 1000) × (list_all is_shown text ≡ true)

-- a text with one more byte, which is left out where it is not shown, or where the text is full
abbrev pub with_byte : List ℕ → ℕ → List ℕ
with_byte text byte = if is_shown byte && nat_lt (length text) 1000 then text ++ byte ∷ [] else text

-- a text with more bytes: those of them that are shown, as far as there is room
abbrev pub with_bytes : List ℕ → List ℕ → List ℕ
with_bytes text bytes = text ++ take (1000 - length text) (filter is_shown bytes)

-- the two capital hexadecimal digits of a byte
abbrev pub hex : ℕ → List ℕ
hex byte = digit_glyph true (byte / 16) ∷ digit_glyph true (byte % 16) ∷ []

-- a percent sign and the two digits of a byte
abbrev pub escape : ℕ → List ℕ
escape byte = codes "%" ++ hex byte

-- a byte in a quotation: as it is, or where it is not shown as a backslash, an x and its two digits
abbrev pub quoted_byte : ℕ → List ℕ
quoted_byte byte = if is_shown byte then byte ∷ [] else 92 ∷ codes "x" ++ hex byte

-- the quotation of a text: its first 80 bytes in quotation marks, and two stops where it has more
abbrev pub quoted : List ℕ → List ℕ
quoted text = codes "'" ++ flat_map quoted_byte (take 80 text) ++ codes "'"
    ++ (if nat_lt 80 (length text) then codes ".." else [])
