-- What an output has.
use Rattle.std.specs.Prelude.{ℕ, List, [], Option, Some, None}
use Rattle.hlc_handle.specs.Rows.{bytes_row}

-- bytes that an output has
abbrev pub Bytes : Type 0
Bytes = bytes_row.Denot

-- the bytes that there are to read
abbrev pub bytes_in : Option Bytes → List ℕ
bytes_in None = []
bytes_in (Some kept) = kept.items
