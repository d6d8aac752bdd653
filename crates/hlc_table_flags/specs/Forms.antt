-- The flags of each form, and which words contain them.
use Rattle.std.specs.Prelude.{◌≤◌, ◌<◌, ◌*◌, ◌-◌, ◌^◌, ◌+◌, ◌++◌, Bool, true, false, List, length, replicate}
use Rattle.hlc_table_flags.specs.Bits.{bits_in}
use Rattle.hlc_table_flags.specs.declared.flags.Form.{Form, TheVariants.Bytes, TheVariants.Bits, TheVariants.Run}

-- the flags
abbrev pub flags_in : Form → List Bool
flags_in (Bytes flags) = flags.now
flags_in (Bits words from to) = bits_in words.now from (to - from)
flags_in (Run set unset) = replicate set true ++ replicate unset false

-- bits are within their words, at positions of 64 bits, and the number of a run has 64 bits
abbrev pub IsInWords : Form → Type 0
IsInWords (Bytes flags) = Unit {0}
IsInWords (Bits words from to) = (from ≤ to) × ((to ≤ 64 * length words.now) × (to < 2 ^ 64))
IsInWords (Run set unset) = set + unset < 2 ^ 64
