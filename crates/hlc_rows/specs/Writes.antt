-- Several writes that have one stamp, and the rows that they make.
use Rattle.std.specs.Prelude.{ℕ, ◌+◌, ◌-◌, ◌*◌, ◌/◌, ◌%◌, List, [], ◌∷◌, length, map, Bool, false, ◌==◌, ◌||◌, nat_lt}
use Rattle.std.specs.Prelude.{Option, Some, None, if◌then◌else◌, slice_index, bytes_eq}
use Rattle.hlc_rows.specs.declared.limits.{BodyFault.BodyFault, TheConstants.MAX_WRITES}
use Rattle.hlc_rows.specs.declared.limits.BodyFault.TheVariants.{NoWrites, TooManyWrites, KeyTwice}
use Rattle.hlc_rows.specs.{declared.row.Row.Row, declared.write.Write.Write, Limits.write_refusal}

-- one of the writes is of this key
abbrev pub writes_key : List ℕ → List Write → Bool
writes_key key [] = false
writes_key key (write ∷ writes) = bytes_eq write.key key || writes_key key writes

-- two of the writes are of one key
abbrev pub writes_twice : List Write → Bool
writes_twice [] = false
writes_twice (write ∷ writes) = writes_key write.key writes || writes_twice writes

-- the first of two reasons
abbrev pub first_of : Option BodyFault → Option BodyFault → Option BodyFault
first_of None second = second
first_of (Some fault) second = Some fault

-- the first reason to refuse one of the writes by itself
abbrev pub writes_refusal : List Write → Option BodyFault
writes_refusal [] = None
writes_refusal (write ∷ writes) = first_of (write_refusal write.key write.value) (writes_refusal writes)

-- the first reason to refuse some writes: two are of one key; one is refused by itself
abbrev pub all_refusal : List Write → Option BodyFault
all_refusal writes = if writes_twice writes then Some KeyTwice else writes_refusal writes

-- the first reason to refuse the writes of a batch: there are none; there are more than 256; two are of one key; one is
-- refused by itself
abbrev pub batch_refusal : List Write → Option BodyFault
batch_refusal writes =
    if length writes == 0 then Some NoWrites
    else if nat_lt MAX_WRITES (length writes) then Some TooManyWrites else all_refusal writes

-- the row of a write by this node at this stamp
abbrev pub row_written : ℕ → ℕ → Write → Row
row_written node stamp write = record { key = write.key; stamp = stamp; node = node; value = write.value }

-- the rows of the writes by this node at this stamp, in their order
abbrev pub rows_written : ℕ → ℕ → List Write → List Row
rows_written node stamp writes = map (row_written node stamp) writes

-- Two marks of a key, below 4,096: equal keys have equal marks, so keys whose marks differ are not compared.

-- the bytes of a key as one number, of which 64 bits are kept
abbrev pub number_from : ℕ → List ℕ → ℕ
number_from number [] = number
number_from number (byte ∷ bytes) = number_from (number % 72057594037927936 * 256 + byte) bytes

-- that of a key of fewer than eight bytes
abbrev pub short_number : List ℕ → ℕ
short_number key = number_from 0 key

-- eight bytes of a key as a number, the first one highest
unfoldable pub eight_at : List ℕ → ℕ → ℕ
eight_at key at =
    ((((((slice_index key at * 256 + slice_index key (at + 1)) * 256 + slice_index key (at + 2)) * 256
    + slice_index key (at + 3)) * 256 + slice_index key (at + 4)) * 256 + slice_index key (at + 5)) * 256
    + slice_index key (at + 6)) * 256 + slice_index key (at + 7)

-- a number of any key: of a longer one that of its first and its last eight bytes
unfoldable pub number_of : List ℕ → ℕ
number_of key =
    if nat_lt (length key) 8 then short_number key
    else (eight_at key 0 + eight_at key (length key - 8)) % 18446744073709551616

-- its marks: two parts of that number multiplied by 2^64 over the golden ratio
unfoldable pub marks_of : List ℕ → ℕ × ℕ
marks_of key = (
  number_of key * 11400714819323198485 % 18446744073709551616 / 4503599627370496 % 4096,
  number_of key * 11400714819323198485 % 18446744073709551616 / 1099511627776 % 4096,
)
