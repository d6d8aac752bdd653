-- Reading from left to right, up to the first fault.
use Rattle.std.specs.Prelude.{◌≡◌, ◌⊎◌, ℕ, zero, suc, slice_get, Bool, true, false, List, [], ◌∷◌, length, take, drop}
use Rattle.std.specs.Prelude.{Option, Some, None, Result, Ok, Err, nat_lt, ◌==◌, if◌then◌else◌}
use Rattle.std.specs.Int.{Width, w16, w64, byte_len, from_be_bytes}
use Rattle.hlc_node.specs.declared.item.{Item.Item, Body.Body, Message.Message}
use Rattle.hlc_node.specs.declared.item.Body.TheVariants.{Write as a_write, Batch, Report, Retire}
use Rattle.hlc_rows.specs.declared.write.Write.{Write}
use Rattle.hlc_wire.specs.declared.fault.{WireFault.WireFault, DecodeError.DecodeError}
use Rattle.hlc_wire.specs.declared.fault.WireFault.TheVariants.{Short, Version, Kind, EmptyKey, Flag, Trailing}
use Rattle.hlc_wire.specs.declared.fault.DecodeError.TheVariants as errors

infixl 10 ◌>>=◌
abbrev pub ◌>>=◌ : {A B : Type 0} → Result A WireFault → (A → Result B WireFault) → Result B WireFault
(Ok x) >>= f = f x
(Err e) >>= f = Err e

-- the result of a call, seen by view, is the result of the reading
abbrev pub Reads : {X Y : Type 0} → (X → Y) → Result X WireFault → Result Y WireFault → Type 0
Reads view (Ok x) read = read ≡ Ok (view x)
Reads view (Err f) read = read ≡ Err f

-- the same, unless memory ran out
abbrev pub Fails : {Y : Type 0} → DecodeError → Result Y WireFault → Type 0
Fails errors.NoMemory read = Unit {0}
Fails (errors.Fault f) read = read ≡ Err f

abbrev pub Gives : {X Y : Type 0} → (X → Y) → Result X DecodeError → Result Y WireFault → Type 0
Gives view (Ok x) read = read ≡ Ok (view x)
Gives view (Err e) read = Fails e read

-- Each field is a value and the bytes after it.

-- a number in this many bytes
abbrev pub number_at : Width → List ℕ → Result (ℕ × List ℕ) WireFault
number_at w bytes =
    if nat_lt (length bytes) (byte_len w) then Err Short
    else Ok (from_be_bytes w (take (byte_len w) bytes), drop (byte_len w) bytes)

-- this many bytes
abbrev pub bytes_at : ℕ → List ℕ → Result (List ℕ × List ℕ) WireFault
bytes_at n bytes = if nat_lt (length bytes) n then Err Short else Ok (take n bytes, drop n bytes)

-- yes or no
unfoldable pub flag_at : List ℕ → Result (Bool × List ℕ) WireFault
flag_at [] = Err Short
flag_at (zero ∷ rest) = Ok (false, rest)
flag_at (suc zero ∷ rest) = Ok (true, rest)
flag_at (suc (suc b) ∷ rest) = Err Flag

-- a key
unfoldable pub key_at : List ℕ → Result (List ℕ × List ℕ) WireFault
key_at [] = Err Short
key_at (zero ∷ rest) = Err EmptyKey
key_at (suc n ∷ rest) = bytes_at (suc n) rest

-- a value, or a deletion mark
unfoldable pub value_at : List ℕ → Result (Option (List ℕ) × List ℕ) WireFault
value_at [] = Err Short
value_at (zero ∷ rest) = Ok (None, rest)
value_at (suc zero ∷ rest) = do
  n ← number_at w16 rest
  value ← bytes_at n.0 n.1
  Ok (Some value.0, value.1)
value_at (suc (suc b) ∷ rest) = Err Flag

-- a write of a batch
abbrev pub write_at : List ℕ → Result (Write × List ℕ) WireFault
write_at bytes = do
  key ← key_at bytes
  value ← value_at key.1
  Ok (record { key = key.0; value = value.0 }, value.1)

-- this many writes
unfoldable pub writes_at : ℕ → List ℕ → Result (List Write × List ℕ) WireFault
writes_at zero bytes = Ok ([], bytes)
writes_at (suc count) bytes = do
  write ← write_at bytes
  writes ← writes_at count write.1
  Ok (write.0 ∷ writes.0, writes.1)

-- a batch: one less than the number of its writes, and the writes
unfoldable pub batch_at : List ℕ → Result (List Write × List ℕ) WireFault
batch_at [] = Err Short
batch_at (count ∷ rest) = writes_at (suc count) rest

-- the body of an item
unfoldable pub body_at : List ℕ → Result (Body × List ℕ) WireFault
body_at [] = Err Short
body_at (zero ∷ rest) = do
  key ← key_at rest
  value ← value_at key.1
  Ok (a_write key.0 value.0, value.1)
body_at (suc zero ∷ rest) = Ok (Report, rest)
body_at (suc (suc zero) ∷ rest) = Ok (Retire, rest)
body_at (suc (suc (suc zero)) ∷ rest) = do
  writes ← batch_at rest
  Ok (Batch writes.0, writes.1)
body_at (suc (suc (suc (suc b))) ∷ rest) = Err Kind

-- the body of an item that has these numbers
abbrev pub numbered_at : ℕ → ℕ → ℕ → List ℕ → Result (Item × List ℕ) WireFault
numbered_at node number stamp bytes = do
  body ← body_at bytes
  Ok (record { node = node; number = number; stamp = stamp; body = body.0 }, body.1)

-- an item after its version
unfoldable pub item_rest_at : List ℕ → Result (Item × List ℕ) WireFault
item_rest_at bytes = do
  node ← number_at w16 bytes
  number ← number_at w64 node.1
  stamp ← number_at w64 number.1
  numbered_at node.0 number.0 stamp.0 stamp.1

-- an item
unfoldable pub item_at : List ℕ → Result (Item × List ℕ) WireFault
item_at [] = Err Short
item_at (zero ∷ rest) = Err Version
item_at (suc zero ∷ rest) = item_rest_at rest
item_at (suc (suc b) ∷ rest) = Err Version

-- a message after its version
unfoldable pub message_rest_at : List ℕ → Result (Message × List ℕ) WireFault
message_rest_at bytes = do
  from ← number_at w16 bytes
  stamp ← number_at w64 from.1
  Ok (record { from = from.0; stamp = stamp.0 }, stamp.1)

-- a message
unfoldable pub message_at : List ℕ → Result (Message × List ℕ) WireFault
message_at [] = Err Short
message_at (zero ∷ rest) = Err Version
message_at (suc zero ∷ rest) = message_rest_at rest
message_at (suc (suc b) ∷ rest) = Err Version

-- all of the bytes
abbrev pub whole : {A : Type 0} → Result (A × List ℕ) WireFault → Result A WireFault
whole read = read >>= λ x. if length x.1 == 0 then Ok x.0 else Err Trailing

-- byte 19 says that an item is a write or a batch
abbrev pub NeedsMemory : List ℕ → Type 0
NeedsMemory bytes = (slice_get bytes 19 ≡ Some 0) ⊎ (slice_get bytes 19 ≡ Some 3)
