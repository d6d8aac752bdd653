-- The one encoding of each item and each message. Numbers are big-endian.
use Rattle.std.specs.Prelude.{ℕ, ◌<◌, ◌-◌, Bool, true, false, List, [], ◌∷◌, ◌++◌, length, Option, Some, None}
use Rattle.std.specs.Int.{w16, w64, to_be_bytes}
use Rattle.hlc_node.specs.declared.item.{Item.Item, Body.Body, Message.Message}
use Rattle.hlc_node.specs.declared.item.Body.TheVariants.{Write as a_write, Batch, Report, Retire}
use Rattle.hlc_rows.specs.declared.write.Write.{Write}

-- 1 for yes, 0 for no
abbrev pub flag_bytes : Bool → List ℕ
flag_bytes true = 1 ∷ []
flag_bytes false = 0 ∷ []

-- a byte of length, and the key's bytes
abbrev pub key_bytes : List ℕ → List ℕ
key_bytes key = length key ∷ key

-- 0 for a deletion mark; or 1, two bytes of length, and the value's bytes
abbrev pub value_bytes : Option (List ℕ) → List ℕ
value_bytes None = 0 ∷ []
value_bytes (Some value) = 1 ∷ (to_be_bytes w16 (length value) ++ value)

-- a write of a batch: its key and its value
abbrev pub write_bytes : Write → List ℕ
write_bytes write = key_bytes write.key ++ value_bytes write.value

-- writes one after another
abbrev pub writes_bytes : List Write → List ℕ
writes_bytes [] = []
writes_bytes (write ∷ writes) = write_bytes write ++ writes_bytes writes

-- one less than the number of writes, in one byte; and the writes
abbrev pub batch_bytes : List Write → List ℕ
batch_bytes writes = (length writes - 1) ∷ writes_bytes writes

-- the body of an item: 0, a key and a value; or 1 for a report; or 2 for a retirement; or 3 and a batch
abbrev pub body_bytes : Body → List ℕ
body_bytes (a_write key value) = 0 ∷ (key_bytes key ++ value_bytes value)
body_bytes (Batch writes) = 3 ∷ batch_bytes writes
body_bytes Report = 1 ∷ []
body_bytes Retire = 2 ∷ []

-- the node of an item in two bytes; its number and its stamp in eight each
abbrev pub numbers_bytes : Item → List ℕ
numbers_bytes item = to_be_bytes w16 item.node ++ to_be_bytes w64 item.number ++ to_be_bytes w64 item.stamp

-- the version, which is 1; the node in two bytes; the number and the stamp in eight each; the body
abbrev pub item_bytes : Item → List ℕ
item_bytes item =
    1 ∷ (to_be_bytes w16 item.node ++ to_be_bytes w64 item.number ++ to_be_bytes w64 item.stamp ++ body_bytes item.body)

-- the version; the node in two bytes; the stamp in eight
abbrev pub message_bytes : Message → List ℕ
message_bytes message = 1 ∷ (to_be_bytes w16 message.from ++ to_be_bytes w64 message.stamp)

-- What has an encoding: numbers in their ranges, keys of 1 to 255 bytes, values of at most 65,535, batches of 1 to 256
-- writes.
abbrev pub KeyFits : List ℕ → Type 0
KeyFits key = (0 < length key) × (length key < 256)

abbrev pub ValueFits : Option (List ℕ) → Type 0
ValueFits None = Unit {0}
ValueFits (Some value) = length value < 65536

abbrev pub WritesFit : List Write → Type 0
WritesFit [] = Unit {0}
WritesFit (write ∷ writes) = (KeyFits write.key × ValueFits write.value) × WritesFit writes

abbrev pub BatchFits : List Write → Type 0
BatchFits writes = (0 < length writes) × (length writes < 257) × WritesFit writes

abbrev pub BodyFits : Body → Type 0
BodyFits (a_write key value) = KeyFits key × ValueFits value
BodyFits (Batch writes) = BatchFits writes
BodyFits Report = Unit {0}
BodyFits Retire = Unit {0}

-- the most bytes that an item with this body may have
abbrev pub most_bytes : Body → ℕ
most_bytes (Batch writes) = 16843285
most_bytes (a_write key value) = 65814
most_bytes Report = 65814
most_bytes Retire = 65814

pub record NumbersFit (item : Item) : Type 0 where
  pub node : item.node < 65536
  pub number : item.number < 18446744073709551616
  pub stamp : item.stamp < 18446744073709551616

pub record ItemFits (item : Item) : Type 0 where
  pub node : item.node < 65536
  pub number : item.number < 18446744073709551616
  pub stamp : item.stamp < 18446744073709551616
  pub body : BodyFits item.body

pub record MessageFits (message : Message) : Type 0 where
  pub node : message.from < 65536
  pub stamp : message.stamp < 18446744073709551616
