-- The one encoding of each record of a log, and reading one from left to right, up to the first fault. Numbers are
-- big-endian.
use Rattle.std.specs.Prelude.{◌≡◌, ℕ, zero, suc, ◌<◌, List, [], ◌∷◌, ◌++◌, Option, Some, None, Result, Ok, Err}
use Rattle.std.specs.Prelude.{slice_get, ⊤}
use Rattle.std.specs.Int.{w16, w64, to_be_bytes}
use Rattle.hlc_rows.specs.declared.limits.BodyFault.{BodyFault}
use Rattle.hlc_node.specs.Items.{body_refusal, IsShort}
use Rattle.hlc_wire.specs.declared.fault.WireFault.{WireFault, TheVariants.Short, TheVariants.Version}
use Rattle.hlc_wire.specs.Spelling.{item_bytes, ItemFits}
use Rattle.hlc_wire.specs.Reading.{◌>>=◌, number_at, item_at, NeedsMemory}
use Rattle.hlc_log.specs.declared.record.Record.{Record, TheVariants.Item, TheVariants.Join, TheVariants.Threshold}
use Rattle.hlc_log.specs.declared.record.RecordRef.{RecordRef}
use Rattle.hlc_log.specs.declared.record.RecordRef.TheVariants as borrowed

-- an item's own bytes, of which the first is 1; or 2, the node of a join in two bytes and its start in eight; or 3 and
-- a threshold in eight
abbrev pub record_bytes : Record → List ℕ
record_bytes (Item item) = item_bytes item
record_bytes (Join node start) = 2 ∷ (to_be_bytes w16 node ++ to_be_bytes w64 start)
record_bytes (Threshold at) = 3 ∷ to_be_bytes w64 at

-- What has an encoding: numbers in their ranges, and items that have one.
abbrev pub RecordFits : Record → Type 0
RecordFits (Item item) = ItemFits item
RecordFits (Join node start) = (node < 65536) × (start < 18446744073709551616)
RecordFits (Threshold at) = at < 18446744073709551616

-- why a record has no encoding
abbrev pub record_refusal : Record → Option BodyFault
record_refusal (Item item) = body_refusal item.body
record_refusal (Join node start) = None
record_refusal (Threshold at) = None

-- the record whose key and value are borrowed
abbrev pub record_seen : RecordRef → Record
record_seen (borrowed.Item item) = Item item
record_seen (borrowed.Join node start) = Join node start
record_seen (borrowed.Threshold at) = Threshold at

-- a copy of the record needs no memory
abbrev pub IsShortRecord : Record → Type 0
IsShortRecord (Item item) = IsShort item.body
IsShortRecord (Join node start) = ⊤
IsShortRecord (Threshold at) = ⊤

-- a join after its first byte
unfoldable pub join_at : List ℕ → Result (Record × List ℕ) WireFault
join_at bytes = do
  node ← number_at w16 bytes
  start ← number_at w64 node.1
  Ok (Join node.0 start.0, start.1)

-- a threshold after its first byte
unfoldable pub threshold_at : List ℕ → Result (Record × List ℕ) WireFault
threshold_at bytes = do
  at ← number_at w64 bytes
  Ok (Threshold at.0, at.1)

-- an item, as a record
unfoldable pub item_record_at : List ℕ → Result (Record × List ℕ) WireFault
item_record_at bytes = do
  item ← item_at bytes
  Ok (Item item.0, item.1)

-- a record
unfoldable pub record_at : List ℕ → Result (Record × List ℕ) WireFault
record_at [] = Err Short
record_at (zero ∷ rest) = Err Version
record_at (suc zero ∷ rest) = item_record_at (1 ∷ rest)
record_at (suc (suc zero) ∷ rest) = join_at rest
record_at (suc (suc (suc zero)) ∷ rest) = threshold_at rest
record_at (suc (suc (suc (suc b))) ∷ rest) = Err Version

-- a write, a deletion or a batch is at the front of some bytes: byte 0 of an item is 1, and byte 19 says its kind
pub record StartsWithWrite (bytes : List ℕ) : Type 0 where
  pub item : slice_get bytes 0 ≡ Some 1
  pub kind : NeedsMemory bytes
