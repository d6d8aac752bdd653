-- The records of a log as bytes, one after another, and what a store makes of them.
use Rattle.std.specs.Prelude.{◌≡◌, ◌&&◌, ◌==◌, ℕ, List, [], ◌∷◌, ◌++◌, Bool, false, nat_lt, length, max, Option, Some}
use Rattle.std.specs.Prelude.{None, Result, Ok, Err, if◌then◌else◌, All, ⊤, flat_map}
use Rattle.hlc_intake.specs.declared.intake.LinkFault.TheVariants.{NotNext}
use Rattle.hlc_events.specs.declared.fault.CoreFault.{CoreFault, TheVariants.Link}
use Rattle.hlc_core.specs.Past.{Step, Took, Joined, numbered, count, item_refusal, join_at_refusal}
use Rattle.hlc_core.specs.{Calls.IsRefusal, Calls.IsWrite, StoreView.StoreView, StoreView.Represents}
use Rattle.hlc_log.specs.declared.record.Record.{Record, TheVariants.Item, TheVariants.Join, TheVariants.Threshold}
use Rattle.hlc_log.specs.declared.apply.RecordFault.{RecordFault, TheVariants.Bytes, TheVariants.Refused}
use Rattle.hlc_log.specs.{declared.apply.Applied.Applied, Record.record_bytes, Record.record_at, Record.RecordFits}

-- the bytes of some records, one after another
abbrev pub log_bytes : List Record → List ℕ
log_bytes records = flat_map record_bytes records

-- the record came before: an item of this number was accepted, or a node of this number has joined
abbrev pub came_before : List Step → Record → Bool
came_before past (Item item) = nat_lt item.node (numbered past) && nat_lt item.number (count item.node past)
came_before past (Join node start) = nat_lt node (numbered past)
came_before past (Threshold at) = false

-- the step of a record; a threshold is none
abbrev pub step_of : Record → List Step
step_of (Item item) = Took item ∷ []
step_of (Join node start) = Joined node start ∷ []
step_of (Threshold at) = []

-- the past after a record: unchanged if it came before
abbrev pub with_record : Record → List Step → List Step
with_record entry past = if came_before past entry then past else step_of entry ++ past

-- the record changes nothing of this past: it came before, or is no step
abbrev pub IsPassedOver : List Step → Record → Type 0
IsPassedOver past entry = with_record entry past ≡ past

-- the past after some records, one after another
abbrev pub with_records : List Record → List Step → List Step
with_records [] past = past
with_records (entry ∷ records) past = with_records records (with_record entry past)

-- the greatest threshold of some records and of this one
abbrev pub greatest_threshold : ℕ → List Record → ℕ
greatest_threshold least [] = least
greatest_threshold least (Threshold at ∷ records) = greatest_threshold (max least at) records
greatest_threshold least (_ ∷ records) = greatest_threshold least records

-- why a record that did not come before is refused, apart from memory: an item as `Core::accept` refuses it; a join
-- first if its node is not the next one
abbrev pub record_refusal : List Step → Record → Option CoreFault
record_refusal past (Item item) = item_refusal past item
record_refusal past (Join node start) =
    if node == numbered past then join_at_refusal past start
    else Some (Link (NotNext (numbered past)))
record_refusal past (Threshold at) = None

-- a record that is applied may need memory: a write, a deletion or a join
abbrev pub MayGrow : Record → Type 0
MayGrow (Item item) = IsWrite item.body
MayGrow (Join node start) = ⊤
MayGrow (Threshold at) = ⊥

-- a record that did not come before was applied, or refused
abbrev pub Applies : StoreView → Record → List Step → Result Unit CoreFault → Type 0
Applies new entry past (Ok done) =
    (record_refusal past entry ≡ None) × Represents new (step_of entry ++ past)
Applies new entry past (Err fault) = IsRefusal (record_refusal past entry) (MayGrow entry) fault

-- the record at the front of some bytes was refused
abbrev pub IsRefusedAt : List ℕ → List Step → CoreFault → Type 0
IsRefusedAt bytes past fault =
    (entry : Record) × (rest : List ℕ) × (record_at bytes ≡ Ok (entry, rest)) × (came_before past entry ≡ false)
    × IsRefusal (record_refusal past entry) (MayGrow entry) fault

-- why the record at the front of some bytes was not applied: the first fault of the bytes, or a refusal
abbrev pub IsStopped : List ℕ → List Step → RecordFault → Type 0
IsStopped bytes past (Bytes fault) = record_at bytes ≡ Err fault
IsStopped bytes past (Refused fault) = IsRefusedAt bytes past fault

-- no bytes are left; or the record at their front was not applied
abbrev pub IsLogEnd : List ℕ → List Step → Option RecordFault → Type 0
IsLogEnd [] past end = end ≡ None
IsLogEnd (byte ∷ bytes) past None = ⊥
IsLogEnd (byte ∷ bytes) past (Some fault) = IsStopped (byte ∷ bytes) past fault

-- The first records of the bytes were applied, as far as possible: what they are, that they have encodings, and what
-- the result says of them.
pub record AreApplied (new : StoreView) (bytes : List ℕ) (past : List Step) (least : ℕ) (applied : Applied)
    : Type 0 where
  pub records : List Record
  pub rest : List ℕ
  pub bytes_are : bytes ≡ log_bytes records ++ rest
  pub fit : All RecordFits records
  pub used : applied.bytes ≡ length (log_bytes records)
  pub many : applied.records ≡ length records
  pub threshold : applied.threshold ≡ greatest_threshold least records
  pub represents : Represents new (with_records records past)
  pub end : IsLogEnd rest (with_records records past) applied.end
