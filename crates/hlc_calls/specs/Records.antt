-- The records of a log as bytes, and how far a store applied them.
use Rattle.std.specs.Prelude.{◌≡◌, ℕ, List, length, Option, Some, None}
use Rattle.hlc_wire.specs.Faults.{fault_code}
use Rattle.hlc_events.specs.Faults.{core_word}
use Rattle.hlc_core.specs.{Past.Step, StoreView.StoreView}
use Rattle.hlc_log.specs.declared.{record.Record.Record, apply.Applied.Applied}
use Rattle.hlc_log.specs.declared.apply.RecordFault.{RecordFault, TheVariants.Bytes, TheVariants.Refused}
use Rattle.hlc_log.specs.{Record.record_bytes, Log.AreApplied}
use Rattle.hlc_calls.specs.{Answers.IsCopied, Outcome.answer_code}

-- the answer at the end of a log, and its word
abbrev pub end_code : Option RecordFault → ℕ
end_code None = 0
end_code (Some (Bytes fault)) = 106
end_code (Some (Refused fault)) = answer_code fault

abbrev pub end_word : Option RecordFault → ℕ
end_word None = 0
end_word (Some (Bytes fault)) = fault_code fault
end_word (Some (Refused fault)) = core_word fault

-- the numbers are those of a result
pub record AreNumbersOf (applied : Applied) (code used many threshold word : ℕ) : Type 0 where
  pub code_is : code ≡ end_code applied.end
  pub used_is : used ≡ applied.bytes
  pub many_is : many ≡ applied.records
  pub threshold_is : threshold ≡ applied.threshold
  pub word_is : word ≡ end_word applied.end

-- the first records of some bytes were applied, as far as possible, and the numbers say how far
abbrev pub ReturnsApplied : StoreView → List ℕ → List Step → ℕ → ℕ → ℕ → ℕ → ℕ → Type 0
ReturnsApplied new bytes past code used many threshold word =
    (applied : Applied) × AreApplied new bytes past 0 applied × AreNumbersOf applied code used many threshold word

-- the bytes of a record are returned: how many there are, and the bytes, if they fit
abbrev pub ReturnsRecord : Record → ℕ → ℕ → List ℕ → List ℕ → Type 0
ReturnsRecord entry code len old new =
    (code ≡ 0) × (len ≡ length (record_bytes entry)) × IsCopied (record_bytes entry) old new
