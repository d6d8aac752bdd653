-- What a check may answer for an input, and how it ends.
use Rattle.std.specs.Prelude.{◌≡◌, ◌↔◌, ℕ, ◌<◌, ◌≤◌, List, [], ◌++◌, length, codes, decimal, Option, true, false}
use Rattle.std.specs.Io.KnownBytes.{Consumes}
use Rattle.hlc_text.specs.declared.input.{TheConstants.INPUT_LIMIT, InputFault.TheVariants.ReadFault}
use Rattle.hlc_text.specs.{declared.watched.Watched.Watched, Watched.inner_of, Watched.has_failed}
use Rattle.hlc_text.specs.{Printing.Writes, Text.printed, Lines.lines_of, Lines.bad_line}
use Rattle.hlc_rows.specs.declared.row.Row.{Row as ARow}
use Rattle.hlc_witness.specs.declared.{witness.Witness.Witness as AWitness, reason.NotShown.NotShown as AReason}
use Rattle.hlc_witness.specs.{Fewest.Fewest as AreFewest, Certificate.IsCertificate}
use Rattle.hlc_witness.specs.Cost.{Cheapest as AreCheapest, rows_cost}
use Rattle.hlc_witness.specs.Reasons.{IsFirstReason, reason_number}
use Rattle.hlc_certificate.specs.declared.check.CheckEnd.{CheckEnd}
use Rattle.hlc_certificate.specs.declared.check.CheckEnd.TheVariants.{Fewest, NotShown, BadLine, NoMemory, NotLoaded}
use Rattle.hlc_certificate.specs.declared.check.CheckEnd.TheVariants.{WriteFault}
use Rattle.hlc_text.specs.Input.{IsInput, MayFault, FaultTakes, fault_line}
use Rattle.hlc_certificate.specs.CheckLine.{AreLinesOf, AreGoodLines, IsFirstBadLine}

-- the rows of a certificate are the fewest and the cheapest of all that give the same answers at its points
pub record ShowsFewest (lines : List (List ℕ)) (count bytes : ℕ) : Type 0 where
  pub points : List ℕ
  pub rows : List ARow
  pub witnesses : List AWitness
  pub lines_are : AreLinesOf points rows witnesses lines
  pub certificate : IsCertificate rows points witnesses
  pub fewest : AreFewest rows rows points
  pub count_is : count ≡ length rows
  pub cheapest : AreCheapest rows rows points
  pub bytes_is : bytes ≡ rows_cost rows

-- the lines are no certificate, and this is the first reason that applies
pub record ShowsReason (lines : List (List ℕ)) (reason : AReason) : Type 0 where
  pub points : List ℕ
  pub rows : List ARow
  pub witnesses : List AWitness
  pub lines_are : AreLinesOf points rows witnesses lines
  pub refused : IsCertificate rows points witnesses → ⊥
  pub first : IsFirstReason rows points witnesses reason

-- The possible ends of a check of a text in memory, however long it is: a bad line comes before all that the lines say,
-- even if memory runs out for that.
abbrev pub MayEnd : List ℕ → CheckEnd → Type 0
MayEnd text (Fewest count bytes) = ShowsFewest (lines_of text) count bytes
MayEnd text (NotShown reason) = ShowsReason (lines_of text) reason
MayEnd text (BadLine number) = IsFirstBadLine (lines_of text) number
MayEnd text NoMemory = (0 < length (lines_of text)) × AreGoodLines (lines_of text)
MayEnd text (NotLoaded fault) = ⊥
MayEnd text WriteFault = ⊥

-- the possible ends for an input that is read: it was read whole and loaded, or the reason why not
abbrev pub MayAnswer : List ℕ → CheckEnd → Type 0
MayAnswer input (NotLoaded fault) = MayFault input fault
-- a failed write is no answer, since it cuts the answer off
MayAnswer input WriteFault = ⊥
MayAnswer input end = (length input ≤ INPUT_LIMIT) × MayEnd input end

-- What may have been taken from the reader when a check ended, as for a run.
abbrev pub MayTake : List ℕ → List ℕ → CheckEnd → Type 0
MayTake input taken (NotLoaded fault) = FaultTakes taken fault
MayTake input taken (Fewest count bytes) = taken ≡ input
MayTake input taken (NotShown reason) = taken ≡ input
MayTake input taken (BadLine number) = taken ≡ input
MayTake input taken NoMemory = taken ≡ input
MayTake input taken WriteFault = ⊥

-- how many rows are the fewest, and what they cost
abbrev pub fewest_line : ℕ → ℕ → List ℕ
fewest_line count bytes = (codes "fewest " ++ decimal count) ++ (codes " bytes " ++ decimal bytes)

-- the only line for an end; a failed write prints nothing more
abbrev pub answer_output : CheckEnd → List ℕ
answer_output (Fewest count bytes) = printed (fewest_line count bytes)
answer_output (NotShown reason) = printed (codes "refused 22 reason " ++ decimal (reason_number reason))
answer_output (BadLine number) = printed (bad_line number)
answer_output NoMemory = printed (codes "refused 15")
answer_output (NotLoaded fault) = printed (fault_line fault)
answer_output WriteFault = []

-- A certificate was read and answered: there are an input, and an end that it may have, whose line was printed.
-- `remaining` and `contents` are what the reader has left and what the writer contains, where that is known.
pub record RunsCheck {R W : Type 0} (remaining : R → Option (List ℕ)) (contents : W → Option (List ℕ))
    (reader reader_after : Watched R) (writer writer_after : Watched W) (result : CheckEnd) : Type 0 where
  pub input : List ℕ
  pub taken : List ℕ
  pub end : CheckEnd
  -- the input is what the reader had left, and some of it was taken
  pub is_input : IsInput (remaining (inner_of reader)) input
  pub consumed : Consumes (remaining (inner_of reader)) (remaining (inner_of reader_after)) taken
  pub may_take : MayTake input taken end
  pub may_answer : MayAnswer input end
  -- the end's line was written, or a beginning of it where the writer failed
  pub wrote : Writes contents writer writer_after (answer_output end)
  pub read_fault : (end ≡ NotLoaded ReadFault) ↔ (has_failed reader_after ≡ true)
  -- a failed write cuts the end off
  pub end_is : has_failed writer_after ≡ false → result ≡ end
  pub write_fault : (result ≡ WriteFault) ↔ (has_failed writer_after ≡ true)

-- the exit status
abbrev pub check_status : CheckEnd → ℕ
check_status (Fewest count bytes) = 0
check_status (NotShown reason) = 2
check_status (BadLine number) = 2
check_status NoMemory = 2
check_status (NotLoaded fault) = 2
check_status WriteFault = 3
