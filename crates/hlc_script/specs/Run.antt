-- What a run may write for an input, and how it ends.
use Rattle.std.specs.Prelude.{◌≡◌, ◌≢◌, ◌↔◌, ℕ, ◌+◌, ◌≤◌, ◌⊎◌, List, [], ◌∷◌, ◌++◌, length, codes, Option, Some, None}
use Rattle.std.specs.Prelude.{true, false, ⊤}
use Rattle.std.specs.Io.KnownBytes.{Consumes}
use Rattle.hlc_text.specs.declared.input.{TheConstants.INPUT_LIMIT, InputFault.TheVariants.ReadFault}
use Rattle.hlc_text.specs.declared.{watched.Watched.Watched, printer.Printer.Printer}
use Rattle.hlc_text.specs.{Watched.inner_of, Watched.has_failed, Printing.Prints, Printing.Writes}
use Rattle.hlc_text.specs.{Text.printed, Lines.lines_of, Lines.bad_line}
use Rattle.hlc_text.specs.Input.{IsInput, MayFault, FaultTakes, fault_line}
use Rattle.hlc_world_event.specs.Events.{Event}
use Rattle.hlc_world.specs.declared.reply.Reply.{Reply, TheVariants.Refused}
use Rattle.hlc_world.specs.{declared.refusal.Refusal.TheVariants.NoMemory as no_memory, Expected.MayReply}
use Rattle.hlc_script.specs.{declared.run.RunEnd.RunEnd, Reply.reply_text}
use Rattle.hlc_script.specs.declared.run.RunEnd.TheVariants.{Answered, BadLine, BadHeader, NoMemory, NotLoaded}
use Rattle.hlc_script.specs.declared.run.RunEnd.TheVariants.{WriteFault}
use Rattle.hlc_line.specs.Line.{event_line, HasLine, BearsBytes, header_line, HasHeader}

-- A good line was answered, and the schedule is `after` then. Its event got a reply that a world may return; or memory
-- ran out for the event's bytes, and it did not take place.
abbrev pub AnswersLine : ℕ → List (Event × Reply) → Event → Reply → List (Event × Reply) → Type 0
AnswersLine nodes schedule event reply after =
    (MayReply nodes schedule event reply × (after ≡ (event, reply) ∷ schedule))
    ⊎ (BearsBytes event × (reply ≡ Refused no_memory) × (after ≡ schedule))

-- What may be written for the lines from one number on, after a schedule: the reply to each line, up to the end or to
-- the refusal of the first bad line, whose number comes last.
abbrev pub Answers : ℕ → List (Event × Reply) → ℕ → List (List ℕ) → List ℕ → Option ℕ → Type 0
Answers nodes schedule number [] output bad = (output ≡ []) × (bad ≡ None)
Answers nodes schedule number (line ∷ lines) output bad =
    ((event : Event) × (reply : Reply) × (after : List (Event × Reply)) × (rest : List ℕ)
    × HasLine event × (line ≡ event_line event)
    × AnswersLine nodes schedule event reply after
    × (output ≡ reply_text reply ++ rest)
    × Answers nodes after (number + 1) lines rest bad)
    ⊎ (((event : Event) → HasLine event → line ≢ event_line event)
    × (output ≡ printed (bad_line number)) × (bad ≡ Some number))

-- the header, and then the answers to the lines after it
abbrev pub AnswersScript : List ℕ → List ℕ → Option ℕ → Type 0
AnswersScript input output bad =
    (nodes : ℕ) × (lines : List (List ℕ)) × (replies : List ℕ)
    × HasHeader nodes × (lines_of input ≡ header_line nodes ∷ lines)
    × (output ≡ printed (header_line nodes) ++ replies)
    × Answers nodes [] 2 lines replies bad

-- what may be written for an input, depending on how the run ends
abbrev pub MayWrite : List ℕ → List ℕ → RunEnd → Type 0
MayWrite input output Answered = (length input ≤ INPUT_LIMIT) × AnswersScript input output None
MayWrite input output (BadLine number) = (length input ≤ INPUT_LIMIT) × AnswersScript input output (Some number)
MayWrite input output BadHeader =
    (length input ≤ INPUT_LIMIT)
    × ((nodes : ℕ) (lines : List (List ℕ)) → HasHeader nodes → lines_of input ≢ header_line nodes ∷ lines)
    × (output ≡ printed (codes "refused 17"))
MayWrite input output (NotLoaded fault) = MayFault input fault × (output ≡ printed (fault_line fault))
-- a world is made only after a header
MayWrite input output NoMemory =
    (length input ≤ INPUT_LIMIT)
    × ((nodes : ℕ) × (lines : List (List ℕ)) × HasHeader nodes × (lines_of input ≡ header_line nodes ∷ lines))
    × (output ≡ printed (codes "refused 15"))
-- a failed write is no end of what may be written, since it cuts that off
MayWrite input output WriteFault = ⊥

-- the input was read whole and loaded, and then the run ended like this
abbrev pub InputWasLoaded : RunEnd → Type 0
InputWasLoaded Answered = ⊤
InputWasLoaded (BadLine number) = ⊤
InputWasLoaded BadHeader = ⊤
InputWasLoaded NoMemory = ⊤
InputWasLoaded (NotLoaded fault) = ⊥
InputWasLoaded WriteFault = ⊥

-- What may have been taken from the reader when a run ended: the whole input, unless it was not loaded.
abbrev pub MayTake : List ℕ → List ℕ → RunEnd → Type 0
MayTake input taken (NotLoaded fault) = FaultTakes taken fault
MayTake input taken Answered = taken ≡ input
MayTake input taken (BadLine number) = taken ≡ input
MayTake input taken BadHeader = taken ≡ input
MayTake input taken NoMemory = taken ≡ input
MayTake input taken WriteFault = ⊥

-- What the reader had left was read as an input, and an output that it may have at this end was printed.
pub record ReadsScript {R W : Type 0} (remaining : R → Option (List ℕ)) (contents : W → Option (List ℕ))
    (reader reader_after : Watched R) (printer printer_after : Printer W) (end : RunEnd) : Type 0 where
  pub input : List ℕ
  pub taken : List ℕ
  pub output : List ℕ
  pub is_input : IsInput (remaining (inner_of reader)) input
  pub consumed : Consumes (remaining (inner_of reader)) (remaining (inner_of reader_after)) taken
  pub may_take : MayTake input taken end
  pub may_write : MayWrite input output end
  pub prints : Prints contents printer printer_after output

-- A script was read and answered: there are an input, an output that it may have, and the end of such a run.
-- `remaining` and `contents` are what the reader has left and what the writer contains, where that is known.
pub record RunsScript {R W : Type 0} (remaining : R → Option (List ℕ)) (contents : W → Option (List ℕ))
    (reader reader_after : Watched R) (writer writer_after : Watched W) (result : RunEnd) : Type 0 where
  pub input : List ℕ
  pub taken : List ℕ
  pub output : List ℕ
  pub end : RunEnd
  -- the input is what the reader had left, and some of it was taken
  pub is_input : IsInput (remaining (inner_of reader)) input
  pub consumed : Consumes (remaining (inner_of reader)) (remaining (inner_of reader_after)) taken
  pub may_take : MayTake input taken end
  pub may_write : MayWrite input output end
  -- the output was written, or a beginning of it where the writer failed
  pub wrote : Writes contents writer writer_after output
  pub read_fault : (end ≡ NotLoaded ReadFault) ↔ (has_failed reader_after ≡ true)
  -- a failed write cuts the end off
  pub end_is : has_failed writer_after ≡ false → result ≡ end
  pub write_fault : (result ≡ WriteFault) ↔ (has_failed writer_after ≡ true)

-- the exit status
abbrev pub status_of : RunEnd → ℕ
status_of Answered = 0
status_of (BadLine number) = 2
status_of BadHeader = 2
status_of NoMemory = 2
status_of (NotLoaded fault) = 2
status_of WriteFault = 3
