-- What the program does for the words after its name, and its exit status.
use Rattle.std.specs.Prelude.{◌≡◌, ℕ, List, Option, Some, None, Result}
use Rattle.hlc_text.specs.{declared.watched.Watched.Watched, Watched.has_failed, Printing.Writes}
use Rattle.hlc_words.specs.declared.words.Words.{Words, TheVariants.Run, TheVariants.Check, TheVariants.Storm}
use Rattle.hlc_script.specs.Asked.{AnswersInput}
use Rattle.hlc_storm_report.specs.declared.report.{StormReport.StormReport, StormFault.StormFault}
use Rattle.hlc_storm_report.specs.{Found.MayReport, Printed.storm_text, Printed.storm_status}

-- What was asked for is done, and the exit status is that of its end. For a storm there is an outcome that its plan may
-- have, whose text is written, and nothing is read. A script and a certificate are answered, and other words refused.
abbrev pub RunsCommand : {R W : Type 0} → (R → Option (List ℕ)) → (W → Option (List ℕ))
    → Option Words → Watched R → Watched R → Watched W → Watched W → ℕ → Type 0
RunsCommand remaining contents (Some (Storm plan)) reader reader_after writer writer_after status =
    (returned : Result StormReport StormFault) × MayReport plan returned × (reader_after ≡ reader)
    × Writes contents writer writer_after (storm_text returned)
    × (status ≡ storm_status (has_failed writer_after) returned)
RunsCommand remaining contents (Some Run) reader reader_after writer writer_after status =
    AnswersInput remaining contents (Some Run) reader reader_after writer writer_after status
RunsCommand remaining contents (Some Check) reader reader_after writer writer_after status =
    AnswersInput remaining contents (Some Check) reader reader_after writer writer_after status
RunsCommand remaining contents None reader reader_after writer writer_after status =
    AnswersInput remaining contents None reader reader_after writer writer_after status
