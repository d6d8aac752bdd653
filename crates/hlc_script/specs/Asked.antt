-- What the words after the program's name ask of one thread, and the exit status.
use Rattle.std.specs.Prelude.{◌≡◌, ℕ, List, Option, Some, None}
use Rattle.hlc_text.specs.declared.watched.Watched.{Watched}
use Rattle.hlc_words.specs.declared.words.Words.{Words, TheVariants.Run, TheVariants.Check, TheVariants.Storm}
use Rattle.hlc_words.specs.Words.{RefusesWords}
use Rattle.hlc_certificate.specs.{declared.check.CheckEnd.CheckEnd, Check.RunsCheck, Check.check_status}
use Rattle.hlc_script.specs.{declared.run.RunEnd.RunEnd, Run.RunsScript, Run.status_of}

-- The script or the certificate is answered, and the exit status is that of its end. Any other words are refused, and
-- nothing is read.
abbrev pub AnswersInput : {R W : Type 0} → (R → Option (List ℕ)) → (W → Option (List ℕ))
    → Option Words → Watched R → Watched R → Watched W → Watched W → ℕ → Type 0
AnswersInput remaining contents (Some Run) reader reader_after writer writer_after status =
    (end : RunEnd) × RunsScript remaining contents reader reader_after writer writer_after end
    × (status ≡ status_of end)
AnswersInput remaining contents (Some Check) reader reader_after writer writer_after status =
    (end : CheckEnd) × RunsCheck remaining contents reader reader_after writer writer_after end
    × (status ≡ check_status end)
AnswersInput remaining contents (Some (Storm plan)) reader reader_after writer writer_after status =
    (reader_after ≡ reader) × RefusesWords contents writer writer_after status
AnswersInput remaining contents None reader reader_after writer writer_after status =
    (reader_after ≡ reader) × RefusesWords contents writer writer_after status
