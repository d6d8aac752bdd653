-- What follows a run on standard error.
use Rattle.std.specs.Prelude.{ℕ, ◌==◌, ◌++◌, List, [], Option, if◌then◌else◌}
use Rattle.hlc_text.specs.{declared.watched.Watched.Watched, Text.printed, Printing.Writes}
use Rattle.hlc_explain.specs.{declared.usage.TheConstants.USAGE, Sentence.IsSentence}

-- Nothing for the status 0; else a sentence, and after words that were refused also how the program is used.
abbrev pub explained : ℕ → List ℕ → List ℕ
explained status sentence =
    if status == 0 then []
    else if status == 1 then printed sentence ++ USAGE.now
    else printed sentence

-- some sentence follows a run with this status
pub record Explains {W : Type 0} (contents : W → Option (List ℕ)) (errors errors_after : Watched W) (status : ℕ)
    : Type 0 where
  pub sentence : List ℕ
  pub is_sentence : IsSentence sentence
  pub wrote : Writes contents errors errors_after (explained status sentence)
