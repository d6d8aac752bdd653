-- How the check of a certificate's text is returned.
use Rattle.std.specs.Prelude.{◌≡◌, ◌⊎◌, ℕ, List}
use Rattle.hlc_text.specs.Lines.{lines_of}
use Rattle.hlc_witness.specs.{declared.reason.NotShown.NotShown, Reasons.reason_number}
use Rattle.hlc_certificate.specs.Check.{ShowsFewest, ShowsReason}
use Rattle.hlc_certificate.specs.CheckLine.{AreGoodLines, IsFirstBadLine}
use Rattle.hlc_calls.specs.Answers.{narrowed}

-- nothing is returned but the answer and a word
abbrev pub IsBare : ℕ → ℕ → Type 0
IsBare rows bytes = (rows ≡ 0) × (bytes ≡ 0)

-- the rows that the lines of the text show to be the fewest and cheapest are counted; or the first reason against it is
-- returned, or the first bad line; or out of memory
abbrev pub ReturnsCheck : List ℕ → ℕ → ℕ → ℕ → ℕ → Type 0
ReturnsCheck text code rows bytes word =
    ((code ≡ 0) × (word ≡ 0) × ((cost : ℕ) × ShowsFewest (lines_of text) rows cost × (bytes ≡ narrowed cost)))
    ⊎ (((code ≡ 22) × IsBare rows bytes
    × ((reason : NotShown) × ShowsReason (lines_of text) reason × (word ≡ reason_number reason)))
    ⊎ (((code ≡ 16) × IsBare rows bytes × IsFirstBadLine (lines_of text) word)
    ⊎ ((code ≡ 15) × IsBare rows bytes × (word ≡ 0) × AreGoodLines (lines_of text))))
