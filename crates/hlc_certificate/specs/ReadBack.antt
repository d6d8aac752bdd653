-- What is printed as a certificate is read back unchanged, and answered.
use Rattle.std.specs.Prelude.{◌≡◌, ◌≢◌, ◌≤◌, ◌⊎◌, ℕ, List, length}
use Rattle.std.specs.List.{AllByRecursion}
use Rattle.hlc_text.specs.declared.input.{TheConstants.INPUT_LIMIT, InputFault.TheVariants.ReadFault}
use Rattle.hlc_text.specs.Lines.{lines_of}
use Rattle.hlc_rows.specs.declared.row.Row.{Row as ARow}
use Rattle.hlc_witness.specs.{declared.witness.Witness.Witness as AWitness, Certificate.IsCertificate, Cost.rows_cost}
use Rattle.hlc_certificate.specs.{declared.check.CheckEnd.CheckEnd, CertificateText.certificate_text}
use Rattle.hlc_certificate.specs.declared.check.CheckEnd.TheVariants.{Fewest, NoMemory, NotLoaded}
use Rattle.hlc_certificate.specs.CheckLine.{HasCheckLine, all_said, AreLinesOf}
use Rattle.hlc_certificate.specs.{Check.MayAnswer, Check.MayEnd, OneAnswer.ReportsNoMemory}

-- what can be written as lines is printed as exactly these lines, so it is read back unchanged
abbrev pub PrintedIsRead : Type 0
PrintedIsRead = (points : List ℕ) (rows : List ARow) (witnesses : List AWitness)
    → AllByRecursion HasCheckLine (all_said points rows witnesses)
    → AreLinesOf points rows witnesses (lines_of (certificate_text points rows witnesses))

-- A check of the text, where it is not too long and no read failed, answers that this many rows are the fewest, and
-- that this is their cost; or it reports out of memory.
abbrev pub IsAnsweredFewest : List ℕ → ℕ → ℕ → Type 0
IsAnsweredFewest text count bytes =
    length text ≤ INPUT_LIMIT → (end : CheckEnd) → MayAnswer text end → end ≢ NotLoaded ReadFault
    → (end ≡ Fewest count bytes) ⊎ ReportsNoMemory end

-- A check of the text in memory, however long it is, ends with this: this many rows are the fewest, and this is their
-- cost; or with out of memory.
abbrev pub EndsFewest : List ℕ → ℕ → ℕ → Type 0
EndsFewest text count bytes = (end : CheckEnd) → MayEnd text end → (end ≡ Fewest count bytes) ⊎ (end ≡ NoMemory)

-- where the witnesses show that the rows are the fewest, a check of what is printed answers how many they are, and what
-- they cost
abbrev pub PrintedShowsFewest : Type 0
PrintedShowsFewest = (points : List ℕ) (rows : List ARow) (witnesses : List AWitness)
    → AreLinesOf points rows witnesses (lines_of (certificate_text points rows witnesses))
    → IsCertificate rows points witnesses
    → IsAnsweredFewest (certificate_text points rows witnesses) (length rows) (rows_cost rows)

-- and so ends a check of it in memory
abbrev pub PrintedEndsFewest : Type 0
PrintedEndsFewest = (points : List ℕ) (rows : List ARow) (witnesses : List AWitness)
    → AreLinesOf points rows witnesses (lines_of (certificate_text points rows witnesses))
    → IsCertificate rows points witnesses
    → EndsFewest (certificate_text points rows witnesses) (length rows) (rows_cost rows)
