-- What lines say is one certificate, and an input has one end.
use Rattle.std.specs.Prelude.{◌≡◌, ◌≢◌, ◌⊎◌, ℕ, List, codes}
use Rattle.hlc_text.specs.{Text.printed, declared.input.InputFault.TheVariants.ReadFault}
use Rattle.hlc_rows.specs.declared.row.Row.{Row as ARow}
use Rattle.hlc_witness.specs.declared.witness.Witness.{Witness as AWitness}
use Rattle.hlc_certificate.specs.declared.check.CheckEnd.{CheckEnd, TheVariants.NotLoaded}
use Rattle.hlc_certificate.specs.{CheckLine.AreLinesOf, Check.MayAnswer, Check.answer_output}

-- lines belong to one list of points, one of rows and one of witnesses
abbrev pub OneCertificate : Type 0
OneCertificate =
    (lines : List (List ℕ)) (points other_points : List ℕ) (rows other_rows : List ARow)
    (witnesses other_witnesses : List AWitness)
    → AreLinesOf points rows witnesses lines → AreLinesOf other_points other_rows other_witnesses lines
    → (points ≡ other_points) × (rows ≡ other_rows) × (witnesses ≡ other_witnesses)

-- the line of the end is `refused 15`
abbrev pub ReportsNoMemory : CheckEnd → Type 0
ReportsNoMemory end = answer_output end ≡ printed (codes "refused 15")

-- two ends that one input may have are equal; or one of them reports out of memory
abbrev pub OneAnswer : Type 0
OneAnswer = (input : List ℕ) (end finish : CheckEnd)
    → MayAnswer input end → MayAnswer input finish → end ≢ NotLoaded ReadFault → finish ≢ NotLoaded ReadFault
    → (end ≡ finish) ⊎ (ReportsNoMemory end ⊎ ReportsNoMemory finish)
