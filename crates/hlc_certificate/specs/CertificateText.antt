-- A certificate as it is printed.
use Rattle.std.specs.{Prelude.ℕ, Prelude.List, Prelude.map, List.flat_map}
use Rattle.hlc_text.specs.Text.{printed}
use Rattle.hlc_rows.specs.declared.row.Row.{Row}
use Rattle.hlc_witness.specs.declared.witness.Witness.{Witness}
use Rattle.hlc_certificate.specs.CheckLine.{check_line, says_point, says_row, says_witness, all_said}

-- the line of a point
abbrev pub point_line : ℕ → List ℕ
point_line point = check_line (says_point point)

-- the line of a row
abbrev pub row_line : Row → List ℕ
row_line row = check_line (says_row row)

-- the line of a change, in the form of a certificate
abbrev pub witness_line : Witness → List ℕ
witness_line witness = check_line (says_witness witness)

-- the lines of a certificate, each as it is printed
abbrev pub certificate_text : List ℕ → List Row → List Witness → List ℕ
certificate_text points rows witnesses = flat_map printed (map check_line (all_said points rows witnesses))
