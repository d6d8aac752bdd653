-- Where the words after the first do not fit, nothing has these words.
use Rattle.std.{proofs.Common.◌≡◌, proofs.Common.◌∷◌, proofs.Common.rules, specs.Prelude.codes}
use Rattle.hlc_certificate.proofs.CheckLines.{no_row, no_witness}
use Rattle.hlc_certificate.proofs.check_line.check_line_of_words.Goals as goal

pub returns-in_err-key : goal.returns-in_err-key
returns-in_err-key c =
    let words : c.args.words.now ≡ codes "row" ∷ c.next.new.self = search rules in
    rw (c.from_residual-in_err-key.ensures, words) (no_row c.next.new.self c.in_err-key.ensures)

pub returns-in_err-key-2 : goal.returns-in_err-key-2
returns-in_err-key-2 c =
    let words : c.args.words.now ≡ codes "witness" ∷ c.next.new.self = search rules in
    rw (c.from_residual-in_err-key-2.ensures, words) (no_witness c.next.new.self c.in_err-key-2.ensures)
