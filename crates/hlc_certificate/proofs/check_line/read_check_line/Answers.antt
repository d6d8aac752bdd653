-- What is read from the words is read from the line.
use Rattle.hlc_certificate.specs.CheckLine.{check_words, HasCheckLine}
use Rattle.hlc_text.proofs.LineLemmas.{read_from_words}
use Rattle.hlc_certificate.proofs.CheckLines.{words_of_check_line}
use Rattle.hlc_certificate.proofs.check_line.read_check_line.Goals as goal

pub returns : goal.returns
returns c =
    read_from_words check_words HasCheckLine words_of_check_line c.args.line.now _ _ c.of-words.ensures
    c.check_line_of_words.ensures
