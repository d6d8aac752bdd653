-- What is read from the words is read from the line.
use Rattle.hlc_line.specs.Line.{header_words, HasHeader}
use Rattle.hlc_text.proofs.LineLemmas.{read_from_words}
use Rattle.hlc_line.proofs.LineLemmas.{words_of_header}
use Rattle.hlc_script.proofs.run.read_header.Goals as goal

pub returns : goal.returns
returns c =
    read_from_words header_words HasHeader words_of_header c.args.line.now _ _ c.of-words.ensures
    c.header_of_words.ensures
