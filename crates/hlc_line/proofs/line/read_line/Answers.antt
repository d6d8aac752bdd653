-- What is read from the words is read from the line.
use Rattle.hlc_line.{specs.Line.event_words, specs.Line.HasLine, proofs.LineLemmas.words_of_line}
use Rattle.hlc_text.proofs.LineLemmas.{read_from_words}
use Rattle.hlc_line.proofs.line.read_line.Goals as goal

pub returns : goal.returns
returns c =
    read_from_words event_words HasLine words_of_line c.args.line.now _ _ c.of-words.ensures
    c.event_of_words.ensures
