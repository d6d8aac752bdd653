-- The first write is at the front of the bytes.
use Rattle.std.proofs.Common.{◌∙◌, sym, ap, List, ◌∷◌, option_copied}
use Rattle.hlc_rows.specs.{declared.write.Write.Write, Spelled.a_write, Spelled.writes_seen}
use Rattle.hlc_rows.proofs.SpelledLemmas.{writes_none, front}
use Rattle.hlc_rows.proofs.writes.Writes.split_first.Goals as goal

pub returns-then-count-eq0 : goal.returns-then-count-eq0
returns-then-count-eq0 c =
    sym c.self.view_is ∙ ap writes_seen c.in-Bytes.is
    ∙ writes_none c.in-Bytes.count c.in-Bytes.bytes.now c.if-count-eq0.true

pub returns-else-count-eq0 : goal.returns-else-count-eq0
returns-else-count-eq0 c =
    sym c.self.view_is ∙ ap writes_seen c.in-Bytes.is
    ∙ front c.in-Bytes.count c.in-Bytes.bytes.now c.key_in.result.0.now c.key_in.result.1.now
    (option_copied c.value_in.result.0) c.value_in.result.1.now c.if-count-eq0.false c.key_in.ensures c.value_in.ensures
    ∙ ap (λ (others : List Write). a_write c.key_in.result.0.now (option_copied c.value_in.result.0) ∷ others)
    (sym c.spelled.ensures)
