-- As many writes are read as are asked for.
use Rattle.std.proofs.Common.{◌≡◌, ◌∙◌, sym, ap, length}
use Rattle.hlc_rows.{specs.Spelled.writes_in, specs.Spelled.writes_seen, proofs.SpelledLemmas.writes_count}
use Rattle.hlc_rows.proofs.writes.Writes.len.Goals as goal

pub returns-in-Bytes : goal.returns-in-Bytes
returns-in-Bytes c =
    let are : c.args.self.now ≡ writes_in c.in-Bytes.count c.in-Bytes.field-1.now =
    sym c.self.view_is ∙ ap writes_seen c.in-Bytes.is in
    sym (ap length are ∙ writes_count c.in-Bytes.count c.in-Bytes.field-1.now)
