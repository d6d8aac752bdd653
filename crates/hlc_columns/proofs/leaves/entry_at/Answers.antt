-- The key and the cells of the entry.
use Rattle.std.proofs.Common.{◌∙◌, ap}
use Rattle.hlc_columns.proofs.Keys.{keyed_at}
use Rattle.hlc_columns.proofs.leaves.entry_at.Goals as goal

pub returns : goal.returns
returns c =
    keyed_at c.args.entries.now c.args.place c.index-entries-place.result c.new.result c.requires
    c.index-entries-place.is
    (c.new.ensures ∙ ap (λ k. record { key = k; cells = c.index-entries-place.result.1 }) c.as_slice.ensures)
