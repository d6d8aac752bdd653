-- The position is that of an entry.
use Rattle.std.proofs.Common.{◌∙◌, ap, sym, arith, length, slice_get}
use Rattle.std.proofs.lemmas.List.{length-map}
use Rattle.hlc_columns.proofs.WalkLemmas.{one_of}
use Rattle.hlc_columns.proofs.leaves.Columns.at.Goals as goal

pub entry_at-requires : goal.entry_at-requires
entry_at-requires c =
    omega (arith, c.requires, ap length (sym c.self.view_is), length-map c.self.inside.entries.now one_of)

pub returns : goal.returns
returns c = ap (λ columns. slice_get columns c.args.place) (sym c.self.view_is) ∙ c.entry_at.ensures
