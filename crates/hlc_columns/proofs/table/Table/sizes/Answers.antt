-- The stored sizes are those of the columns.
use Rattle.std.proofs.{Common.◌<◌, Common.subst, Common.sym, Common.length, lemmas.List.Elements.recursion_from_All}
use Rattle.hlc_table_index.specs.Entries.{entries_in}
use Rattle.hlc_columns.{specs.Sizes.AreSizes, proofs.SizeLemmas.are_sizes}
use Rattle.hlc_columns.proofs.table.Table.sizes.Goals as goal

pub returns : goal.returns
returns c =
    subst (AreSizes c.args.self.now) (sym c.self.invariant.2)
    (are_sizes (entries_in c.self.inside.columns) c.args.self.now
    (recursion_from_All (λ e. 0 < length e.1) (entries_in c.self.inside.columns) c.self.invariant.0)
    c.leaves-leaves.ensures.ascend c.self.view_is)
