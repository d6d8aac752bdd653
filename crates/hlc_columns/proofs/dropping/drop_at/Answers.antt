-- The sizes lose what the column loses.
use Rattle.std.proofs.Common.{◌∙◌}
use Rattle.hlc_columns.proofs.Dropped.{dropped_part, dropped_sizes, dropped_fit}
use Rattle.hlc_columns.proofs.dropping.drop_at.Goals as goal

pub minus-requires : goal.minus-requires
minus-requires c =
    dropped_part c.args.columns.now c.args.at c.args.slot c.requires.leaf c.requires.inside c.args.flags.now
    c.args.sizes.now c.filled_sizes_at-before.result c.requires.sizes c.filled_sizes_at-before.ensures

pub plus-requires : goal.plus-requires
plus-requires c =
    dropped_fit c.args.columns.now c.args.at c.args.slot c.requires.leaf c.requires.inside c.args.flags.now
    c.args.sizes.now c.filled_sizes_at-before.result c.requires.sizes c.filled_sizes_at-before.ensures
    c.keep_cells.new.columns c.filled_sizes_at-after.result c.minus.result c.keep_cells.ensures
    c.filled_sizes_at-after.ensures c.minus.ensures c.requires.fit

pub returns-clause-sizes : goal.returns-clause-sizes
returns-clause-sizes c =
    c.plus.ensures
    ∙ dropped_sizes c.args.columns.now c.args.at c.args.slot c.requires.leaf c.requires.inside c.args.flags.now
    c.args.sizes.now c.filled_sizes_at-before.result c.requires.sizes c.filled_sizes_at-before.ensures
    c.keep_cells.new.columns c.filled_sizes_at-after.result c.minus.result c.keep_cells.ensures
    c.filled_sizes_at-after.ensures c.minus.ensures
