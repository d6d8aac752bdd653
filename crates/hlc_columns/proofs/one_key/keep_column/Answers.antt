-- Only the column at the position changes, or goes.
use Rattle.std.proofs.Common.{◌∙◌}
use Rattle.hlc_columns.proofs.KeptOf.{own_part, sum_fits, gone_entries, gone_sizes, left_entries, left_sizes}
use Rattle.hlc_columns.proofs.one_key.keep_column.Goals as goal

pub minus-others-requires : goal.minus-others-requires
minus-others-requires c =
    own_part c.args.columns.now c.args.at c.args.slot c.requires.leaf c.requires.inside c.args.flags.now
    c.requires.many c.args.sizes.now c.sizes_at-before.result c.requires.sizes c.sizes_at-before.ensures

pub plus-requires : goal.plus-requires
plus-requires c =
    sum_fits c.args.columns.now c.args.at c.args.slot c.requires.leaf c.requires.inside c.args.flags.now
    c.requires.many c.args.sizes.now c.sizes_at-before.result c.requires.sizes c.sizes_at-before.ensures
    c.keep_cells.new.columns c.sizes_at-after.result c.minus-others.result c.keep_cells.ensures
    c.sizes_at-after.ensures c.minus-others.ensures c.requires.fit

pub returns-then-after-eq0-clause-entries : goal.returns-then-after-eq0-clause-entries
returns-then-after-eq0-clause-entries c =
    gone_entries c.args.columns.now c.args.at c.args.slot c.requires.leaf c.requires.inside c.args.flags.now
    c.requires.many c.args.sizes.now c.sizes_at-before.result c.requires.sizes c.sizes_at-before.ensures
    c.keep_cells.new.columns c.sizes_at-after.result c.minus-others.result c.keep_cells.ensures
    c.sizes_at-after.ensures c.minus-others.ensures c.if-after-eq0.true _ c.remove.ensures

pub returns-then-after-eq0-clause-sizes : goal.returns-then-after-eq0-clause-sizes
returns-then-after-eq0-clause-sizes c =
    gone_sizes c.args.columns.now c.args.at c.args.slot c.requires.leaf c.requires.inside c.args.flags.now
    c.requires.many c.args.sizes.now c.sizes_at-before.result c.requires.sizes c.sizes_at-before.ensures
    c.keep_cells.new.columns c.sizes_at-after.result c.minus-others.result c.keep_cells.ensures
    c.sizes_at-after.ensures c.minus-others.ensures c.if-after-eq0.true _ c.remove.ensures

pub returns-else-after-eq0-clause-entries : goal.returns-else-after-eq0-clause-entries
returns-else-after-eq0-clause-entries c =
    left_entries c.args.columns.now c.args.at c.args.slot c.requires.leaf c.requires.inside c.args.flags.now
    c.requires.many c.args.sizes.now c.sizes_at-before.result c.requires.sizes c.sizes_at-before.ensures
    c.keep_cells.new.columns c.sizes_at-after.result c.minus-others.result c.keep_cells.ensures
    c.sizes_at-after.ensures c.minus-others.ensures c.if-after-eq0.false

pub returns-else-after-eq0-clause-sizes : goal.returns-else-after-eq0-clause-sizes
returns-else-after-eq0-clause-sizes c =
    c.plus.ensures
    ∙ left_sizes c.args.columns.now c.args.at c.args.slot c.requires.leaf c.requires.inside c.args.flags.now
    c.requires.many c.args.sizes.now c.sizes_at-before.result c.requires.sizes c.sizes_at-before.ensures
    c.keep_cells.new.columns c.sizes_at-after.result c.minus-others.result c.keep_cells.ensures
    c.sizes_at-after.ensures c.minus-others.ensures
