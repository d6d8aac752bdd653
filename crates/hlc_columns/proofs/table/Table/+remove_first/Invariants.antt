-- Each call has one write less.
use Rattle.hlc_columns.proofs.table.Table.+remove_first.Given as goal

abbrev pub decreases-remove_first : goal.decreases-remove_first
decreases-remove_first l = l.count
