-- The first keys were copied.
use Rattle.std.proofs.Common.{◌≡◌, take}
use Rattle.hlc_table_column.specs.Rows.{keys_in}
use Rattle.hlc_vacuum.proofs.part.copy_keys.Given as goal

abbrev pub invariant-loop-one : goal.invariant-loop-one
invariant-loop-one l = l.keys.items ≡ keys_in (take l.one-index l.columns)
