-- The rows of the first keys were dropped, and the others are still to be.
use Rattle.std.proofs.Common.{◌≡◌, drop}
use Rattle.hlc_vacuum.specs.Part.{all_kept, HaveFlags}
use Rattle.hlc_vacuum.proofs.part.keep_of_keys.Given as goal

abbrev pub invariant-loop-key : goal.invariant-loop-key
invariant-loop-key l = record {
  rows : all_kept (drop l.key-index l.keys) l.left l.table ≡ all_kept l.keys l.fn.flags l.initial.table;
  enough : HaveFlags (drop l.key-index l.keys) l.left l.table;
}
