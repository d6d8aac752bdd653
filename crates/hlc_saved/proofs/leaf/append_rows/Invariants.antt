-- Those so far are written.
use Rattle.std.{proofs.Common.◌≡◌, proofs.Common.◌++◌, proofs.Common.take, specs.List.flat_map}
use Rattle.hlc_body.specs.Spelling.{row_bytes}
use Rattle.hlc_saved.proofs.leaf.append_rows.Given as goal

abbrev pub invariant-loop-row : goal.invariant-loop-row
invariant-loop-row l = l.out.items ≡ l.fn.out.items ++ flat_map row_bytes (take l.row-index l.rows)
