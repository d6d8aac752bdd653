-- The number so far and the bytes that are left give the number of the key.
use Rattle.std.proofs.Common.{◌≡◌, length}
use Rattle.hlc_rows.specs.Writes.{number_from, short_number}
use Rattle.hlc_rows.proofs.write.short_number.Given as goal

abbrev pub invariant-loop-byte : goal.invariant-loop-byte
invariant-loop-byte l = short_number l.fn.key ≡ number_from l.number l.rest

abbrev pub decreases-loop-byte : goal.decreases-loop-byte
decreases-loop-byte l = length l.rest
