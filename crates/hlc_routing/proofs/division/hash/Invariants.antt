-- The hash of the bytes so far, and those that are left.
use Rattle.std.proofs.Common.{◌≡◌, drop}
use Rattle.hlc_routing.specs.{Division.hash_after, declared.division.TheConstants.HASH_START}
use Rattle.hlc_routing.proofs.division.hash.Given as goal

abbrev pub invariant-loop-byte : goal.invariant-loop-byte
invariant-loop-byte l = hash_after l.hash (drop l.byte-index l.key) ≡ hash_after HASH_START l.key
