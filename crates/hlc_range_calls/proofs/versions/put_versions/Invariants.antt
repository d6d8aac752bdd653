-- The bytes of the versions so far are at the start of the buffer.
use Rattle.std.proofs.Common.{◌≡◌, ◌++◌, ℕ, List, length}
use Rattle.hlc_wire.specs.Placing.{with_bytes}
use Rattle.hlc_range_calls.specs.{Scan.parts_bytes, Versions.version_bytes}
use Rattle.hlc_range_calls.proofs.versions.put_versions.Given as goal

abbrev pub invariant-loop-stamp : goal.invariant-loop-stamp
invariant-loop-stamp l =
    (before : List ℕ)
    × (parts_bytes version_bytes l.fn.versions ≡ before ++ parts_bytes version_bytes l.stamp-iterator)
    × (l.at ≡ length before) × (l.out ≡ with_bytes 0 before l.fn.out)
