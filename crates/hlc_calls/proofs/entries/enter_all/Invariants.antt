-- The entries so far lie within the bytes and were accepted, and the store represents their items.
use Rattle.std.proofs.Common.{◌≤◌, ◌-◌, List, length, take}
use Rattle.hlc_core.specs.{Past.Step, StoreView.Represents}
use Rattle.hlc_calls.specs.Entries.{AreWithin, entered}
use Rattle.hlc_calls.proofs.entries.enter_all.Given as goal

abbrev pub invariant-loop-index : goal.invariant-loop-index
invariant-loop-index l = record {
  within : l.index ≤ length l.entries;
  represents : (past : List Step) → Represents l.fn.core past
      → Represents l.core (entered l.entries l.bytes l.index past);
  inside : (past : List Step) → Represents l.fn.core past → AreWithin l.bytes (take l.index l.entries);
}

abbrev pub decreases-loop-index : goal.decreases-loop-index
decreases-loop-index l = length l.entries - l.index
