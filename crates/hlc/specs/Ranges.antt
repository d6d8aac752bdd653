-- The words in which contracts speak of several stores with one key space, and of machines that write to them.
pub use Rattle.hlc_ranges.specs.Run.{Layout, Turn, Issued, Sent, Received, Observed, Stepped, past_of, issued, turn_at}
pub use Rattle.hlc_ranges.specs.Run.{next_number, has_ended, last_stamp, start_of, issued_since, issued_writes}
pub use Rattle.hlc_ranges.specs.Run.{accepted_writes}
pub use Rattle.hlc_ranges.specs.Run.{IsIssuedStep, CanBegin, IsLegal}
pub use Rattle.hlc_ranges.specs.Before.{HappenedBefore, IsStamped}
pub use Rattle.hlc_ranges.specs.Calls.{IsNodeOf, HasClock, Extends}
pub use Rattle.hlc_ranges.specs.Cut.{IsCut, IsAccepted, IsConsistent}
pub use Rattle.hlc_ranges.specs.Change.{IsReadable, past_with, IsDrained, IsCutOfOthers, TakesOver, LeadsTo}
pub use Rattle.hlc_split.specs.Split.{part_of, is_under, is_from}
pub use Rattle.hlc_split.specs.Merge.{AreJoinable, is_of_left}
pub use Rattle.hlc_routing.specs.Division.{DivisionView, ByKeys, ByHash, stores_of, store_of}
pub use Rattle.hlc_routing.specs.Faults.{ranges_code, machine_code, placing_code}
pub use Rattle.hlc_routing.specs.Ranges.{RangesView, Represents, IsLeastFloor, IsOfStore, HasTaken}
pub use Rattle.hlc_routing.specs.Beginning.{layout_from, halves_of, AreStates, AreRestored, IsFirstNode}
pub use Rattle.hlc_routing.specs.Beginning.{IsFirstMachine}
pub use Rattle.hlc_routing.specs.Placing.{ArePlaced, AreAllPlaced, IsMisplaced, IsRefusedPlacing}
pub use Rattle.hlc_routing.specs.All.{SnapshotView, IsOpenAt, IsOpenAll, OpensAll, ClosesAll, AreOpenIn}
pub use Rattle.hlc_routing.specs.All.{AreVacuumed, HaveJoined}
pub use Rattle.hlc_routing.specs.All.{each_stepped, each_closed, join_step, next_join, AreJoins}
pub use Rattle.hlc_routing.specs.Listing.{IsListingBetween, IsRefusedListing}
pub use Rattle.hlc_routing.specs.Machine.{MachineView, Issues, HaveOneStore, HaveNoStore, IsRefusedBatch}
pub use Rattle.hlc_routing.specs.Machine.{IsMachineOf, GoesOn, IsDividedBy}
pub use Rattle.hlc_routing.specs.Machine.{IsNewMachine}
pub use Rattle.hlc_routing.specs.declared.fault.RangesFault.{RangesFault}
pub use Rattle.hlc_routing.specs.declared.placing.PlacingFault.{PlacingFault}
pub use Rattle.hlc_routing.specs.declared.machine.MachineFault.{MachineFault}
