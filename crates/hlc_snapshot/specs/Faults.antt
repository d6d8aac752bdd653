-- The refusals of a registry: the number and the text of each.
use Rattle.std.specs.Prelude.{ℕ, List, codes}
use Rattle.hlc_snapshot.specs.declared.fault.SnapshotFault.{SnapshotFault}
use Rattle.hlc_snapshot.specs.declared.fault.SnapshotFault.TheVariants.{TooManySnapshots, NumbersSpent, NoMemory}

-- the number of a refusal
abbrev pub snapshot_code : SnapshotFault → ℕ
snapshot_code TooManySnapshots = 11
snapshot_code NumbersSpent = 14
snapshot_code NoMemory = 15

-- its text
abbrev pub snapshot_text : SnapshotFault → List ℕ
snapshot_text TooManySnapshots = codes "1,024 snapshots are open"
snapshot_text NumbersSpent = codes "no snapshot id is left"
snapshot_text NoMemory = codes "out of memory"
