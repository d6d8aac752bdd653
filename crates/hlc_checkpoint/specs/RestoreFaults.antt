-- The number and the text of each reason why no store is restored.
use Rattle.std.specs.Prelude.{ℕ, List, codes}
use Rattle.hlc_checkpoint.specs.declared.checkpoint.RestoreFault.{RestoreFault}
use Rattle.hlc_checkpoint.specs.declared.checkpoint.RestoreFault.TheVariants.{NodesOutOfRange, NumberAboveHead}
use Rattle.hlc_checkpoint.specs.declared.checkpoint.RestoreFault.TheVariants.{RetiredWithoutItem, SnapshotsNotRising}
use Rattle.hlc_checkpoint.specs.declared.checkpoint.RestoreFault.TheVariants.{SnapshotAboveFloor, HorizonAboveFloor}
use Rattle.hlc_checkpoint.specs.declared.checkpoint.RestoreFault.TheVariants.{RowsNotAscending, RowAboveHead}
use Rattle.hlc_checkpoint.specs.declared.checkpoint.RestoreFault.TheVariants.{RowOutOfLimits}

-- the number of a fault in outputs
abbrev pub fault_code : RestoreFault → ℕ
fault_code NodesOutOfRange = 1
fault_code NumberAboveHead = 2
fault_code RetiredWithoutItem = 3
fault_code SnapshotsNotRising = 4
fault_code SnapshotAboveFloor = 5
fault_code HorizonAboveFloor = 6
fault_code RowsNotAscending = 7
fault_code RowAboveHead = 8
fault_code RowOutOfLimits = 9

-- the text of a fault
abbrev pub fault_text : RestoreFault → List ℕ
fault_text NodesOutOfRange = codes "the nodes at the start, or the links, are out of range"
fault_text NumberAboveHead = codes "the next number of a link is above its head"
fault_text RetiredWithoutItem = codes "a node retired without an item"
fault_text SnapshotsNotRising = codes "the open snapshots are too many, or out of order"
fault_text SnapshotAboveFloor = codes "an open snapshot is above the floor"
fault_text HorizonAboveFloor = codes "the horizon is above the floor"
fault_text RowsNotAscending = codes "the rows do not ascend by key, stamp and node"
fault_text RowAboveHead = codes "a row is of no node, or above the head of its node"
fault_text RowOutOfLimits = codes "a key or a value is out of the limits"
