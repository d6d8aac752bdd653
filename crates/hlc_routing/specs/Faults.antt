-- The refusals of stores with one key space, of machines, and of stores that are not those of a division: the number
-- and the text of each.
use Rattle.std.specs.Prelude.{ℕ, List, codes}
use Rattle.hlc_node.specs.Faults.{node_code, node_text}
use Rattle.hlc_events.specs.Faults.{core_code, core_text}
use Rattle.hlc_routing.specs.declared.{fault.RangesFault.RangesFault, machine.MachineFault.MachineFault}
use Rattle.hlc_routing.specs.declared.fault.RangesFault.TheVariants.{NoStore, WrongStore, Store}
use Rattle.hlc_routing.specs.declared.machine.MachineFault.TheVariants.{ManyStores, Node, NoMemory}
use Rattle.hlc_routing.specs.declared.placing.PlacingFault.{PlacingFault, TheVariants.Number, TheVariants.Key}
use Rattle.hlc_routing.specs.declared.machine.MachineFault.TheVariants as machine_fault
use Rattle.hlc_routing.specs.declared.placing.PlacingFault.TheVariants as placing_fault

-- the number of a refusal
abbrev pub ranges_code : RangesFault → ℕ
ranges_code NoStore = 120
ranges_code WrongStore = 121
ranges_code (Store fault) = core_code fault

-- its text
abbrev pub ranges_text : RangesFault → List ℕ
ranges_text NoStore = codes "there is no such store"
ranges_text WrongStore = codes "the key belongs to another store"
ranges_text (Store fault) = core_text fault

-- the number of a machine's refusal
abbrev pub machine_code : MachineFault → ℕ
machine_code machine_fault.NoStore = 120
machine_code ManyStores = 122
machine_code (Node fault) = node_code fault
machine_code NoMemory = 15

-- its text
abbrev pub machine_text : MachineFault → List ℕ
machine_text machine_fault.NoStore = codes "the machine has no node in the store"
machine_text ManyStores = codes "the keys of the batch belong to different stores"
machine_text (Node fault) = node_text fault
machine_text NoMemory = codes "out of memory"

-- the number of a refusal of stores for a division
abbrev pub placing_code : PlacingFault → ℕ
placing_code Number = 123
placing_code (Key store key) = 121
placing_code placing_fault.NoMemory = 15

-- its text
abbrev pub placing_text : PlacingFault → List ℕ
placing_text Number = codes "the division has more or fewer stores"
placing_text (Key store key) = codes "a store has a key that belongs to another store"
placing_text placing_fault.NoMemory = codes "out of memory"
