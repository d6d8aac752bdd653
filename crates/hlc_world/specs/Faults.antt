-- The number of a refusal, the word that comes with it, and its text.
use Rattle.std.specs.Prelude.{ℕ, List, codes}
use Rattle.hlc_node.specs.Faults.{node_code, node_word, node_text}
use Rattle.hlc_events.specs.Faults.{core_code, core_word, core_text}
use Rattle.hlc_world.specs.declared.refusal.Refusal.{Refusal}
use Rattle.hlc_world.specs.declared.refusal.Refusal.TheVariants.{NoNode, Node, NoMessage, NoItem, Store, NoMemory}

-- the number of a refusal
abbrev pub refusal_code : Refusal → ℕ
refusal_code NoNode = 1
refusal_code (Node fault) = node_code fault
refusal_code NoMessage = 4
refusal_code NoItem = 5
refusal_code (Store fault) = core_code fault
refusal_code NoMemory = 15

-- the word that comes with it, 0 where there is none
abbrev pub refusal_word : Refusal → ℕ
refusal_word NoNode = 0
refusal_word (Node fault) = node_word fault
refusal_word NoMessage = 0
refusal_word NoItem = 0
refusal_word (Store fault) = core_word fault
refusal_word NoMemory = 0

-- its text
abbrev pub refusal_text : Refusal → List ℕ
refusal_text NoNode = codes "no such node, or not 1 to 64 nodes"
refusal_text (Node fault) = node_text fault
refusal_text NoMessage = codes "no such message was sent"
refusal_text NoItem = codes "the node has issued no such item"
refusal_text (Store fault) = core_text fault
refusal_text NoMemory = codes "out of memory"
