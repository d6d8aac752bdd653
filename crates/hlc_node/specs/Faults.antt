-- The refusals of a node: the number, the word and the text of each.
use Rattle.std.specs.Prelude.{ℕ, List, codes}
use Rattle.hlc_clock.specs.Faults.{clock_code, clock_word, clock_text}
use Rattle.hlc_rows.specs.Faults.{body_code, body_text}
use Rattle.hlc_node.specs.declared.node.NodeFault.{NodeFault}
use Rattle.hlc_node.specs.declared.node.NodeFault.TheVariants.{Retired, Body, NumbersSpent, Clock}

-- the number of a node's refusal
abbrev pub node_code : NodeFault → ℕ
node_code Retired = 27
node_code (Body fault) = body_code fault
node_code NumbersSpent = 14
node_code (Clock fault) = clock_code fault

-- the word of the stamp in it, 0 if there is none
abbrev pub node_word : NodeFault → ℕ
node_word Retired = 0
node_word (Body fault) = 0
node_word NumbersSpent = 0
node_word (Clock fault) = clock_word fault

-- its text
abbrev pub node_text : NodeFault → List ℕ
node_text Retired = codes "the node has retired"
node_text (Body fault) = body_text fault
node_text NumbersSpent = codes "no item number is left"
node_text (Clock fault) = clock_text fault
