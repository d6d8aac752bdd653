-- What the nodes of a storm write.
use Rattle.std.specs.Prelude.{ℕ, ◌+◌, ◌*◌, ◌%◌, false, List, [], ◌∷◌, ◌++◌, map, codes, decimal, Some}
use Rattle.std.specs.List.{range_with_len}
use Rattle.hlc_clock.specs.declared.stamp.TheConstants.{COUNTER_BOUND}
use Rattle.hlc_node.specs.declared.item.{Item.Item, Body.TheVariants.Write, Body.TheVariants.Report}
use Rattle.hlc_node.specs.{Items.an_item, Node.NodeView}
use Rattle.hlc_words.specs.declared.plan.StormPlan.{StormPlan}

-- the key of this number
abbrev pub key_text : ℕ → List ℕ
key_text number = codes "k" ++ decimal number

-- the value of a node's write of this number
abbrev pub value_text : ℕ → ℕ → List ℕ
value_text node number = decimal node ++ (codes "." ++ decimal number)

-- the stamp of a node's event at a reading above all earlier ones: the counter starts at 0
abbrev pub stamp_at : ℕ → ℕ
stamp_at reading = COUNTER_BOUND * reading

-- a node's write of this number, over this many keys: it is made at the reading after its number
abbrev pub write_item : ℕ → ℕ → ℕ → Item
write_item keys node number =
    an_item node number (stamp_at (number + 1)) (Write (key_text (number % keys)) (Some (value_text node number)))

-- a node's report after this many writes
abbrev pub report_item : ℕ → ℕ → Item
report_item node writes = an_item node writes (stamp_at (writes + 1)) Report

-- the first writes of a node, in order
abbrev pub write_items : ℕ → ℕ → ℕ → List Item
write_items keys node count = map (write_item keys node) (range_with_len 0 count)

-- all that a node puts on its link: its writes, and then its report
abbrev pub items_of : StormPlan → ℕ → List Item
items_of plan node = write_items plan.keys node plan.writes ++ report_item node plan.writes ∷ []

-- a node that made this many writes
abbrev pub after_writes : ℕ → ℕ → NodeView
after_writes node count = record { id = node; last = stamp_at count; next = count; retired = false }
