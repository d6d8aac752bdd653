-- An item, and what its body may be.
use Rattle.std.specs.Prelude.{ℕ, ◌≤◌, ⊤, Bool, true, false, length, Option, None}
use Rattle.hlc_rows.specs.{declared.limits.BodyFault.BodyFault, Writes.batch_refusal}
use Rattle.hlc_rows.specs.Limits.{write_refusal, IsShortValue}
use Rattle.hlc_node.specs.declared.item.{Item.Item, Body.Body}
use Rattle.hlc_node.specs.declared.item.Body.TheVariants.{Write, Batch, Report, Retire}

-- the first reason to refuse a body: that of its write, or of its writes
abbrev pub body_refusal : Body → Option BodyFault
body_refusal (Write key value) = write_refusal key value
body_refusal (Batch writes) = batch_refusal writes
body_refusal Report = None
body_refusal Retire = None

-- an item with these parts
abbrev pub an_item : ℕ → ℕ → ℕ → Body → Item
an_item node number stamp body = record { node = node; number = number; stamp = stamp; body = body }

-- it is no batch, and if it is a write, its key and its value have at most 30 bytes each
abbrev pub IsShort : Body → Type 0
IsShort (Write key value) = (length key ≤ 30) × IsShortValue value
IsShort (Batch writes) = ⊥
IsShort Report = ⊤
IsShort Retire = ⊤

-- an item with this body is its node's last one
abbrev pub retires : Body → Bool
retires (Write key value) = false
retires (Batch writes) = false
retires Report = false
retires Retire = true
