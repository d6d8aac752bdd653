-- The byte for the kind of an item.
use Rattle.std.proofs.Common.{◌≡◌, ℕ, ◌++◌, List, refl, sym, subst, Ok, inl, inr}
use Rattle.hlc_node.specs.{Items.an_item, Items.IsShort, declared.item.Item.Item, declared.item.Body.Body}
use Rattle.hlc_node.specs.declared.item.Body.TheVariants.{Write, Batch, Report, Retire}
use Rattle.hlc_wire.specs.{Spelling.item_bytes, Reading.item_at, Reading.NeedsMemory}
use Rattle.hlc_wire.proofs.{FieldLemmas.IsBytes, ItemLemmas.item_reader}

kind_of : (node number stamp : ℕ) (body : Body) (rest : List ℕ) → (IsShort body → ⊥)
    → NeedsMemory (item_bytes (an_item node number stamp body) ++ rest)
kind_of node number stamp (Write key value) rest long = inl refl
kind_of node number stamp (Batch writes) rest long = inr refl
kind_of node number stamp Report rest long = absurd (long tt)
kind_of node number stamp Retire rest long = absurd (long tt)

-- an item whose copy may need memory is a write or a batch, which its byte 19 says
pub kind_at : (bytes rest : List ℕ) (item : Item) → IsBytes bytes → item_at bytes ≡ Ok (item, rest)
    → (IsShort item.body → ⊥) → NeedsMemory bytes
kind_at bytes rest item fits read long =
    subst NeedsMemory (sym (item_reader.takes bytes (item, rest) fits read).0.parts)
    (kind_of item.node item.number item.stamp item.body rest long)
