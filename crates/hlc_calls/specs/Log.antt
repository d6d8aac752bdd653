-- The items of a log as bytes, one after another, and what a store takes of them.
use Rattle.std.specs.Prelude.{◌≡◌, ◌⊎◌, ◌&&◌, ℕ, List, [], ◌∷◌, ◌++◌, Bool, false, nat_lt, length, Some, None, Ok, Err}
use Rattle.std.specs.Prelude.{if◌then◌else◌, All, flat_map}
use Rattle.hlc_node.specs.{declared.item.Item.Item, Items.body_refusal}
use Rattle.hlc_rows.specs.{declared.limits.BodyFault.BodyFault, Faults.body_code}
use Rattle.hlc_wire.specs.{declared.fault.WireFault.WireFault, Faults.fault_code, Reading.item_at}
use Rattle.hlc_wire.specs.Spelling.{item_bytes, ItemFits}
use Rattle.hlc_core.specs.{Calls.IsWrite, StoreView.StoreView, StoreView.Represents}
use Rattle.hlc_core.specs.Past.{Step, Took, numbered, count, item_refusal}
use Rattle.hlc_calls.specs.{Outcome.IsAnswered, Answers.IsCopied}

-- the bytes of some items, one after another
abbrev pub log_bytes : List Item → List ℕ
log_bytes items = flat_map item_bytes items

-- an item of this number was accepted before
abbrev pub came_before : List Step → Item → Bool
came_before past item = nat_lt item.node (numbered past) && nat_lt item.number (count item.node past)

-- the past after an item: unchanged if it came before
abbrev pub with_item : Item → List Step → List Step
with_item item past = if came_before past item then past else Took item ∷ past

-- the past after some items, one after another
abbrev pub with_items : List Item → List Step → List Step
with_items [] past = past
with_items (item ∷ items) past = with_items items (with_item item past)

-- why the item at the front of some bytes was not taken: the first fault of the bytes; or, of an item that did not come
-- before, the expected refusal, or out of memory for the row of a write
abbrev pub IsStopped : List ℕ → List Step → ℕ → ℕ → Type 0
IsStopped bytes past code word =
    ((fault : WireFault) × (item_at bytes ≡ Err fault) × (code ≡ 106) × (word ≡ fault_code fault))
    ⊎ ((item : Item) × (rest : List ℕ) × (item_at bytes ≡ Ok (item, rest)) × (came_before past item ≡ false)
    × IsAnswered (item_refusal past item) (IsWrite item.body) ⊥ code word)

-- no bytes are left, and the answer is 0; or the item at their front was not taken
abbrev pub IsLogEnd : List ℕ → List Step → ℕ → ℕ → Type 0
IsLogEnd [] past code word = (code ≡ 0) × (word ≡ 0)
IsLogEnd (byte ∷ bytes) past code word = IsStopped (byte ∷ bytes) past code word

-- The first items of the bytes were taken, as far as possible: this many items, of this many bytes. Each of them has an
-- encoding, so these bytes are read as no other items.
pub record AreTaken (new : StoreView) (bytes : List ℕ) (past : List Step) (code used many word : ℕ)
    : Type 0 where
  pub items : List Item
  pub rest : List ℕ
  pub fit : All ItemFits items
  pub bytes_are : bytes ≡ log_bytes items ++ rest
  pub used_is : used ≡ length (log_bytes items)
  pub many_is : many ≡ length items
  pub represents : Represents new (with_items items past)
  pub end : IsLogEnd rest (with_items items past) code word

-- The bytes of an item are returned: how many there are, and the bytes, if they fit; or why no item has this body.
abbrev pub ReturnsItem : Item → ℕ → ℕ → List ℕ → List ℕ → Type 0
ReturnsItem item code len old new =
    ((code ≡ 0) × (body_refusal item.body ≡ None) × (len ≡ length (item_bytes item))
    × IsCopied (item_bytes item) old new)
    ⊎ ((fault : BodyFault) × (body_refusal item.body ≡ Some fault) × (code ≡ body_code fault) × (len ≡ 0)
    × (new ≡ old))
