-- What a caller sees of the two ends of a link.
use Rattle.std.specs.Prelude.{◌≡◌, Bool, true, List, [], ◌∷◌, ◌++◌}
use Rattle.atomic_table.specs.{Seated.TableId, declared.badge.Badge.Badge}
use Rattle.crossbeam_channel.specs.{declared.flavors.array.Key.Key, Claims.Pass}
use Rattle.hlc_node.specs.declared.item.Item.{Item}
use Rattle.hlc_link.specs.declared.rule.{Parcel.Parcel, Hand.Hand}
use Rattle.hlc_link.specs.declared.rule.Parcel.TheVariants as parcel

-- the link of an end: the two tables of its channel
pub record LinkId : Type 0 where
  pub stamps : TableId
  pub messages : Badge (Key Parcel)

-- the link that a pass was made for
abbrev pub link_of : Pass Parcel Hand → LinkId
link_of pass = record { stamps = pass.table_id; messages = pass.me.0.of }

-- the sending end: its link, the items put so far, and whether the end was put
pub record SenderView : Type 0 where
  pub link : LinkId
  pub put : List Item
  pub ended : Bool

-- a sending end of this link that has put these
abbrev pub sending : LinkId → List Item → Bool → SenderView
sending link put ended = record { link = link; put = put; ended = ended }

-- what was put, with one more item
abbrev pub with_item : SenderView → Item → SenderView
with_item s x = sending s.link (s.put ++ x ∷ []) s.ended

-- what was put, with the end
abbrev pub with_end : SenderView → SenderView
with_end s = sending s.link s.put true

-- the receiving end: its link, the items taken so far, and whether the end was taken
pub record ReceiverView : Type 0 where
  pub link : LinkId
  pub taken : List Item
  pub ended : Bool

-- a receiving end of this link that has taken these
abbrev pub received : LinkId → List Item → Bool → ReceiverView
received link taken ended = record { link = link; taken = taken; ended = ended }

-- what was taken, with one more parcel
abbrev pub with_parcel : ReceiverView → Parcel → ReceiverView
with_parcel r (parcel.Item x) = received r.link (r.taken ++ x ∷ []) r.ended
with_parcel r parcel.End = received r.link r.taken true

-- The items put are the items taken followed by the items in transit. The end was taken only if it was put and no item
-- is in transit.
pub record HasCarried (sender : SenderView) (receiver : ReceiverView) (in_transit : List Item) : Type 0 where
  pub items : sender.put ≡ receiver.taken ++ in_transit
  pub all_taken : receiver.ended ≡ true → (sender.ended ≡ true) × (in_transit ≡ [])
