-- The rule of a link: it carries items from one sender to one receiver. What was put is what was taken followed by the
-- content of the channel, and an end comes last.
use Rattle.std.specs.Prelude.{◌≡◌, ℕ, Bool, true, false, List, [], ◌∷◌, ◌++◌, map}
use mathlib.Core.Option.{some}
use lib.ListN.{get_elem?}
use Rattle.hlc_node.specs.declared.item.Item.{Item}
use Rattle.hlc_link.specs.declared.rule.{Parcel.Parcel, Hand.Hand}
use Rattle.hlc_link.specs.declared.rule.Parcel.TheVariants as parcel

-- the end, if it has come
abbrev pub end_if : Bool → List Parcel
end_if true = parcel.End ∷ []
end_if false = []

-- these items, and the end after them if it has come
abbrev pub stream : List Item → Bool → List Parcel
stream items ended = map parcel.Item items ++ end_if ended

-- the seat s may put, and has the view v
abbrev pub IsSender : List Hand → ℕ → Hand → Type 0
IsSender views s v = (get_elem? views s ≡ some v) × (v.puts ≡ true)

-- the seat r may take, and has the view w
abbrev pub IsReceiver : List Hand → ℕ → Hand → Type 0
IsReceiver views r w = (get_elem? views r ≡ some w) × (w.takes ≡ true)

-- the items among these, in their order
abbrev pub items_in : List Parcel → List Item
items_in [] = []
items_in (parcel.Item x ∷ rest) = x ∷ items_in rest
items_in (parcel.End ∷ rest) = items_in rest

-- whether the end is in transit
abbrev pub end_between : Bool → Bool → Bool
end_between put true = false
end_between put false = put

-- The sender is v and the receiver w. The items put are those taken followed by those in the channel; an end comes
-- last; the end was taken only if it was put and the channel is empty.
pub record Carries (in_transit : List Parcel) (v w : Hand) : Type 0 where
  pub items : v.put ≡ w.taken ++ items_in in_transit
  pub end_last : in_transit ≡ stream (items_in in_transit) (end_between v.end_put w.end_taken)
  pub all_taken : w.end_taken ≡ true → (v.end_put ≡ true) × (in_transit ≡ [])

-- At most one pass may put and at most one may take. What they know of the items agrees with the content of the
-- channel.
abbrev pub IsInOrder : List Parcel → List Hand → Type 0
IsInOrder in_transit views =
    ((s t : ℕ) (v w : Hand) → IsSender views s v → IsSender views t w → s ≡ t)
    × ((r t : ℕ) (v w : Hand) → IsReceiver views r v → IsReceiver views t w → r ≡ t)
    × ((s r : ℕ) (v w : Hand) → IsSender views s v → IsReceiver views r w → Carries in_transit v w)

-- the first pass is the sender's and the receiver's
abbrev pub both : Hand
both = record { puts = true; put = []; end_put = false; takes = true; taken = []; end_taken = false }

-- a sender's pass that has put these, and whether it put the end
abbrev pub sender : List Item → Bool → Hand
sender items ended =
    record { puts = true; put = items; end_put = ended; takes = false; taken = []; end_taken = false }

-- a receiver's pass that has taken these, and whether it took the end
abbrev pub receiver : List Item → Bool → Hand
receiver items ended =
    record { puts = false; put = []; end_put = false; takes = true; taken = items; end_taken = ended }

-- the part of a pass that puts
abbrev pub sender_of : Hand → Hand
sender_of v = record v { takes = false; taken = []; end_taken = false }

-- the part of a pass that takes
abbrev pub receiver_of : Hand → Hand
receiver_of v = record v { puts = false; put = []; end_put = false }

-- a pass that may neither put nor take
abbrev pub nobody : Hand
nobody = record { puts = false; put = []; end_put = false; takes = false; taken = []; end_taken = false }

-- the part of one pass that puts, with the part of another that takes
abbrev pub joined : Hand → Hand → Hand
joined v w = record v { takes = w.takes; taken = w.taken; end_taken = w.end_taken }

-- a pass that has put one more parcel
abbrev pub after_put : Hand → Parcel → Hand
after_put v (parcel.Item x) = record v { put = v.put ++ x ∷ [] }
after_put v parcel.End = record v { end_put = true }

-- a pass that has taken one more parcel
abbrev pub after_take : Hand → Parcel → Hand
after_take v (parcel.Item x) = record v { taken = v.taken ++ x ∷ [] }
after_take v parcel.End = record v { end_taken = true }
