-- Several items that C passes in one call, and what that returns.
use Rattle.std.specs.Prelude.{◌≡◌, ◌≢◌, ℕ, ◌+◌, ◌<◌, ◌≤◌, Bool, ◌||◌, ◌&&◌, true, false, nat_le, List, [], ◌∷◌, length}
use Rattle.std.specs.Prelude.{map, take, drop, get_or, Option, Some, None, if◌then◌else◌, All}
use Rattle.hlc_node.specs.{declared.item.Item.Item, declared.item.Body.TheVariants.Write, Items.an_item}
use Rattle.hlc_core.specs.{Past.Step, Past.Took, StoreView.StoreView, StoreView.Represents}
use Rattle.hlc_calls.specs.{declared.entries.Entry.Entry, Answers.ReturnsAccepted}

-- this many bytes from this place on
abbrev pub piece : ℕ → ℕ → List ℕ → List ℕ
piece at many bytes = take many (drop at bytes)

-- the bytes contain them
abbrev pub lies : ℕ → ℕ → List ℕ → Bool
lies at many bytes = nat_le at (length bytes) && nat_le (at + many) (length bytes)

-- the value of an entry, or none where it is a deletion
abbrev pub value_of : Entry → List ℕ → Option (List ℕ)
value_of entry bytes = if entry.deletes then None else Some (piece entry.value_at entry.value_len bytes)

-- the item of an entry
abbrev pub item_of : List ℕ → Entry → Item
item_of bytes entry =
    an_item entry.node entry.number entry.stamp
    (Write (piece entry.key_at entry.key_len bytes) (value_of entry bytes))

-- the bytes contain the key and the value of an entry
abbrev pub is_within : List ℕ → Entry → Bool
is_within bytes entry =
    lies entry.key_at entry.key_len bytes && (entry.deletes || lies entry.value_at entry.value_len bytes)

-- the bytes contain the keys and the values of some entries
abbrev pub AreWithin : List ℕ → List Entry → Type 0
AreWithin bytes entries = All (λ entry. is_within bytes entry ≡ true) entries

-- the item of the entry was accepted, or refused; or the answer is that its bytes are not there
abbrev pub IsEntered : StoreView → Entry → List ℕ → List Step → ℕ → ℕ → Type 0
IsEntered new entry bytes past code returned =
    (is_within bytes entry ≡ true → ReturnsAccepted new (item_of bytes entry) past code returned)
    × (is_within bytes entry ≡ false → (code ≡ 103) × (returned ≡ 0))

-- the past after these items too were accepted, one after another
abbrev pub took : List Item → List Step → List Step
took [] past = past
took (item ∷ items) past = took items (Took item ∷ past)

-- the past after the first of these entries
abbrev pub entered : List Entry → List ℕ → ℕ → List Step → List Step
entered entries bytes many past = took (map (item_of bytes) (take many entries)) past

-- This many entries were accepted in their order, and the bytes contain the keys and the values of these. These are
-- all; or the next one was not accepted, and the reason is returned.
pub record AreEntered (new : StoreView) (entries : List Entry) (bytes : List ℕ) (past : List Step)
    (code many returned : ℕ) : Type 0 where
  pub most : many ≤ length entries
  pub within : AreWithin bytes (take many entries)
  pub represents : Represents new (entered entries bytes many past)
  pub all : code ≡ 0 → (many ≡ length entries) × (returned ≡ 0)
  pub next : code ≢ 0 → (last : Entry) × (many < length entries) × (last ≡ get_or entries many last)
      × IsEntered new last bytes (entered entries bytes many past) code returned
