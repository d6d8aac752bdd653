-- What a handle contains before and after a call.
use Rattle.std.specs.Prelude.{◌≡◌, ℕ, List, ◌++◌, Option, None, IsSome, MatchOption, IsPermutation}
use Rattle.hlc_core.specs.{StoreView.StoreView, StoreView.Represents, Past.Step, Past.item_rows}
use Rattle.hlc_node.specs.declared.item.Item.{Item}
use Rattle.hlc_handle.specs.contracts.reader.LentRoom.{the_row}
use Rattle.hlc_calls.specs.Answers.{ReturnsAccepted, ReturnsChecked}

-- the answer is about an open store, which stays open; a closed one stays closed, and its answer is this
abbrev pub OnStore : Option StoreView → Option StoreView → Type 0 → (StoreView → StoreView → Type 0) → Type 0
OnStore old new Closed Open =
    MatchOption old (Closed × (new ≡ None)) (λ before. MatchOption new ⊥ (λ after. Open before after))

-- what a reader contains: the lifetime for which a store is lent to it, and the store's state; or nothing
abbrev pub Loan : Type 0
Loan = Option (ℕ × StoreView)

-- the answer is about the store that is read; of a closed one it is this
abbrev pub OnReader : Loan → Type 0 → (StoreView → Type 0) → Type 0
OnReader kept Closed Open = MatchOption kept Closed (λ lent. Open lent.1)

-- what the reader was lent it has again: that store, at the same place, for the same lifetime
abbrev pub IsGivenBack : (the_row).Denot → (the_row).Denot → Type 0
IsGivenBack old new = (new.value ≡ old.value) × (IsSome old.value → new.at ≡ old.at)

-- the answer of a call that may change the store, about each past that the store represents before it
abbrev pub OnStorePast
    : Option StoreView → Option StoreView → Type 0 → (StoreView → StoreView → List Step → Type 0) → Type 0
OnStorePast old new Closed Open =
    OnStore old new Closed (λ before after. (past : List Step) → Represents before past → Open before after past)

-- the answer of a call that only reads, about each past that the lent store represents
abbrev pub OnReaderPast : Loan → Type 0 → (List Step → Type 0) → Type 0
OnReaderPast kept Closed Open = OnReader kept Closed (λ core. (past : List Step) → Represents core past → Open past)

-- the same, with the lifetime for which the store is lent
abbrev pub OnLoanPast : Loan → Type 0 → (ℕ → List Step → Type 0) → Type 0
OnLoanPast kept Closed Open =
    MatchOption kept Closed (λ lent. (past : List Step) → Represents lent.1 past → Open lent.0 past)

-- an item was accepted, and its rows were added alone; or it was refused
abbrev pub IsAccepting : Option StoreView → Option StoreView → Item → ℕ → ℕ → Type 0
IsAccepting old new item code word =
    OnStorePast old new ((code ≡ 100) × (word ≡ 0))
    (λ before after past. ReturnsAccepted after item past code word
    × (code ≡ 0 → IsPermutation (before.rows ++ item_rows item) after.rows))

-- why an item would be refused, if it would
abbrev pub IsChecking : Loan → Item → ℕ → ℕ → Type 0
IsChecking kept item code word =
    OnReaderPast kept ((code ≡ 100) × (word ≡ 0)) (λ past. ReturnsChecked item past code word)

-- the answer for a closed store, of a call that lists: nothing is listed
abbrev pub ListsNothing : ℕ → ℕ → ℕ → List ℕ → List ℕ → Type 0
ListsNothing code len many old new = (code ≡ 100) × (len ≡ 0) × (many ≡ 0) × (new ≡ old)
