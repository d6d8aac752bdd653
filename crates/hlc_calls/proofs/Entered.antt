-- Where an entry gets 0, its item was accepted, so the store represents one more item of the list.
use Rattle.std.proofs.Common.{◌≡◌, ◌<◌, ◌+◌, ◌∙◌, ℕ, lit<, refl, sym, ap, subst, arith, inl, inr, Bool, true, false}
use Rattle.std.proofs.Common.{List, [], ◌∷◌, ◌++◌, map, take, length, get_or, Option, Some, None}
use Rattle.std.proofs.lemmas.List.{take_more, map-append, Elements.All-more}
use Rattle.hlc_rows.specs.declared.limits.BodyFault.{TheVariants.BadKey, TheVariants.ValueTooLong, TheVariants.NoWrites}
use Rattle.hlc_rows.specs.declared.limits.BodyFault.{TheVariants.TooManyWrites, TheVariants.KeyTwice, BodyFault}
use Rattle.hlc_node.specs.declared.item.Item.{Item}
use Rattle.hlc_events.specs.declared.fault.CoreFault.{CoreFault}
use Rattle.hlc_events.specs.declared.fault.CoreFault.TheVariants.{NoNode, Link, Body, Join, AboveFloor, BelowHorizon}
use Rattle.hlc_events.specs.declared.fault.CoreFault.TheVariants.{Snapshot, NoSnapshot, NoMemory}
use Rattle.hlc_intake.specs.{Faults.link_code, declared.intake.LinkFault.LinkFault}
use Rattle.hlc_intake.specs.declared.intake.LinkFault.TheVariants.{Retired, NotNext, NumbersSpent, StampNotRising}
use Rattle.hlc_heads.specs.declared.heads.JoinFault.{JoinFault, TheVariants.TooManyNodes, TheVariants.BelowFloor}
use Rattle.hlc_snapshot.specs.{Faults.snapshot_code, declared.fault.SnapshotFault.SnapshotFault}
use Rattle.hlc_rows.specs.Faults.{body_code}
use Rattle.hlc_core.specs.{Past.Step, Past.Took, StoreView.StoreView, StoreView.Represents}
use Rattle.hlc_calls.specs.{declared.entries.Entry.Entry, Outcome.IsAnswered, Outcome.answer_code}
use Rattle.hlc_calls.specs.Entries.{item_of, is_within, AreWithin, took, entered, IsEntered}
use Rattle.hlc_snapshot.specs.declared.fault.SnapshotFault.TheVariants as snapshot_fault

link_above : (fault : LinkFault) → 0 < link_code fault
link_above Retired = lit< tt
link_above (NotNext next) = lit< tt
link_above NumbersSpent = lit< tt
link_above (StampNotRising head) = lit< tt

body_above : (fault : BodyFault) → 0 < body_code fault
body_above BadKey = lit< tt
body_above ValueTooLong = lit< tt
body_above NoWrites = lit< tt
body_above TooManyWrites = lit< tt
body_above KeyTwice = lit< tt

join_above : (fault : JoinFault) → 0 < answer_code (Join fault)
join_above TooManyNodes = lit< tt
join_above (BelowFloor floor) = lit< tt

snapshot_above : (fault : SnapshotFault) → 0 < snapshot_code fault
snapshot_above snapshot_fault.TooManySnapshots = lit< tt
snapshot_above snapshot_fault.NumbersSpent = lit< tt
snapshot_above snapshot_fault.NoMemory = lit< tt

code_above : (fault : CoreFault) → 0 < answer_code fault
code_above NoNode = lit< tt
code_above (Link fault) = link_above fault
code_above (Body fault) = body_above fault
code_above (Join fault) = join_above fault
code_above (AboveFloor floor) = lit< tt
code_above (BelowHorizon horizon) = lit< tt
code_above (Snapshot fault) = snapshot_above fault
code_above NoSnapshot = lit< tt
code_above NoMemory = lit< tt

not_above : (n : ℕ) → 0 < n → 0 ≡ n → ⊥
not_above n above is = omega arith

-- at 0 the call was made
made_of : (expected : Option CoreFault) (MayGrow Made : Type 0) (returned : ℕ)
    → IsAnswered expected MayGrow Made 0 returned → Made
made_of (Some fault) MayGrow Made returned (is, word) = absurd (not_above (answer_code fault) (code_above fault) is)
made_of None MayGrow Made returned (inl (is, made)) = made
made_of None MayGrow Made returned (inr (is, nothing, may)) = absurd (not_above 15 (lit< tt) is)

accepted_at : (new : StoreView) (entry : Entry) (bytes : List ℕ) (past : List Step) (returned : ℕ) (within : Bool)
    → is_within bytes entry ≡ within → IsEntered new entry bytes past 0 returned
    → Represents new (Took (item_of bytes entry) ∷ past)
accepted_at new entry bytes past returned true is (inside, outside) = (made_of _ _ _ returned (inside is)).1
accepted_at new entry bytes past returned false is (inside, outside) =
    absurd (not_above 103 (lit< tt) (outside is).0)

took_last : (items : List Item) (item : Item) (past : List Step)
    → took (items ++ item ∷ []) past ≡ Took item ∷ took items past
took_last [] item past = refl
took_last (first ∷ items) item past = took_last items item (Took first ∷ past)

-- the past after one more entry
entered_more : (entries : List Entry) (bytes : List ℕ) (i : ℕ) (entry : Entry) (past : List Step) → i < length entries
    → entry ≡ get_or entries i entry
    → entered entries bytes (i + 1) past ≡ Took (item_of bytes entry) ∷ entered entries bytes i past
entered_more entries bytes i entry past within is =
    ap (λ (some : List Entry). took (map (item_of bytes) some) past) (take_more entries i entry within)
    ∙ ap (λ (items : List Item). took items past)
    (map-append (item_of bytes) (take i entries) (get_or entries i entry ∷ []))
    ∙ took_last (map (item_of bytes) (take i entries)) (item_of bytes (get_or entries i entry)) past
    ∙ sym (ap (λ (e : Entry). Took (item_of bytes e) ∷ entered entries bytes i past) is)

pub entered_next : (new : StoreView) (entries : List Entry) (bytes : List ℕ) (i : ℕ) (entry : Entry)
    (past : List Step)
    (code returned : ℕ) → i < length entries → entry ≡ get_or entries i entry → code ≡ 0
    → IsEntered new entry bytes (entered entries bytes i past) code returned
    → Represents new (entered entries bytes (i + 1) past)
entered_next new entries bytes i entry past code returned within is well answer =
    subst (λ (steps : List Step). Represents new steps) (sym (entered_more entries bytes i entry past within is))
    (accepted_at new entry bytes (entered entries bytes i past) returned (is_within bytes entry) refl
    (subst (λ (n : ℕ). IsEntered new entry bytes (entered entries bytes i past) n returned) well answer))

-- at 0 the bytes contain the entry
within_at : (new : StoreView) (entry : Entry) (bytes : List ℕ) (past : List Step) (returned : ℕ) (within : Bool)
    → is_within bytes entry ≡ within → IsEntered new entry bytes past 0 returned → is_within bytes entry ≡ true
within_at new entry bytes past returned true is (inside, outside) = is
within_at new entry bytes past returned false is (inside, outside) =
    absurd (not_above 103 (lit< tt) (outside is).0)

-- the bytes contain one more entry
pub within_next : (new : StoreView) (entries : List Entry) (bytes : List ℕ) (i : ℕ) (entry : Entry)
    (past : List Step) (code returned : ℕ) → i < length entries → entry ≡ get_or entries i entry → code ≡ 0
    → IsEntered new entry bytes (entered entries bytes i past) code returned
    → AreWithin bytes (take i entries) → AreWithin bytes (take (i + 1) entries)
within_next new entries bytes i entry past code returned within is well answer before =
    let steps : List Step = entered entries bytes i past in
    let there : is_within bytes entry ≡ true =
    within_at new entry bytes steps returned (is_within bytes entry) refl
    (subst (λ (n : ℕ). IsEntered new entry bytes steps n returned) well answer) in
    All-more (λ e. is_within bytes e ≡ true) entries i entry within before
    (subst (λ (e : Entry). is_within bytes e ≡ true) is there)
