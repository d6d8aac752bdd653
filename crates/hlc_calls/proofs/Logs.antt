-- The items of a log, read one after another.
use Rattle.std.proofs.Common.{◌≡◌, ℕ, ◌+◌, ◌-◌, ◌<◌, ◌∙◌, sym, ap, subst, List, [], ◌∷◌, ◌++◌, length, true, false}
use Rattle.std.proofs.Common.{cond, refl, arith, length-append, Ok, inr, append-nil, append_assoc, All}
use Rattle.std.proofs.lemmas.{List.Elements.All-push, Grind.flat_map-append}
use Rattle.hlc_node.specs.declared.item.Item.{Item}
use Rattle.hlc_wire.specs.{Spelling.item_bytes, Spelling.ItemFits, Reading.item_at}
use Rattle.hlc_wire.proofs.FieldLemmas.{IsBytes}
use Rattle.hlc_wire.proofs.ItemLemmas.{item_reader}
use Rattle.hlc_events.specs.{declared.fault.CoreFault.CoreFault, Faults.core_word}
use Rattle.hlc_core.specs.{Calls.IsRefusal, Calls.IsWrite, Past.Step, Past.Took, Past.item_refusal}
use Rattle.hlc_core.specs.StoreView.{StoreView, Represents}
use Rattle.hlc_calls.specs.Log.{came_before, log_bytes, with_item, with_items, IsStopped, IsLogEnd, AreTaken}
use Rattle.hlc_calls.{specs.Outcome.answer_code, proofs.Refusals.refused_returns}

pub front_is : (bytes : List ℕ) (item : Item) (rest : List ℕ) → IsBytes bytes → item_at bytes ≡ Ok (item, rest)
    → bytes ≡ item_bytes item ++ rest
front_is bytes item rest fits is = (item_reader.takes bytes (item, rest) fits is).0.parts

-- what is read has an encoding
pub front_fits : (bytes : List ℕ) (item : Item) (rest : List ℕ) → IsBytes bytes → item_at bytes ≡ Ok (item, rest)
    → ItemFits item
front_fits bytes item rest fits is = (item_reader.takes bytes (item, rest) fits is).1

pub front_shortens : (bytes : List ℕ) (item : Item) (rest : List ℕ) → IsBytes bytes → item_at bytes ≡ Ok (item, rest)
    → length rest < length bytes
front_shortens bytes item rest fits is =
    let long : length bytes ≡ length (item_bytes item) + length rest =
    ap length (front_is bytes item rest fits is) ∙ length-append (item_bytes item) rest in
    omega (arith, long)

-- an item that came before leaves the past, and another one is taken
pub passed_over : (core : StoreView) (past : List Step) (item : Item) → came_before past item ≡ true
    → Represents core past → Represents core (with_item item past)
passed_over core past item came h =
    subst (λ b. Represents core (cond b past (Took item ∷ past))) (sym came) h

pub taken : (core : StoreView) (past : List Step) (item : Item) → came_before past item ≡ false
    → Represents core (Took item ∷ past) → Represents core (with_item item past)
taken core past item new h =
    subst (λ b. Represents core (cond b past (Took item ∷ past))) (sym new) h

-- an item that did not come before was refused
pub refused_here : (bytes rest : List ℕ) (past : List Step) (item : Item) (fault : CoreFault)
    → item_at bytes ≡ Ok (item, rest) → came_before past item ≡ false
    → IsRefusal (item_refusal past item) (IsWrite item.body) fault
    → IsStopped bytes past (answer_code fault) (core_word fault)
refused_here bytes rest past item fault read new is =
    inr (item, rest, read, new, refused_returns (item_refusal past item) (IsWrite item.body) ⊥ fault is)

-- the items before the rest of the bytes were taken
abbrev pub TakenSoFar : StoreView → List ℕ → List ℕ → List Step → ℕ → Type 0
TakenSoFar core bytes rest past count =
    (items : List Item) × All ItemFits items × (bytes ≡ log_bytes items ++ rest) × (count ≡ length items)
    × Represents core (with_items items past)

with_last : (items : List Item) (item : Item) (past : List Step)
    → with_items (items ++ item ∷ []) past ≡ with_item item (with_items items past)
with_last [] item past = refl
with_last (first ∷ items) item past = with_last items item (with_item first past)

log_last : (items : List Item) (item : Item) → log_bytes (items ++ item ∷ []) ≡ log_bytes items ++ item_bytes item
log_last items item =
    flat_map-append item_bytes items (item ∷ []) ∙ ap (λ xs. log_bytes items ++ xs) (append-nil (item_bytes item))

-- one more item
pub one_more : (core : StoreView) (bytes rest after : List ℕ) (past : List Step) (count : ℕ)
    (before : StoreView)
    → (so : TakenSoFar before bytes rest past count)
    → (item : Item) × ItemFits item × (rest ≡ item_bytes item ++ after)
    × Represents core (with_item item (with_items so.0 past))
    → TakenSoFar core bytes after past (count + 1)
one_more core bytes rest after past count before so next = (
  so.0 ++ next.0 ∷ [],
  All-push ItemFits so.0 next.0 so.1 next.1,
  so.2 ∙ ap (λ (xs : List ℕ). log_bytes so.0 ++ xs) next.2
      ∙ sym (append_assoc (log_bytes so.0) (item_bytes next.0) after)
      ∙ ap (λ (xs : List ℕ). xs ++ after) (sym (log_last so.0 next.0)),
  (let n = length-append so.0 (next.0 ∷ []) in omega (arith, n, so.3)),
  subst (λ (p : List Step). Represents core p) (sym (with_last so.0 next.0 past)) next.3,
)

-- bytes are left, and the item at their front was not taken
pub stopped_end : (rest : List ℕ) (past : List Step) (code word : ℕ) → 0 < length rest
    → IsStopped rest past code word → IsLogEnd rest past code word
stopped_end [] past code word some is = absurd (omega (arith, some))
stopped_end (byte ∷ bytes) past code word some is = is

pub stopped_here : (core before : StoreView) (bytes rest : List ℕ) (past : List Step)
    (code count word : ℕ) → (so : TakenSoFar before bytes rest past count) → core ≡ before → 0 < length rest
    → IsStopped rest (with_items so.0 past) code word
    → AreTaken core bytes past code (length bytes - length rest) count word
stopped_here core before bytes rest past code count word so same some is = record {
  items = so.0;
  rest = rest;
  fit = so.1;
  bytes_are = so.2;
  used_is =
      let long : length bytes ≡ length (log_bytes so.0) + length rest =
      ap length so.2 ∙ length-append (log_bytes so.0) rest in
      omega (arith, long);
  many_is = so.3;
  represents = subst (λ (c : StoreView). Represents c (with_items so.0 past)) (sym same) so.4;
  end = stopped_end rest (with_items so.0 past) code word some is;
}
