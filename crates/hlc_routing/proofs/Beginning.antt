-- A run of stores begins with new nodes, or with the states of stores.
use Rattle.std.proofs.Common.{◌≡◌, ℕ, ◌+◌, ◌≤◌, List, [], ◌∷◌, length, Some, None, Option, refl, ap, sym, subst, inl}
use Rattle.std.proofs.Common.{inr, arith, slice_get, Contains}
use Rattle.std.proofs.lemmas.{Option.slice_get_past, List.Elements.All-contains}
use Rattle.hlc_values.proofs.MemberLemmas.{Contains-none, Contains-cons_cases}
use Rattle.hlc_rows.specs.declared.row.Row.{Row}
use Rattle.hlc_node.specs.declared.item.Item.{Item}
use Rattle.hlc_core.specs.Past.{Step, Started, Began, Took, count, head, retired, writes, IsLegal as IsLegalPast}
use Rattle.hlc_core.specs.StoreView.{StoreView, Represents as CoreRepresents}
use Rattle.hlc_core.proofs.StartingLemmas.{begins}
use Rattle.hlc_ranges.specs.Run.{Layout, CanBegin, issued}
use Rattle.hlc_ranges.proofs.TurnLemmas.{new-begin}
use Rattle.hlc_routing.specs.{Division.store_of, Ranges.RangesView, Ranges.Represents}
use Rattle.hlc_routing.specs.Machine.{MachineView, IsMachineOf}
use Rattle.hlc_routing.specs.Beginning.{begun_with, layout_from, AreStates, IsFirstMachine}

pub new-stores : (layout : Layout) (kept : RangesView)
    → ((s : ℕ) → (nodes : ℕ) × (layout.begun s ≡ Started nodes ∷ [])) → length kept.stores ≡ layout.stores
    → ((s : ℕ) (store : StoreView) → slice_get kept.stores s ≡ Some store → CoreRepresents store (layout.begun s))
    → ((key : List ℕ) → layout.store_of key ≡ store_of kept.division key) → Represents layout kept []
new-stores layout kept new many pasts routed =
    record { legal = new-begin layout new; many = many; pasts = pasts; routed = routed }

-- what the state of a store, if there is one, says of the past that begins with it
legal-with : (kept : RangesView) (machine : ℕ → ℕ → ℕ) (clock : ℕ → ℕ) (s : ℕ) (o : Option StoreView)
    → AreStates kept machine clock → slice_get kept.stores s ≡ o → IsLegalPast (begun_with o)
legal-with kept machine clock s None are is = (refl, tt)
legal-with kept machine clock s (Some store) are is = (refl, tt, are.checkpoints s store is)

some-with : (o : Option StoreView) → begun_with o ≡ [] → ⊥
some-with None none = cc
some-with (Some store) none = cc

untaken-with : (o : Option StoreView) (item : Item) → Contains (begun_with o) (Took item) → ⊥
untaken-with None item m =
    elim (Contains-cons_cases (Started 0) (Took item) [] m) [
      | inl same ↦ absurd (cc)
      | inr rest ↦ Contains-none (Took item) rest
    ]
untaken-with (Some store) item m =
    elim (Contains-cons_cases (Began store) (Took item) [] m) [
      | inl same ↦ absurd (cc)
      | inr rest ↦ Contains-none (Took item) rest
    ]

reached-with : (kept : RangesView) (machine : ℕ → ℕ → ℕ) (clock : ℕ → ℕ) (s n : ℕ) (o : Option StoreView)
    → AreStates kept machine clock → slice_get kept.stores s ≡ o → head n (begun_with o) ≤ clock (machine s n)
reached-with kept machine clock s n None are is = omega arith
reached-with kept machine clock s n (Some store) are is = are.reached s n store is

routed-with : (kept : RangesView) (machine : ℕ → ℕ → ℕ) (clock : ℕ → ℕ) (s : ℕ) (row : Row) (o : Option StoreView)
    → AreStates kept machine clock → slice_get kept.stores s ≡ o → Contains (writes (begun_with o)) row
    → store_of kept.division row.key ≡ s
routed-with kept machine clock s row None are is m = absurd (Contains-none row m)
routed-with kept machine clock s row (Some store) are is m =
    All-contains (λ (r : Row). store_of kept.division r.key ≡ s) store.rows row (are.placed s store is) m

pub begin-with : (kept : RangesView) (machine : ℕ → ℕ → ℕ) (clock : ℕ → ℕ) → AreStates kept machine clock
    → CanBegin (layout_from kept machine clock)
begin-with kept machine clock are = record {
  legal = λ s. legal-with kept machine clock s (slice_get kept.stores s) are refl;
  some = λ s. some-with (slice_get kept.stores s);
  untaken = λ s. untaken-with (slice_get kept.stores s);
  reached = λ s n. reached-with kept machine clock s n (slice_get kept.stores s) are refl;
  routed = λ s row. routed-with kept machine clock s row (slice_get kept.stores s) are refl;
  none = λ s out. (0, ap begun_with (slice_get_past kept.stores s out));
}

pub states-begin : (kept : RangesView) (machine : ℕ → ℕ → ℕ) (clock : ℕ → ℕ) → AreStates kept machine clock
    → Represents (layout_from kept machine clock) kept []
states-begin kept machine clock are = record {
  legal = begin-with kept machine clock are;
  many = refl;
  pasts = λ s store there.
      subst (λ (p : List Step). CoreRepresents store p) (sym (ap begun_with there))
      (begins store (are.checkpoints s store there));
  routed = λ key. refl;
}

pub machine-begins : (layout : Layout) (m : ℕ) (machine : MachineView) → IsFirstMachine layout m machine
    → IsMachineOf layout [] m machine
machine-begins layout m machine first = record {
  many = first.many;
  nodes = λ s node there.
      let is = first.nodes s node there in
      record {
        inside = is.inside;
        next =
            (let e : node.next ≡ count node.id (layout.begun s) = is.next in
            let goal : node.next ≡ count node.id (layout.begun s) + length (issued s node.id []) = omega arith in goal);
        retired = is.retired;
      };
  machines = first.machines;
  clock = first.clock;
}
