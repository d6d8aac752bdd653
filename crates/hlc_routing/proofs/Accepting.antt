-- What a store's acceptance says of all stores.
use Rattle.std.proofs.Common.{◌≡◌, ℕ, List, ◌∷◌, Some, Ok, Err, Result, sym, ◌∙◌, subst}
use Rattle.std.{specs.Prelude.OnOk, specs.Prelude.IfErr, specs.Prelude.slice_get, proofs.lemmas.Option.slice_get_within}
use Rattle.hlc_node.specs.declared.item.Item.{Item}
use Rattle.hlc_heads.specs.Heads.{AcceptedView}
use Rattle.hlc_events.specs.declared.fault.CoreFault.{CoreFault}
use Rattle.hlc_core.specs.{Past.Step, Past.Took, Past.Opened, Past.Closed, Calls.Accepts, Calls.Opens, Calls.Closes}
use Rattle.hlc_core.specs.StoreView.{StoreView, Represents as CoreRepresents}
use Rattle.hlc_ranges.specs.Run.{Layout, Turn, Stepped, past_of, IsIssuedStep}
use Rattle.hlc_routing.specs.Ranges.{RangesView, Represents, IsOfStore, IsRefusedFor, HasTaken, OpensIn, ClosesIn}
use Rattle.hlc_routing.specs.declared.fault.RangesFault.TheVariants.{Store}
use Rattle.hlc_routing.proofs.Stepping.{steps, with_store, some-same, get-set_same, get-set_other}

pub accepted : (layout : Layout) (old : RangesView) (run : List Turn) (s : ℕ) (store new : StoreView) (item : Item)
    (result : Result AcceptedView (CoreFault × Item)) → Represents layout old run → slice_get old.stores s ≡ Some store
    → Accepts new item (past_of layout s run) result → IsIssuedStep s (Took item) run
    → OnOk result (Represents layout (with_store old s new) (Stepped s (Took item) ∷ run))
accepted layout old run s store new item (Ok made) h at taken issued' =
    steps layout old run s store new (Took item) h at taken.1 issued'
accepted layout old run s store new item (Err fault) h at taken issued' = tt

pub refused : (old : RangesView) (s : ℕ) (store new : StoreView) (item : Item)
    (result : Result AcceptedView (CoreFault × Item)) → slice_get old.stores s ≡ Some store
    → IsOfStore old.division s item.body
    → ((past : List Step) → CoreRepresents store past → Accepts new item past result)
    → IfErr result (λ fault. IsRefusedFor old s item (Store fault.0))
refused old s store new item (Ok made) at of accepts = tt
refused old s store new item (Err fault) at of accepts = (
  slice_get_within old.stores s store at,
  of,
  λ other past there represents.
      let same : store ≡ other = some-same store other (sym at ∙ there) in
      accepts past (subst (λ x. CoreRepresents x past) (sym same) represents),
)

-- the store that took the item, and the others
pub taken : (old : RangesView) (s : ℕ) (store new : StoreView) (item : Item)
    (result : Result AcceptedView (CoreFault × Item)) → slice_get old.stores s ≡ Some store
    → ((past : List Step) → CoreRepresents store past → Accepts new item past result)
    → OnOk result (HasTaken old (with_store old s new) s item)
taken old s store new item (Err fault) at accepts = tt
taken old s store new item (Ok made) at accepts = record {
  took = λ other after past there here represents.
      let same : store ≡ other = some-same store other (sym at ∙ there) in
      let one : new ≡ after = some-same new after
      (sym (get-set_same old.stores s new (slice_get_within old.stores s store at)) ∙ here) in
      let is = accepts past (subst (λ x. CoreRepresents x past) (sym same) represents) in
      (is.0, subst (λ x. CoreRepresents x (Took item ∷ past)) one is.1);
  others = λ other apart. get-set_other old.stores s other new (λ e. apart (sym e));
}

pub opened : (layout : Layout) (old : RangesView) (run : List Turn) (s : ℕ) (store new : StoreView) (stamp id : ℕ)
    → Represents layout old run → slice_get old.stores s ≡ Some store
    → Opens new stamp (past_of layout s run) (Ok id) → OpensIn layout old (with_store old s new) s stamp run (Ok id)
opened layout old run s store new stamp id h at opens =
    (opens.0, opens.1, steps layout old run s store new (Opened stamp) h at opens.2 tt)

pub not-opened : (layout : Layout) (old now : RangesView) (run : List Turn) (s : ℕ) (store new : StoreView) (stamp : ℕ)
    (fault : CoreFault) → Represents layout old run → slice_get old.stores s ≡ Some store
    → Opens new stamp (past_of layout s run) (Err fault) → OpensIn layout old now s stamp run (Err (Store fault))
not-opened layout old now run s store new stamp fault h at opens = (slice_get_within old.stores s store at, opens)

pub closed : (layout : Layout) (old : RangesView) (run : List Turn) (s : ℕ) (store new : StoreView) (id stamp : ℕ)
    → Represents layout old run → slice_get old.stores s ≡ Some store
    → Closes new id (past_of layout s run) (Ok stamp) → ClosesIn layout old (with_store old s new) s id run (Ok stamp)
closed layout old run s store new id stamp h at closes =
    (closes.0, steps layout old run s store new (Closed id) h at closes.1 tt)
