-- A snapshot opened in one store after another, and closed again.
use Rattle.std.proofs.Common.{◌≡◌, ℕ, ◌+◌, ◌<◌, ◌≤◌, List, [], ◌∷◌, ◌++◌, length, get_or, Some, None, Ok, Err, Result}
use Rattle.std.proofs.Common.{refl, ap, sym, ◌∙◌, subst, inl, inr, arith, length-append}
use Rattle.std.proofs.lemmas.{Bool.cases_eq, List.get_or_append_left, List.get_or_push}
use Rattle.hlc_core.specs.Past.{Step, Opened, Closed, last_id, open_snapshots, stamp_of, open_refusal, floor}
use Rattle.hlc_core.specs.Past.{IsLegal as IsLegalPast}
use Rattle.hlc_core.proofs.CheckpointLemmas.{register-of}
use Rattle.hlc_core.proofs.PastLemmas.{open-below, open-low}
use Rattle.hlc_snapshot.proofs.RegisterLemmas.{opened-here, stamp_in-all}
use Rattle.hlc_ranges.specs.{Run.Layout, Run.Turn, Run.Stepped, Run.past_of, Cut.IsCut}
use Rattle.hlc_routing.specs.Ranges.{RangesView, Represents, OpensIn, ClosesIn}
use Rattle.hlc_routing.specs.All.{SnapshotView, each_stepped, HaveStepped, HaveOpened, HaveClosedAgain, IsOpenAll}
use Rattle.hlc_routing.specs.All.{HasOpenedTo, HasOpenedSome, AreOpenTo, open_refusals, next_id, IsStoreRefusal}
use Rattle.hlc_routing.{specs.declared.fault.RangesFault.RangesFault, proofs.Stepping.get-some}
use Rattle.hlc_routing.specs.declared.fault.RangesFault.TheVariants.{NoStore, WrongStore, Store}
use Rattle.hlc_routing.proofs.Each.{past-after, past-within, each-same, none-stepped, one-stepped}

-- the step at which a store opens the snapshot
abbrev pub opening : ℕ → ℕ → Step
opening stamp s = Opened stamp

pub none-opened : (layout : Layout) (kept : RangesView) (stamp : ℕ) (run : List Turn) (ids : List ℕ) → ids ≡ []
    → Represents layout kept run → HasOpenedTo layout kept stamp run ids 0
none-opened layout kept stamp run ids none h = record {
  many = ap length none;
  assigned = λ s below. absurd (omega (arith, below));
  stepped = none-stepped layout kept run (open_refusals layout run stamp) (opening stamp) h;
}

-- what a store's opening says after those before it, as before them
refusal-same : (layout : Layout) (run : List Turn) (stamp n : ℕ)
    → open_refusals layout (each_stepped (opening stamp) n run) stamp n ≡ open_refusals layout run stamp n
refusal-same layout run stamp n =
    ap (λ past. open_refusal past stamp) (past-after layout (opening stamp) n n run (omega arith))

pub one-opened : (layout : Layout) (old new : RangesView) (stamp : ℕ) (run : List Turn) (ids : List ℕ) (n id : ℕ)
    → HasOpenedTo layout old stamp run ids n
    → OpensIn layout old new n stamp (each_stepped (opening stamp) n run) (Ok id)
    → HasOpenedTo layout new stamp run (ids ++ id ∷ []) (n + 1)
one-opened layout old new stamp run ids n id h opens =
    let many : length ids ≡ n = h.many in
    let id_is : id ≡ next_id layout run n =
    opens.1 ∙ ap (λ past. last_id past + 1) (past-after layout (opening stamp) n n run (omega arith)) in
    record {
      many = length-append ids (id ∷ []) ∙ ap (λ k. k + 1) many;
      assigned = λ s below.
          elim (cases_eq s n) [
            | inl e ↦ get_or_push ids id 0 s (many ∙ sym e) ∙ id_is ∙ ap (next_id layout run) (sym e)
            | inr e ↦
                (let b : s < n + 1 = below in
                let low : s < n = omega (arith, b, e) in
                get_or_append_left ids (id ∷ []) 0 s (omega (arith, low, many)) ∙ h.assigned s low)
          ];
      stepped = one-stepped layout old new run (open_refusals layout run stamp) (opening stamp) n h.stepped
          (sym (refusal-same layout run stamp n) ∙ opens.0) opens.2;
    }

pub one-refused : (layout : Layout) (old new : RangesView) (stamp : ℕ) (run : List Turn) (ids : List ℕ) (n : ℕ)
    (fault : RangesFault) → n < layout.stores → HasOpenedTo layout old stamp run ids n
    → OpensIn layout old new n stamp (each_stepped (opening stamp) n run) (Err fault)
    → new ≡ old → HasOpenedSome layout new stamp run ids fault
one-refused layout old new stamp run ids n NoStore inside h opens same =
    absurd (let many : length old.stores ≡ layout.stores = h.stepped.represents.many in
    let past : length old.stores ≤ n = opens in omega arith)
one-refused layout old new stamp run ids n WrongStore inside h opens same = absurd opens
one-refused layout old new stamp run ids n (Store fault) inside h opens same = record {
  at = n;
  inside = inside;
  opened = subst (λ kept. HasOpenedTo layout kept stamp run ids n) (sym same) h;
  why = subst (λ o. IsStoreRefusal o (Store fault)) (refusal-same layout run stamp n) opens.1;
}

-- a snapshot that was just opened is open, at its stamp
pub just-opened : (past : List Step) (stamp : ℕ) → IsLegalPast past
    → stamp_of (last_id past + 1) (Opened stamp ∷ past) ≡ Some stamp
just-opened past stamp legal =
    opened-here (record { snapshots = open_snapshots past; last_id = last_id past }) stamp (register-of past legal)

-- each of the first stores has its snapshot open
pub opened-each : (layout : Layout) (old kept : RangesView) (stamp : ℕ) (run : List Turn) (ids : List ℕ) (n s : ℕ)
    → Represents layout old run → n ≤ layout.stores → HasOpenedTo layout kept stamp run ids n → s < n
    → stamp_of (get_or ids s 0) (past_of layout s (each_stepped (opening stamp) n run)) ≡ Some stamp
opened-each layout old kept stamp run ids n s represents few h below =
    let many : length old.stores ≡ layout.stores = represents.many in
    let inside : s < length old.stores = omega (arith, below, few, many) in
    let store = get-some old.stores s inside in
    let legal : IsLegalPast (past_of layout s run) = (represents.pasts s store.0 store.1).legal in
    ap (λ past. stamp_of (get_or ids s 0) past) (past-within layout (opening stamp) n s run below)
    ∙ ap (λ id. stamp_of id (Opened stamp ∷ past_of layout s run)) (h.assigned s below)
    ∙ just-opened (past_of layout s run) stamp legal

pub open-to : (layout : Layout) (old kept : RangesView) (stamp : ℕ) (run : List Turn) (ids : List ℕ) (n : ℕ)
    → Represents layout old run → n ≤ layout.stores → HasOpenedTo layout kept stamp run ids n
    → AreOpenTo layout (each_stepped (opening stamp) n run) ids
open-to layout old kept stamp run ids n represents few h = λ s below.
    let many : length ids ≡ n = h.many in
    let b : s < length ids = below in
    (stamp, opened-each layout old kept stamp run ids n s represents few h (omega arith))

pub all-opened : (layout : Layout) (old new : RangesView) (stamp : ℕ) (run : List Turn) (ids : List ℕ)
    → Represents layout old run → HasOpenedTo layout new stamp run ids layout.stores
    → HaveOpened layout new stamp run (record { stamp = stamp; ids = ids })
all-opened layout old new stamp run ids represents h = record {
  stamp_is = refl;
  ids = h.assigned;
  stepped = h.stepped;
  opens = record {
    many = h.many;
    each = λ s below.
        opened-each layout old new stamp run ids layout.stores s represents (omega arith) h below;
  };
}

-- the stores that opened it have closed it again
pub closed-again : (layout : Layout) (kept new : RangesView) (stamp : ℕ) (run : List Turn) (ids : List ℕ)
    (fault : RangesFault) → (h : HasOpenedSome layout kept stamp run ids fault)
    → Represents layout new (each_stepped (λ s. Closed (get_or ids s 0)) (length ids)
    (each_stepped (opening stamp) h.at run)) → HaveClosedAgain layout new stamp run fault
closed-again layout kept new stamp run ids fault h closed = record {
  at = h.at;
  inside = h.inside;
  none = h.opened.stepped.none;
  why = h.why;
  represents =
      subst (λ r. Represents layout new r)
      (ap (λ n. each_stepped (λ s. Closed (get_or ids s 0)) n (each_stepped (opening stamp) h.at run)) h.opened.many
      ∙ each-same (λ s. Closed (get_or ids s 0)) (λ s. Closed (next_id layout run s)) h.at
      (each_stepped (opening stamp) h.at run) (λ s below. ap Closed (h.opened.assigned s below))) closed;
}

-- a stamp at which all stores open a snapshot is a cut
pub opened-cut : (layout : Layout) (kept : RangesView) (stamp : ℕ) (run : List Turn) (step : ℕ → Step)
    → HaveStepped layout kept run (open_refusals layout run stamp) step layout.stores → IsCut layout run stamp
opened-cut layout kept stamp run step h = λ s inside. open-below (past_of layout s run) stamp (h.none s inside)

-- the snapshots are closed one after another
pub one-closed : (layout : Layout) (old new : RangesView) (run : List Turn) (ids : List ℕ) (n : ℕ)
    (result : Result ℕ RangesFault) → n < layout.stores → n < length ids → AreOpenTo layout run ids
    → Represents layout old (each_stepped (λ s. Closed (get_or ids s 0)) n run)
    → ClosesIn layout old new n (get_or ids n 0) (each_stepped (λ s. Closed (get_or ids s 0)) n run) result
    → Represents layout new (Stepped n (Closed (get_or ids n 0)) ∷ each_stepped (λ s. Closed (get_or ids s 0)) n run)
one-closed layout old new run ids n (Ok stamp) inside within are h closes = closes.1
one-closed layout old new run ids n (Err NoStore) inside within are h closes =
    absurd (let many : length old.stores ≡ layout.stores = h.many in
    let past : length old.stores ≤ n = closes in omega arith)
one-closed layout old new run ids n (Err WrongStore) inside within are h closes = absurd closes
one-closed layout old new run ids n (Err (Store fault)) inside within are h closes =
    let same : past_of layout n (each_stepped (λ s. Closed (get_or ids s 0)) n run) ≡ past_of layout n run =
    past-after layout (λ s. Closed (get_or ids s 0)) n n run (omega arith) in
    let is = are n within in
    let e : None ≡ Some is.0 = sym closes.1 ∙ ap (stamp_of (get_or ids n 0)) same ∙ is.1 in absurd (cc)

-- what the closing of the snapshots with some ids says of a snapshot that is open in all stores
pub all-open : (layout : Layout) (new : RangesView) (run : List Turn) (snapshot : SnapshotView) (ids : List ℕ)
    → ids ≡ snapshot.ids → IsOpenAll layout snapshot run
    → (length ids ≤ layout.stores → AreOpenTo layout run ids
    → Represents layout new (each_stepped (λ s. Closed (get_or ids s 0)) (length ids) run))
    → Represents layout new (each_stepped (λ s. Closed (get_or snapshot.ids s 0)) layout.stores run)
all-open layout new run snapshot ids same h closed =
    let many : length ids ≡ layout.stores = ap length same ∙ h.many in
    let made = closed (omega arith) (λ s below.
    let b : s < length ids = below in
    (snapshot.stamp, ap (λ xs. stamp_of (get_or xs s 0) (past_of layout s run)) same ∙ h.each s (omega arith))) in
    subst (λ xs. Represents layout new (each_stepped (λ s. Closed (get_or xs s 0)) layout.stores run)) same
    (subst (λ n. Represents layout new (each_stepped (λ s. Closed (get_or ids s 0)) n run)) many made)

-- what is left where a store refused: those before it have closed the snapshot again
pub few-opened : (layout : Layout) (old kept new : RangesView) (stamp : ℕ) (run : List Turn) (ids : List ℕ)
    (fault : RangesFault) → Represents layout old run → HasOpenedSome layout kept stamp run ids fault
    → ((later : List Turn) → Represents layout kept later → length ids ≤ layout.stores → AreOpenTo layout later ids
    → Represents layout new (each_stepped (λ s. Closed (get_or ids s 0)) (length ids) later))
    → HaveClosedAgain layout new stamp run fault
few-opened layout old kept new stamp run ids fault h opened' closed =
    let many : length ids ≡ opened'.at = opened'.opened.many in
    let inside : opened'.at < layout.stores = opened'.inside in
    closed-again layout kept new stamp run ids fault opened'
    (closed (each_stepped (opening stamp) opened'.at run) opened'.opened.stepped.represents (omega arith)
    (open-to layout old kept stamp run ids opened'.at h (omega arith) opened'.opened))

-- a snapshot that is open in all stores is at a cut
pub open-cut : (layout : Layout) (kept : RangesView) (snapshot : SnapshotView) (run : List Turn)
    → Represents layout kept run → IsOpenAll layout snapshot run → IsCut layout run snapshot.stamp
open-cut layout kept snapshot run h open' = λ s inside.
    let many : length kept.stores ≡ layout.stores = h.many in
    let within : s < layout.stores = inside in
    let store = get-some kept.stores s (omega (arith, within, many)) in
    let legal : IsLegalPast (past_of layout s run) = (h.pasts s store.0 store.1).legal in
    stamp_in-all (λ at. at ≤ floor (past_of layout s run)) (get_or snapshot.ids s 0) snapshot.stamp
    (open_snapshots (past_of layout s run)) (open-low (past_of layout s run) legal) (open'.each s inside)
