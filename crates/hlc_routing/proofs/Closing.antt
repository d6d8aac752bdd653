-- A snapshot is closed in each store in which it is open: the pasts of the others stay.
use Rattle.std.proofs.Common.{◌≡◌, ℕ, zero, suc, ◌+◌, ◌<◌, ◌≤◌, List, [], ◌∷◌, length, get_or, Some, None, Option}
use Rattle.std.proofs.Common.{Bool, Ok, Err, Result, true, false, refl, ap, sym, ◌∙◌, subst, inl, inr, arith, add-one}
use Rattle.std.specs.Prelude.{OnErr, IsTrue, ◌↔◌, is_ok}
use Rattle.std.proofs.lemmas.Bool.{cases_eq}
use Rattle.hlc_core.specs.Past.{Started, Closed, stamp_of}
use Rattle.hlc_ranges.specs.Run.{Layout, Turn, Issued, Sent, Received, Observed, Stepped, past_of, IsLegal}
use Rattle.hlc_ranges.proofs.TurnLemmas.{past-other}
use Rattle.hlc_routing.specs.Ranges.{RangesView, Represents, ClosesIn}
use Rattle.hlc_routing.specs.All.{SnapshotView, each_stepped, each_closed, closed_at, IsOpenAll, ClosesAll}
use Rattle.hlc_routing.specs.All.{IsOpenIn, AreOpenUpto, AreOpenTo}
use Rattle.hlc_routing.specs.declared.fault.RangesFault.{RangesFault}
use Rattle.hlc_routing.specs.declared.fault.RangesFault.TheVariants.{NoStore, WrongStore, Store}

-- nothing took place in a store that there is not
pub past-none : (layout : Layout) (run : List Turn) (s : ℕ) → IsLegal layout run → layout.stores ≤ s
    → (nodes : ℕ) × (past_of layout s run ≡ Started nodes ∷ [])
past-none layout [] s legal past = legal.none s past
past-none layout (Issued t item ∷ run) s legal past = past-none layout run s legal.1 past
past-none layout (Sent m stamp ∷ run) s legal past = past-none layout run s legal.1 past
past-none layout (Received m number stamp ∷ run) s legal past = past-none layout run s legal.1 past
past-none layout (Observed m t at stamp ∷ run) s legal past = past-none layout run s legal.1 past
past-none layout (Stepped t step ∷ run) s legal past =
    let inside : t < layout.stores = legal.0.0 in
    let none = past-none layout run s legal.1 past in
    (none.0, past-other layout s t step run (λ e. absurd (omega (arith, e, inside, past))) ∙ none.1)

-- a store that has such a snapshot closes it; one that has none, or that there is not, stays
pub close-is : (layout : Layout) (old new : RangesView) (run : List Turn) (s id : ℕ) (result : Result ℕ RangesFault)
    → Represents layout old run → ClosesIn layout old new s id run result → OnErr result (new ≡ old)
    → Represents layout new (closed_at (stamp_of id (past_of layout s run)) s id run)
close-is layout old new run s id (Ok stamp) h closes same =
    subst (λ o. Represents layout new (closed_at o s id run)) (sym closes.0) closes.1
close-is layout old new run s id (Err NoStore) h closes same =
    let many : length old.stores ≡ layout.stores = h.many in
    let past : length old.stores ≤ s = closes in
    let none : stamp_of id (past_of layout s run) ≡ None =
    ap (stamp_of id) (past-none layout run s h.legal (omega (arith, many, past))).1 in
    subst (λ o. Represents layout new (closed_at o s id run)) (sym none)
    (subst (λ kept. Represents layout kept run) (sym same) h)
close-is layout old new run s id (Err WrongStore) h closes same = absurd closes
close-is layout old new run s id (Err (Store fault)) h closes same =
    subst (λ o. Represents layout new (closed_at o s id run)) (sym closes.1)
    (subst (λ kept. Represents layout kept run) (sym same) h)

pub was-open : (layout : Layout) (old new : RangesView) (run : List Turn) (s id stamp : ℕ)
    → ClosesIn layout old new s id run (Ok stamp) → IsOpenIn layout run s id
was-open layout old new run s id stamp closes = (stamp, closes.0)

pub was-shut : (layout : Layout) (old new : RangesView) (run : List Turn) (s id : ℕ) (fault : RangesFault)
    → Represents layout old run → ClosesIn layout old new s id run (Err fault) → IsOpenIn layout run s id → ⊥
was-shut layout old new run s id NoStore h closes open' =
    let many : length old.stores ≡ layout.stores = h.many in
    let past : length old.stores ≤ s = closes in
    let none : stamp_of id (past_of layout s run) ≡ None =
    ap (stamp_of id) (past-none layout run s h.legal (omega (arith, many, past))).1 in
    let e : None ≡ Some open'.0 = sym none ∙ open'.1 in absurd (cc)
was-shut layout old new run s id WrongStore h closes open' = absurd closes
was-shut layout old new run s id (Store fault) h closes open' =
    let e : None ≡ Some open'.0 = sym closes.1 ∙ open'.1 in absurd (cc)

past-at : (layout : Layout) (o : Option ℕ) (s t id : ℕ) (run : List Turn) → (t ≡ s → ⊥)
    → past_of layout s (closed_at o t id run) ≡ past_of layout s run
past-at layout None s t id run other = refl
past-at layout (Some stamp) s t id run other = past-other layout s t (Closed id) run other

-- the pasts of later stores stay
pub past-closed : (layout : Layout) (ids : List ℕ) (n s : ℕ) (run : List Turn) → n ≤ s
    → past_of layout s (each_closed layout ids n run) ≡ past_of layout s run
past-closed layout ids zero s run above = refl
past-closed layout ids (suc n) s run above =
    past-at layout (stamp_of (get_or ids n 0) (past_of layout n (each_closed layout ids n run))) s n (get_or ids n 0)
    (each_closed layout ids n run)
    (λ e. absurd (omega (arith, e, above)))
    ∙ past-closed layout ids n s run (omega (arith, above))

pub closed-next : (layout : Layout) (ids : List ℕ) (n : ℕ) (run : List Turn)
    → each_closed layout ids (n + 1) run
    ≡ closed_at (stamp_of (get_or ids n 0) (past_of layout n (each_closed layout ids n run))) n (get_or ids n 0)
    (each_closed layout ids n run)
closed-next layout ids n run =
    subst (λ k. each_closed layout ids k run
    ≡ closed_at (stamp_of (get_or ids n 0) (past_of layout n (each_closed layout ids n run))) n (get_or ids n 0)
    (each_closed layout ids n run)) (sym (add-one n)) refl

-- a store has a snapshot open after those before it closed theirs, just if it had it open before
pub open-later : (layout : Layout) (ids : List ℕ) (n id : ℕ) (run : List Turn)
    → IsOpenIn layout (each_closed layout ids n run) n id ↔ IsOpenIn layout run n id
open-later layout ids n id run =
    let same : past_of layout n (each_closed layout ids n run) ≡ past_of layout n run =
    past-closed layout ids n n run (omega arith) in (
      λ is. (is.0, ap (stamp_of id) (sym same) ∙ is.1),
      λ is. (is.0, ap (stamp_of id) same ∙ is.1),
    )

-- where each is open, each store has closed it
closed-all : (layout : Layout) (ids : List ℕ) (n : ℕ) (run : List Turn) → AreOpenUpto layout run ids n
    → each_closed layout ids n run ≡ each_stepped (λ s. Closed (get_or ids s 0)) n run
closed-all layout ids zero run open' = refl
closed-all layout ids (suc n) run open' =
    let is = open' n (omega arith) in
    let now : stamp_of (get_or ids n 0) (past_of layout n (each_closed layout ids n run)) ≡ Some is.0 =
    ap (stamp_of (get_or ids n 0)) (past-closed layout ids n n run (omega arith)) ∙ is.1 in
    ap (λ o. closed_at o n (get_or ids n 0) (each_closed layout ids n run)) now
    ∙ ap (λ r. Stepped n (Closed (get_or ids n 0)) ∷ r)
    (closed-all layout ids n run (λ s below. open' s (let b : s < n = below in omega arith)))

pub closed-each : (layout : Layout) (kept : RangesView) (run : List Turn) (ids : List ℕ) → AreOpenTo layout run ids
    → Represents layout kept (each_closed layout ids (length ids) run)
    → Represents layout kept (each_stepped (λ s. Closed (get_or ids s 0)) (length ids) run)
closed-each layout kept run ids open' h =
    subst (λ r. Represents layout kept r) (closed-all layout ids (length ids) run open') h

-- a snapshot that is open in all stores is closed in all
pub all-closed : (layout : Layout) (new : RangesView) (run : List Turn) (snapshot : SnapshotView)
    → IsOpenAll layout snapshot run → Represents layout new (each_closed layout snapshot.ids (length snapshot.ids) run)
    → ClosesAll layout new snapshot run
all-closed layout new run snapshot open' h =
    let many : length snapshot.ids ≡ layout.stores = open'.many in
    subst (λ n. Represents layout new (each_stepped (λ s. Closed (get_or snapshot.ids s 0)) n run)) many
    (closed-each layout new run snapshot.ids
    (λ s below. (let b : s < length snapshot.ids = below in
    (snapshot.stamp, open'.each s (omega (arith, b, many))))) h)

-- one store more
pub upto-none : (layout : Layout) (run : List Turn) (ids : List ℕ) → AreOpenUpto layout run ids 0
upto-none layout run ids = λ s below. absurd (omega (arith, below))

pub upto-next : (layout : Layout) (run : List Turn) (ids : List ℕ) (n : ℕ) → AreOpenUpto layout run ids n
    → IsOpenIn layout run n (get_or ids n 0)
    → AreOpenUpto layout run ids (n + 1)
upto-next layout run ids n before is = λ s below.
    elim (cases_eq s n) [
      | inl e ↦ subst (λ k. IsOpenIn layout run k (get_or ids k 0)) (sym e) is
      | inr e ↦ before s (let b : s < n + 1 = below in omega (arith, b, e))
    ]

pub upto-before : (layout : Layout) (run : List Turn) (ids : List ℕ) (n : ℕ) → AreOpenUpto layout run ids (n + 1)
    → AreOpenUpto layout run ids n
upto-before layout run ids n all' = λ s below. all' s (let b : s < n = below in omega (arith, b))

pub upto-last : (layout : Layout) (run : List Turn) (ids : List ℕ) (n : ℕ) → AreOpenUpto layout run ids (n + 1)
    → IsOpenIn layout run n (get_or ids n 0)
upto-last layout run ids n all' = all' n (omega arith)

pub open-is : (layout : Layout) (old new : RangesView) (run : List Turn) (s id : ℕ) (result : Result ℕ RangesFault)
    → Represents layout old run → ClosesIn layout old new s id run result
    → IsTrue (is_ok result) ↔ IsOpenIn layout run s id
open-is layout old new run s id (Ok stamp) h closes = (λ t. was-open layout old new run s id stamp closes, λ is. refl)
open-is layout old new run s id (Err fault) h closes =
    (λ t. absurd (let e : false ≡ true = t in cc), λ is. absurd (was-shut layout old new run s id fault h closes is))

pub all-closed_by : (layout : Layout) (new : RangesView) (run : List Turn) (snapshot : SnapshotView) (ids : List ℕ)
    → ids ≡ snapshot.ids → IsOpenAll layout snapshot run
    → Represents layout new (each_closed layout ids (length ids) run)
    → ClosesAll layout new snapshot run
all-closed_by layout new run snapshot ids same open' h =
    all-closed layout new run snapshot open'
    (subst (λ xs. Represents layout new (each_closed layout xs (length xs) run)) same h)

-- one store had its snapshot not open
pub not-upto : (layout : Layout) (run : List Turn) (ids : List ℕ) (n : ℕ) (was : Bool) → was ≡ false
    → IsTrue was ↔ IsOpenIn layout (each_closed layout ids n run) n (get_or ids n 0)
    → IsTrue false ↔ AreOpenUpto layout run ids (n + 1)
not-upto layout run ids n was shut is = (
  λ t. absurd (let e : false ≡ true = t in cc),
  λ all'. absurd (let t : was ≡ true =
      is.1 ((open-later layout ids n (get_or ids n 0) run).1 (upto-last layout run ids n all')) in
      let e : false ≡ true = sym shut ∙ t in cc),
)

-- one store more had its snapshot open
pub still-upto : (layout : Layout) (run : List Turn) (ids : List ℕ) (n : ℕ) (before was : Bool) → was ≡ true
    → IsTrue before ↔ AreOpenUpto layout run ids n
    → IsTrue was ↔ IsOpenIn layout (each_closed layout ids n run) n (get_or ids n 0)
    → IsTrue before ↔ AreOpenUpto layout run ids (n + 1)
still-upto layout run ids n before was open' so_far is = (
  λ t. upto-next layout run ids n (so_far.0 t) ((open-later layout ids n (get_or ids n 0) run).0 (is.0 open')),
  λ all'. so_far.1 (upto-before layout run ids n all'),
)

-- the ids by which snapshots were closed are the snapshot's
pub same-ids : (layout : Layout) (run : List Turn) (ids others : List ℕ) → ids ≡ others → AreOpenTo layout run ids
    → AreOpenTo layout run others
same-ids layout run ids others same h = subst (AreOpenTo layout run) same h
