-- A node joins one store after another.
use Rattle.std.proofs.Common.{◌≡◌, ℕ, ◌+◌, ◌<◌, ◌≤◌, List, [], ◌∷◌, ◌++◌, length, Some, Ok, Err, ap, sym, ◌∙◌, subst}
use Rattle.std.proofs.Common.{inl, inr, arith, length-append}
use Rattle.std.{specs.Prelude.slice_get, proofs.lemmas.Bool.cases_eq, proofs.lemmas.Option.slice_get_within}
use Rattle.hlc_events.specs.declared.fault.CoreFault.{CoreFault}
use Rattle.hlc_core.specs.Past.{Step, Joined, join_refusal, numbered, floor}
use Rattle.hlc_core.specs.{StoreView.StoreView, Calls.Joins}
use Rattle.hlc_ranges.specs.Run.{Layout, Turn, Stepped, past_of}
use Rattle.hlc_routing.specs.{Ranges.RangesView, Ranges.Represents, declared.fault.RangesFault.RangesFault}
use Rattle.hlc_routing.specs.All.{each_stepped, HaveStepped, HaveStopped, AreJoins, JoinsIn, join_refusals, join_step}
use Rattle.hlc_routing.specs.All.{next_join, IsStoreRefusal}
use Rattle.hlc_routing.specs.declared.fault.RangesFault.TheVariants.{NoStore, WrongStore, Store}
use Rattle.hlc_routing.proofs.Stepping.{steps, with_store, get-push_before, get-push_here}
use Rattle.hlc_routing.proofs.Each.{past-after, none-stepped, one-stepped}

-- what a join of a store says of all stores
pub joined : (layout : Layout) (old : RangesView) (run : List Turn) (s : ℕ) (store new : StoreView) (made : ℕ × ℕ)
    → Represents layout old run → slice_get old.stores s ≡ Some store
    → Joins new (past_of layout s run) (Ok made) → JoinsIn layout old (with_store old s new) s run (Ok made)
joined layout old run s store new made h there joins =
    (joins.0, joins.1, steps layout old run s store new (Joined made.0 made.1) h there joins.2 tt)

pub not-joined : (layout : Layout) (old now : RangesView) (run : List Turn) (s : ℕ) (store new : StoreView)
    (fault : CoreFault) → Represents layout old run → slice_get old.stores s ≡ Some store
    → Joins new (past_of layout s run) (Err fault) → JoinsIn layout old now s run (Err (Store fault))
not-joined layout old now run s store new fault h there joins = (slice_get_within old.stores s store there, joins)

refusal-same : (layout : Layout) (run : List Turn) (step : ℕ → Step) (n : ℕ)
    → join_refusals layout (each_stepped step n run) n ≡ join_refusals layout run n
refusal-same layout run step n =
    ap join_refusal (past-after layout step n n run (omega arith))

next-same : (layout : Layout) (run : List Turn) (step : ℕ → Step) (n : ℕ)
    → next_join layout (each_stepped step n run) n ≡ next_join layout run n
next-same layout run step n =
    let same : past_of layout n (each_stepped step n run) ≡ past_of layout n run =
    past-after layout step n n run (omega arith) in
    ap (λ past. (numbered past, floor past)) same

-- a node joined the first stores, and these are its numbers and starts
pub record HaveJoinedTo (layout : Layout) (kept : RangesView) (run : List Turn) (made : List (ℕ × ℕ)) (n : ℕ)
    : Type 0 where
  pub stepped : HaveStepped layout kept run (join_refusals layout run) (join_step layout run) n
  pub joins : AreJoins layout run made n

pub none-joined : (layout : Layout) (kept : RangesView) (run : List Turn) (made : List (ℕ × ℕ)) → made ≡ []
    → Represents layout kept run → HaveJoinedTo layout kept run made 0
none-joined layout kept run made none h = record {
  stepped = none-stepped layout kept run (join_refusals layout run) (join_step layout run) h;
  joins = record { many = ap length none; each = λ s below. absurd (omega (arith, below)) };
}

pub one-joined : (layout : Layout) (old new : RangesView) (run : List Turn) (made : List (ℕ × ℕ)) (n : ℕ)
    (one : ℕ × ℕ) → HaveJoinedTo layout old run made n
    → JoinsIn layout old new n (each_stepped (join_step layout run) n run) (Ok one)
    → HaveJoinedTo layout new run (made ++ one ∷ []) (n + 1)
one-joined layout old new run made n one h joins =
    let many : length made ≡ n = h.joins.many in
    let is : one ≡ next_join layout run n = joins.1 ∙ next-same layout run (join_step layout run) n in
    record {
      stepped = one-stepped layout old new run (join_refusals layout run) (join_step layout run) n h.stepped
          (sym (refusal-same layout run (join_step layout run) n) ∙ joins.0)
          (subst (λ (x : ℕ × ℕ). Represents layout new
          (Stepped n (Joined x.0 x.1) ∷ each_stepped (join_step layout run) n run)) is joins.2);
      joins = record {
        many = length-append made (one ∷ []) ∙ ap (λ k. k + 1) many;
        each = λ s below.
            elim (cases_eq s n) [
              | inl e ↦ get-push_here made one s (many ∙ sym e) ∙ ap Some is
                  ∙ ap (λ k. Some (next_join layout run k)) (sym e)
              | inr e ↦
                  (let b : s < n + 1 = below in
                  let low : s < n = omega (arith, b, e) in
                  get-push_before made one s (omega (arith, low, many)) ∙ h.joins.each s low)
            ];
      };
    }

pub one-not_joined : (layout : Layout) (old new : RangesView) (run : List Turn) (made : List (ℕ × ℕ)) (n : ℕ)
    (fault : RangesFault) → n < layout.stores → HaveJoinedTo layout old run made n
    → JoinsIn layout old new n (each_stepped (join_step layout run) n run) (Err fault) → new ≡ old
    → (stopped : HaveStopped layout new run (join_refusals layout run) (join_step layout run) fault)
    × AreJoins layout run made stopped.at
one-not_joined layout old new run made n NoStore inside h joins same =
    absurd (let many : length old.stores ≡ layout.stores = h.stepped.represents.many in
    let past : length old.stores ≤ n = joins in omega arith)
one-not_joined layout old new run made n WrongStore inside h joins same = absurd joins
one-not_joined layout old new run made n (Store fault) inside h joins same = (
  record {
    at = n;
    inside = inside;
    before = subst (λ kept. HaveStepped layout kept run (join_refusals layout run) (join_step layout run) n) (sym same)
        h.stepped;
    why = subst (λ o. IsStoreRefusal o (Store fault)) (refusal-same layout run (join_step layout run) n) joins.1;
  },
  h.joins,
)
