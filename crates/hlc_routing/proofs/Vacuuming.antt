-- One store after another is vacuumed to a stamp.
use Rattle.std.proofs.Common.{◌≡◌, ◌≢◌, ℕ, ◌+◌, ◌<◌, ◌≤◌, List, [], ◌∷◌, ◌++◌, length, Some, Ok, Err, ap, sym, ◌∙◌}
use Rattle.std.proofs.Common.{subst, inl, inr, arith, length-append}
use Rattle.std.{specs.Prelude.slice_get, proofs.lemmas.Bool.cases_lt, proofs.lemmas.Option.slice_get_within}
use Rattle.hlc_vacuum_draft.specs.declared.report.Report.{Report}
use Rattle.hlc_events.specs.declared.fault.CoreFault.{CoreFault}
use Rattle.hlc_core.specs.Past.{Step, Vacuumed, vacuum_refusal, writes}
use Rattle.hlc_core.specs.{StoreView.StoreView, Calls.VacuumsTo, Stored.IsReport, Stored.LeavesFewest}
use Rattle.hlc_ranges.specs.Run.{Layout, Turn, past_of}
use Rattle.hlc_routing.specs.{Ranges.RangesView, Ranges.Represents, declared.fault.RangesFault.RangesFault}
use Rattle.hlc_routing.specs.All.{each_stepped, HaveStepped, HaveStopped, AreReports, IsVacuumedIn, VacuumsIn}
use Rattle.hlc_routing.specs.All.{vacuum_refusals, IsStoreRefusal}
use Rattle.hlc_routing.specs.declared.fault.RangesFault.TheVariants.{NoStore, WrongStore, Store}
use Rattle.hlc_routing.proofs.Stepping.{steps, with_store, some-same, get-set_same, get-push_before, get-push_here}
use Rattle.hlc_routing.proofs.Each.{past-after, none-stepped, one-stepped}

-- the step at which a store is vacuumed
abbrev pub vacuuming : ℕ → ℕ → Step
vacuuming at s = Vacuumed at

-- what a store's vacuum says of all stores
pub vacuumed : (layout : Layout) (old : RangesView) (run : List Turn) (s at : ℕ) (store new : StoreView)
    (report : Report) → Represents layout old run → slice_get old.stores s ≡ Some store
    → VacuumsTo new at (past_of layout s run) (Ok report)
    → VacuumsIn layout old (with_store old s new) s at run (Ok report)
vacuumed layout old run s at store new report h there vacuums =
    let within : s < length old.stores = slice_get_within old.stores s store there in (
      vacuums.0,
      record {
        expected = vacuums.1.expected;
        fewest = λ other is.
            let one : new ≡ other = some-same new other (sym (get-set_same old.stores s new within) ∙ is) in
            subst (λ (x : StoreView). LeavesFewest x.rows (writes (past_of layout s run)) report) one vacuums.1.fewest;
      },
      steps layout old run s store new (Vacuumed at) h there vacuums.1.represents tt,
    )

pub not-vacuumed : (layout : Layout) (old now : RangesView) (run : List Turn) (s at : ℕ) (store new : StoreView)
    (fault : CoreFault) → Represents layout old run → slice_get old.stores s ≡ Some store
    → VacuumsTo new at (past_of layout s run) (Err fault) → VacuumsIn layout old now s at run (Err (Store fault))
not-vacuumed layout old now run s at store new fault h there vacuums =
    (slice_get_within old.stores s store there, vacuums)

refusal-same : (layout : Layout) (run : List Turn) (at n : ℕ)
    → vacuum_refusals layout (each_stepped (vacuuming at) n run) at n ≡ vacuum_refusals layout run at n
refusal-same layout run at n =
    ap (λ past. vacuum_refusal past at) (past-after layout (vacuuming at) n n run (omega arith))

-- the first stores were vacuumed, and these are their reports
pub record AreVacuumedTo (layout : Layout) (kept : RangesView) (at : ℕ) (run : List Turn) (reports : List Report)
    (n : ℕ) : Type 0 where
  pub stepped : HaveStepped layout kept run (vacuum_refusals layout run at) (vacuuming at) n
  pub made : AreReports layout kept at run reports n

pub none-vacuumed : (layout : Layout) (kept : RangesView) (at : ℕ) (run : List Turn) (reports : List Report)
    → reports ≡ [] → Represents layout kept run → AreVacuumedTo layout kept at run reports 0
none-vacuumed layout kept at run reports none h = record {
  stepped = none-stepped layout kept run (vacuum_refusals layout run at) (vacuuming at) h;
  made = record {
    many = ap length none;
    each = λ s report there.
        absurd (let within : s < length reports = slice_get_within reports s report there in
        let few : length reports ≡ 0 = ap length none in omega arith);
  };
}

still : (layout : Layout) (old new : RangesView) (s at : ℕ) (run : List Turn) (report : Report)
    → slice_get new.stores s ≡ slice_get old.stores s → IsVacuumedIn layout old s at run report
    → IsVacuumedIn layout new s at run report
still layout old new s at run report same h = record {
  expected = h.expected;
  fewest = λ store there. h.fewest store (sym same ∙ there);
}

before : (layout : Layout) (new : RangesView) (s at : ℕ) (run later : List Turn) (report : Report)
    → past_of layout s later ≡ past_of layout s run → IsVacuumedIn layout new s at later report
    → IsVacuumedIn layout new s at run report
before layout new s at run later report same h = record {
  expected = subst (λ past. IsReport at past report) same h.expected;
  fewest = λ store there.
      subst (λ past. LeavesFewest store.rows (writes past) report) same (h.fewest store there);
}

pub one-vacuumed : (layout : Layout) (old new : RangesView) (at : ℕ) (run : List Turn) (reports : List Report) (n : ℕ)
    (report : Report) → AreVacuumedTo layout old at run reports n
    → VacuumsIn layout old new n at (each_stepped (vacuuming at) n run) (Ok report)
    → ((other : ℕ) → other ≢ n → slice_get new.stores other ≡ slice_get old.stores other)
    → AreVacuumedTo layout new at run (reports ++ report ∷ []) (n + 1)
one-vacuumed layout old new at run reports n report h vacuums others =
    let many : length reports ≡ n = h.made.many in
    record {
      stepped = one-stepped layout old new run (vacuum_refusals layout run at) (vacuuming at) n h.stepped
          (sym (refusal-same layout run at n) ∙ vacuums.0) vacuums.2;
      made = record {
        many = length-append reports (report ∷ []) ∙ ap (λ k. k + 1) many;
        each = λ s other there.
            let within : s < length (reports ++ report ∷ []) =
            slice_get_within (reports ++ report ∷ []) s other there in
            let long : length (reports ++ report ∷ []) ≡ length reports + 1 = length-append reports (report ∷ []) in
            elim (cases_lt s (length reports)) [
              | inl low ↦
                  (let l : s < length reports = low in
                  still layout old new s at run other (others s (λ e. absurd (omega (arith, e))))
                  (h.made.each s other (sym (get-push_before reports report s low) ∙ there)))
              | inr high ↦
                  (let l : length reports ≤ s = high in
                  let last : length reports ≡ s = omega arith in
                  let is_n : n ≡ s = sym many ∙ last in
                  let same : report ≡ other =
                  some-same report other (sym (get-push_here reports report s last) ∙ there) in
                  subst (λ (x : Report). IsVacuumedIn layout new s at run x) same
                  (subst (λ k. IsVacuumedIn layout new k at run report) is_n
                  (before layout new n at run (each_stepped (vacuuming at) n run) report
                  (past-after layout (vacuuming at) n n run (omega arith)) vacuums.1)))
            ];
      };
    }

pub one-not_vacuumed : (layout : Layout) (old new : RangesView) (at : ℕ) (run : List Turn) (reports : List Report)
    (n : ℕ) (fault : RangesFault) → n < layout.stores → AreVacuumedTo layout old at run reports n
    → VacuumsIn layout old new n at (each_stepped (vacuuming at) n run) (Err fault) → new ≡ old
    → HaveStopped layout new run (vacuum_refusals layout run at) (vacuuming at) fault
one-not_vacuumed layout old new at run reports n NoStore inside h vacuums same =
    absurd (let many : length old.stores ≡ layout.stores = h.stepped.represents.many in
    let past : length old.stores ≤ n = vacuums in omega arith)
one-not_vacuumed layout old new at run reports n WrongStore inside h vacuums same = absurd vacuums
one-not_vacuumed layout old new at run reports n (Store fault) inside h vacuums same = record {
  at = n;
  inside = inside;
  before = subst (λ kept. HaveStepped layout kept run (vacuum_refusals layout run at) (vacuuming at) n) (sym same)
      h.stepped;
  why = subst (λ o. IsStoreRefusal o (Store fault)) (refusal-same layout run at n) vacuums.1;
}
