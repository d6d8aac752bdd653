-- A core without its snapshots represents the past in which they were closed, one after the other.
use Rattle.std.proofs.Common.{◌≡◌, ℕ, suc, ◌<◌, List, [], ◌∷◌, Some, refl, ap, sym, ◌∙◌, subst, arith}
use Rattle.std.specs.{Prelude.All, Prelude.not, List.AllPairs}
use Rattle.std.proofs.lemmas.Bool.{cond-true, cond-false, eq-eqb, ne_eqb}
use Rattle.std.proofs.lemmas.List.Elements.{All-nil, All-head, All-tail}
use Rattle.hlc_rows.specs.declared.row.Row.{Row}
use Rattle.hlc_heads.specs.Heads.{HeadsView}
use Rattle.hlc_snapshot.specs.{declared.snapshot.Snapshot.Snapshot, RegistryView.without, RegistryView.stamp_in}
use Rattle.hlc_snapshot.proofs.RegisterLemmas.{stamp_in-hit}
use Rattle.hlc_core.specs.Past.{Step, Closed, closed_all}
use Rattle.hlc_core.specs.StoreView.{StoreView, IsConsistent, Represents, without_snapshots}
use Rattle.hlc_core.proofs.{Opening.closes, Opening.less_snapshot, CheckpointLemmas.register-of}

-- none of these has the id
without-none : (id : ℕ) (xs : List Snapshot) → All (λ snapshot. id < snapshot.id) xs → without id xs ≡ xs
without-none id [] above = refl
without-none id (x ∷ xs) above =
    let up : id < x.id = All-head (λ snapshot. id < snapshot.id) x xs above in
    cond-true _ _ _ (ap not (ne_eqb x.id id (λ same. omega arith)))
    ∙ ap (λ ys. x ∷ ys) (without-none id xs (All-tail (λ snapshot. id < snapshot.id) x xs above))

-- the first of some ascending snapshots is closed
without-first : (x : Snapshot) (xs : List Snapshot) → All (λ snapshot. x.id < snapshot.id) xs
    → without x.id (x ∷ xs) ≡ xs
without-first x xs above = cond-false _ _ _ (ap not (eq-eqb x.id x.id refl)) ∙ without-none x.id xs above

pub all-closed : (snapshots : List Snapshot) (kept : StoreView) (past : List Step) → kept.snapshots ≡ snapshots
    → Represents kept past → Represents (without_snapshots kept) (closed_all snapshots past)
all-closed [] kept past are h =
    subst (λ (xs : List Snapshot). Represents (record kept { snapshots = xs }) past) are h
all-closed (x ∷ xs) kept past are h =
    let register = register-of past h.legal in
    let same = sym h.snapshots ∙ are in
    let above : All (λ (snapshot : Snapshot). x.id < snapshot.id) xs =
    λ k d within. (subst (AllPairs (λ (older newer : Snapshot). older.id < newer.id)) same register.rising) 0 (suc k) d
    (omega arith) (omega arith) in
    let there : stamp_in x.id kept.snapshots ≡ Some x.stamp = ap (stamp_in x.id) are ∙ stamp_in-hit x.id x xs refl in
    all-closed xs (less_snapshot kept x.id) (Closed x.id ∷ past)
    (ap (without x.id) are ∙ without-first x xs above) (closes kept past x.id x.stamp h there).1

pub consistent-none : (marks : HeadsView) (snapshots : List Snapshot) (rows : List Row)
    → IsConsistent marks snapshots rows
    → IsConsistent marks [] rows
consistent-none marks snapshots rows h = record { opened = All-nil _; row_set = h.row_set; stored = h.stored }
