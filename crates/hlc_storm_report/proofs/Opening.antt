-- A snapshot that was just opened is open, with its stamp: its id is above those of all snapshots opened before.
use Rattle.std.proofs.Common.{◌≡◌, ℕ, ◌+◌, ◌<◌, ◌≤◌, List, [], ◌∷◌, ◌++◌, Some, refl, ◌∙◌, arith, All, ◌==◌, not}
use Rattle.std.proofs.lemmas.List.Elements.{All-head, All-tail, All-weaker, All-filter, All-nil, All-push}
use Rattle.hlc_snapshot.specs.{declared.snapshot.Snapshot.Snapshot, RegistryView.stamp_in}
use Rattle.hlc_snapshot.proofs.RegisterLemmas.{stamp_in-hit, stamp_in-miss}
use Rattle.hlc_core.specs.Past.{Step, Started, Began, Took, Opened, Closed, Vacuumed, PartVacuumed, Joined, last_id}
use Rattle.hlc_core.specs.Past.{open_snapshots, stamp_of, IsLegal}

-- the ids of the open snapshots are no greater than the last id
ids_low : (past : List Step) → IsLegal past → All (λ (s : Snapshot). s.id ≤ last_id past) (open_snapshots past)
ids_low [] legal = All-nil (λ (s : Snapshot). s.id ≤ 0)
ids_low (Started nodes ∷ past) legal = ids_low past legal.1
ids_low (Began kept ∷ past) legal =
    All-weaker (λ (s : Snapshot). (0 < s.id) × (s.id ≤ kept.last_id)) (λ (s : Snapshot). s.id ≤ kept.last_id)
    (λ s bounds. bounds.1) kept.snapshots legal.2.store.register.bounded
ids_low (Took item ∷ past) legal = ids_low past legal.1
ids_low (Vacuumed at ∷ past) legal = ids_low past legal.1
ids_low (PartVacuumed at dropped ∷ past) legal = ids_low past legal.1
ids_low (Joined node start ∷ past) legal = ids_low past legal.3
ids_low (Closed id ∷ past) legal =
    All-filter (λ (s : Snapshot). not (s.id == id)) (λ (s : Snapshot). s.id ≤ last_id past)
    (open_snapshots past) (ids_low past legal.1)
ids_low (Opened stamp ∷ past) legal =
    let before = All-weaker (λ (s : Snapshot). s.id ≤ last_id past) (λ (s : Snapshot). s.id ≤ last_id past + 1)
    (λ s low. omega (arith, low)) (open_snapshots past) (ids_low past legal.1) in
    All-push (λ (s : Snapshot). s.id ≤ last_id past + 1) (open_snapshots past)
    (record { id = last_id past + 1; stamp = stamp })
    before (omega arith)

last_found : (y : Snapshot) (xs : List Snapshot) → All (λ (s : Snapshot). s.id < y.id) xs
    → stamp_in y.id (xs ++ y ∷ []) ≡ Some y.stamp
last_found y [] below = stamp_in-hit y.id y [] refl
last_found y (x ∷ xs) below =
    let low : x.id < y.id = All-head (λ (s : Snapshot). s.id < y.id) x xs below in
    stamp_in-miss y.id x (xs ++ y ∷ []) (λ same. omega arith)
    ∙ last_found y xs (All-tail (λ (s : Snapshot). s.id < y.id) x xs below)

pub just_opened : (past : List Step) (stamp : ℕ) → IsLegal past
    → stamp_of (last_id past + 1) (Opened stamp ∷ past) ≡ Some stamp
just_opened past stamp legal =
    last_found (record { id = last_id past + 1; stamp = stamp }) (open_snapshots past)
    (All-weaker (λ (s : Snapshot). s.id ≤ last_id past) (λ (s : Snapshot). s.id < last_id past + 1)
    (λ s low. omega (arith, low))
    (open_snapshots past) (ids_low past legal))
