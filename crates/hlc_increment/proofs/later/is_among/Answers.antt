-- `==` decides whether two snapshots are the same.
use Rattle.std.proofs.Common.{◌≡◌, ℕ, ap, ◌∙◌, arith}
use Rattle.std.proofs.lemmas.{Bool.Decides.nat_tests, List.Elements.contains_decides, List.Elements.Decides-contains}
use Rattle.hlc_snapshot.specs.{declared.snapshot.Snapshot.Snapshot, contracts.snapshot.SnapshotPartialEq.TheImpl.ghosts}
use Rattle.hlc_increment.proofs.later.is_among.Goals as goal

abbrev snapshot : ℕ → ℕ → Snapshot
snapshot n s = record { id = n; stamp = s }

same_snapshot : (a b : Snapshot) → a.id ≡ b.id → a.stamp ≡ b.stamp → a ≡ b
same_snapshot a b e f =
    ap (λ (n : ℕ). snapshot n a.stamp) e ∙ ap (λ (s : ℕ). snapshot b.id s) f

pub returns : goal.returns
returns c =
    Decides-contains c.args.snapshots.now c.args.snapshot.now c.contains.result (contains_decides ghosts.eq (λ a b. (
      λ h. same_snapshot a b (grind (arith, nat_tests)) (grind (arith, nat_tests)),
      λ e. rw e (grind (arith, nat_tests)),
    )) c.args.snapshots.now c.args.snapshot.now c.contains.result c.contains.ensures.cases)
