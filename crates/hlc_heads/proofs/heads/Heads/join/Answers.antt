-- A join at the floor is never below it.
use Rattle.std.proofs.Common.{◌≡◌, ℕ, Ok, Err, subst, arith}
use Rattle.hlc_heads.specs.declared.heads.JoinFault.{JoinFault, TheVariants.TooManyNodes, TheVariants.BelowFloor}
use Rattle.hlc_heads.specs.Heads.{HeadsView, Joins, JoinsAt, IsFloor, floor_of}
use Rattle.hlc_heads.proofs.LowLemmas.{floor-is}
use Rattle.hlc_heads.proofs.heads.Heads.join.Goals as goal

refused : (old new : HeadsView) (start : ℕ) (fault : JoinFault) → start ≡ floor_of old
    → JoinsAt old new start (Ok (Err fault))
    → Joins old new (Ok (Err fault))
refused old new start TooManyNodes at h = h
refused old new start (BelowFloor floor) at h = absurd (omega (arith, at, h.1, h.2))

pub returns-in-Err : goal.returns-in-Err
returns-in-Err c =
    let old : IsFloor c.args.self.now c.self.inside.floor =
    subst (λ m. IsFloor m c.self.inside.floor) c.self.view_is c.self.invariant.1 in
    let joined = subst (λ r. JoinsAt c.args.self.now c.join_at.new.self c.self.inside.floor (Ok r)) c.in-Err.is
    c.in_ok-node.ensures in
    refused c.args.self.now c.join_at.new.self c.self.inside.floor c.in-Err.fault
    (floor-is c.args.self.now c.self.inside.floor old) joined
