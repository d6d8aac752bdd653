-- `==` decides whether two snapshots are the same.
use Rattle.std.proofs.{Common.arith, lemmas.Bool.Decides.nat_tests}
use Rattle.hlc_split.proofs.Same.{by_elements, same_snapshot}
use Rattle.hlc_split.proofs.joining.are_same_snapshots.Goals as goal

pub returns : goal.returns
returns c =
    by_elements c.eq.result c.args.left.now c.args.right.now c.eq.ensures (λ a b. (
      λ h. same_snapshot a b (grind (arith, nat_tests)) (grind (arith, nat_tests)),
      λ e. rw e (grind (arith, nat_tests)),
    ))
