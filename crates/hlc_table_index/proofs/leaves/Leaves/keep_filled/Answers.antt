-- The leaves that are kept have the heads of their first keys.
use Rattle.std.proofs.{Common.◌≡◌, Common.take, Common.arith, lemmas.Grind.common_steps}
use Rattle.hlc_table_index.proofs.leaves.Leaves.keep_filled.Goals as goal

pub invariant_of-self : goal.invariant_of-self
invariant_of-self g c =
    let tops : c.truncate.new.self.items ≡ take c.move_filled-kept.result c.move_filled-kept.new.tops =
    grind (arith, common_steps) in
    let leaves : c.truncate-2.new.self.items ≡ take c.move_filled-kept.result c.move_filled-kept.new.leaves =
    grind (arith, common_steps) in
    rw (tops, leaves) (
      c.move_filled-kept.ensures.tops,
      c.move_filled-kept.ensures.bytes,
      c.move_filled-kept.ensures.filled,
    )
