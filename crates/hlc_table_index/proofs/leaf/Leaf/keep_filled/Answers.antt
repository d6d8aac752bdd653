-- The entries that are kept have their heads.
use Rattle.std.proofs.Common.{◌≡◌, ◌∙◌, take, filter, ap, arith}
use Rattle.std.proofs.lemmas.Grind.{common_steps}
use Rattle.hlc_table_index.proofs.Kept.{leaf_kept}
use Rattle.hlc_table_index.proofs.leaf.Leaf.keep_filled.Goals as goal

pub invariant_of-self : goal.invariant_of-self
invariant_of-self g c =
    let heads : c.truncate.new.self.items ≡ take c.move_filled-kept.result c.move_filled-kept.new.heads =
    grind (arith, common_steps) in
    let entries : c.truncate-2.new.self.items ≡ take c.move_filled-kept.result c.move_filled-kept.new.entries =
    grind (arith, common_steps) in
    leaf_kept (λ e. g.V.Filled.is_filled e.1) c.self.inside.entries.items c.move_filled-kept.new.entries
    c.truncate-2.new.self.items c.move_filled-kept.new.heads c.truncate.new.self.items c.move_filled-kept.result
    c.self.invariant.1 c.move_filled-kept.ensures.heads
    (c.move_filled-kept.ensures.front ∙ ap (filter (λ e. g.V.Filled.is_filled e.1)) c.as_mut_slice-2.ensures.value)
    heads entries
