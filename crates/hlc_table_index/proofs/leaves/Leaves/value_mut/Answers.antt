-- Another value in a leaf does not change its first key.
use Rattle.std.proofs.Common.{ap, arith, length}
use Rattle.hlc_table_index.proofs.Tops.{leaves_valued}
use Rattle.hlc_table_index.proofs.leaves.Leaves.value_mut.Goals as goal

pub invariant_of-self-lent : goal.invariant_of-self-lent
invariant_of-self-lent g c w =
    leaves_valued c.self.inside.tops.items c.self.inside.leaves.items c.args.at c.args.slot c.index_mut-leaf.result.now
    w c.self.invariant
    (let lt = c.requires.leaf in let long = ap length c.self.view_is in omega (arith, lt, long))
    c.index_mut-leaf.ensures.value
