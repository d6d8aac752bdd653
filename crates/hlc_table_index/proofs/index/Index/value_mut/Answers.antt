-- Another value at a slot changes no key.
use Rattle.std.proofs.Common.{ap, arith, [], length, get_or}
use Rattle.hlc_table_index.proofs.Values.{valued_ascend}
use Rattle.hlc_table_index.proofs.index.Index.value_mut.Goals as goal

pub invariant_of-self-lent : goal.invariant_of-self-lent
invariant_of-self-lent g c w =
    valued_ascend c.self.inside.leaves c.args.at c.args.slot
    (let lt = c.requires.leaf in let e = ap length c.self.view_is in omega (arith, lt, e))
    (let lt = c.requires.inside in let e = ap (λ l. length (get_or l c.args.at [])) c.self.view_is in
    omega (arith, lt, e))
    w c.self.invariant
