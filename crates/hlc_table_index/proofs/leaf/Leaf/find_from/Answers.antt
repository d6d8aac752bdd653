-- A key that compares as equal is the key.
use Rattle.std.proofs.Common.{sym, ◌∙◌, arith}
use Rattle.hlc_table_index.proofs.Heads.{same_key, length_keys}
use Rattle.hlc_table_index.proofs.leaf.Leaf.find_from.Goals as goal

pub returns-in-Equal : goal.returns-in-Equal
returns-in-Equal g c =
    let few = c.loop-low-test.true in
    let inside = c.loop-low.invariant.inside in
    let long = length_keys c.args.self.now in (
      omega (arith, few, inside, long),
      sym c.key.ensures ∙ same_key c.key.result.now c.args.key.now (sym
          c.in-Equal.ensures),
    )
