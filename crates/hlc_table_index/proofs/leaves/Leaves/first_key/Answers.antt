-- The first key of a leaf is one of the first keys of all, and those consist of bytes.
use Rattle.std.proofs.Common.{sym, subst}
use Rattle.hlc_table_index.{specs.Head.AreBytes, proofs.Tops.first_bytes, proofs.Tops.first_read}
use Rattle.hlc_table_index.proofs.leaves.Leaves.first_key.Goals as goal

pub returns-clause-key : goal.returns-clause-key
returns-clause-key g c =
    first_read c.self.inside.leaves.items c.args.self.now c.args.at c.index.result.now c.key.result.now c.self.view_is
    c.requires c.index.ensures c.key.ensures

pub returns-clause-bytes : goal.returns-clause-bytes
returns-clause-bytes g c =
    subst AreBytes
    (sym (first_read c.self.inside.leaves.items c.args.self.now c.args.at c.index.result.now c.key.result.now
    c.self.view_is c.requires c.index.ensures c.key.ensures))
    (first_bytes c.self.inside.tops.items c.self.inside.leaves.items c.args.self.now c.args.at c.self.invariant
    c.self.view_is c.requires)
