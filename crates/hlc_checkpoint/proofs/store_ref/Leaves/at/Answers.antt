-- The columns of a leaf are among those of all leaves.
use Rattle.std.proofs.Common.{◌∙◌, ap, sym, length, arith, Some}
use Rattle.std.proofs.lemmas.Option.{slice_get-get_or}
use Rattle.hlc_checkpoint.proofs.LentLemmas.{leaf-writable}
use Rattle.hlc_checkpoint.proofs.store_ref.Leaves.at.Goals as goal

pub returns-clause-writable : goal.returns-clause-writable
returns-clause-writable c =
    let list = c.self.inside.list.items in
    let lt = c.requires in
    let long = ap length c.self.view_is in
    leaf-writable list c.args.place c.index.result.now
    (slice_get-get_or list c.args.place c.index.result.now (omega (arith, lt, long)) ∙ ap Some (sym c.index.ensures))
    c.self.invariant
