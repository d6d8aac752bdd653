-- The rows of the next leaf are after those before it.
use Rattle.std.proofs.Common.{refl, ap₂, ◌∙◌, ◌≡◌, ℕ, List, drop, length, arith}
use Rattle.hlc_saved.proofs.StorePieces.{leaf_saved}
use Rattle.hlc_saved.proofs.store_writer.StoreWriter.more.Goals as goal

pub returns-clause-written : goal.returns-clause-written
returns-clause-written c = λ tag kept bytes has.
    let long : c.len-before.result ≡ length c.args.out.now.items = omega (arith, c.len-before.ensures) in
    leaf_saved c.args.self.now _ tag kept bytes c.at-leaf.result.now c.args.out.now.items
    c.append_leaf.new.out.items c.bytes_from.result.now refl refl c.at-leaf.ensures.leaf c.in_default.ensures.ok
    (c.bytes_from.ensures ∙ ap₂ (λ (n : ℕ) (l : List ℕ). drop n l) long c.as_slice.ensures.value) c.put.ensures has
