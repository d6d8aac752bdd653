-- A head above that of the key belongs to a key above it.
use Rattle.std.proofs.{Common.◌<◌, Common.refl, Common.subst, Common.ltb-true, lemmas.List.get_or_read}
use Rattle.hlc_table_index.proofs.Tops.{headed_above}
use Rattle.hlc_table_index.proofs.leaves.Leaves.is_above.Goals as goal

pub returns : goal.returns
returns g c = λ above.
    let lt : c.args.head < c.index.result.now = ltb-true c.args.head c.index.result.now above in
    headed_above c.self.inside.tops.items c.self.inside.leaves.items c.args.self.now c.self.inside.tops.items
    c.args.key.now c.args.head c.args.at c.self.invariant c.self.view_is refl c.requires.bytes c.requires.head
    (λ few. subst (λ m. c.args.head < m)
    (get_or_read c.self.inside.tops.items c.args.at c.index.result.now few c.index.ensures 0) lt)
