-- The heads of the first keys decide between them.
use Rattle.hlc_table_index.specs.Entries.{first_keys, IsUptoAt}
use Rattle.hlc_table_index.proofs.Tops.{headed_upto, headed_above}
use Rattle.hlc_table_index.proofs.leaves.Leaves.count_upto.{Given.Over, Goals.After-place_of_head-place}
use Rattle.hlc_table_index.proofs.leaves.Leaves.count_upto.Goals as goal

upto : (g : Over) (c : After-place_of_head-place g) → IsUptoAt (first_keys c.args.self.now)
    c.place_of_head-place.result.0 c.args.key.now
upto g c =
    headed_upto c.self.inside.tops.items c.self.inside.leaves.items c.args.self.now c.as_slice.result.now c.args.key.now
    c.args.head
    c.place_of_head-place.result.0 c.self.invariant c.self.view_is c.as_slice.ensures.value c.requires.bytes
    c.requires.head
    c.place_of_head-place.ensures.inside c.place_of_head-place.ensures.below

pub returns-then-not-is_alike-clause-upto : goal.returns-then-not-is_alike-clause-upto
returns-then-not-is_alike-clause-upto g c =
    upto g (goal.at.returns-then-not-is_alike-clause-upto g c).After-place_of_head-place

pub returns-then-not-is_alike-clause-above : goal.returns-then-not-is_alike-clause-above
returns-then-not-is_alike-clause-above g c =
    headed_above c.self.inside.tops.items c.self.inside.leaves.items c.args.self.now c.as_slice.result.now
    c.args.key.now
    c.args.head
    c.place_of_head-place.result.0 c.self.invariant c.self.view_is c.as_slice.ensures.value c.requires.bytes
    c.requires.head
    (c.place_of_head-place.ensures.apart c.if-not-is_alike.true)

pub count_alike-requires-clause-upto : goal.count_alike-requires-clause-upto
count_alike-requires-clause-upto g c = upto g (goal.at.count_alike-requires-clause-upto g c).After-place_of_head-place
