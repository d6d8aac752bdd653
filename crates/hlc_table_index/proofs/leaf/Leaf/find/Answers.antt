-- The heads decide between the keys, and if they are equal, whole keys do.
use Rattle.std.proofs.Common.{sym, ◌∙◌, ◌≡◌, ◌<◌, arith, subst, length, true, Greater}
use Rattle.hlc_table_index.specs.Entries.{keys_in, key_cmp, IsBelowAt}
use Rattle.hlc_table_index.proofs.Heads.{same_key, as_many, headed_below, headed_above}
use Rattle.hlc_table_index.proofs.leaf.Leaf.find.{Given.Over, Goals.After-place_of_head-first}
use Rattle.hlc_table_index.proofs.leaf.Leaf.find.Goals as goal

many : (g : Over) (c : After-place_of_head-first g) → length c.as_slice.result.now ≡ length (keys_in c.args.self.now)
many g c =
    as_many c.self.inside.entries.items c.args.self.now c.self.view_is c.self.inside.heads.items c.as_slice.result.now
    c.as_slice.ensures.value c.self.invariant c.args.key.now c.requires.bytes c.args.head c.requires.head
    c.place_of_head-first.result.0

below : (g : Over) (c : After-place_of_head-first g) → IsBelowAt (keys_in c.args.self.now)
    c.place_of_head-first.result.0 c.args.key.now
below g c =
    headed_below c.self.inside.entries.items c.args.self.now c.self.view_is c.self.inside.heads.items
    c.as_slice.result.now
    c.as_slice.ensures.value c.self.invariant c.args.key.now c.requires.bytes c.args.head c.requires.head
    c.place_of_head-first.result.0 c.place_of_head-first.ensures.inside c.place_of_head-first.ensures.below

pub returns-then-not-is_alike : goal.returns-then-not-is_alike
returns-then-not-is_alike g c =
    let long = many g (goal.at.returns-then-not-is_alike g c).After-place_of_head-first in
    let inside = c.place_of_head-first.ensures.inside in (
      omega (arith, inside, long),
      below g (goal.at.returns-then-not-is_alike g c).After-place_of_head-first,
      headed_above c.self.inside.entries.items c.args.self.now c.self.view_is c.self.inside.heads.items
          c.as_slice.result.now
          c.as_slice.ensures.value c.self.invariant c.args.key.now c.requires.bytes c.args.head c.requires.head
          c.place_of_head-first.result.0 (c.place_of_head-first.ensures.apart c.if-not-is_alike.true),
    )

inside : (g : Over) (c : After-place_of_head-first g) → c.place_of_head-first.result.1 ≡ true
    → c.place_of_head-first.result.0 < length (keys_in c.args.self.now)
inside g c is =
    let long = many g c in
    let lt : c.place_of_head-first.result.0 < length c.as_slice.result.now = c.place_of_head-first.ensures.alike is in
    omega (arith, lt, long)

pub returns-in-Equal : goal.returns-in-Equal
returns-in-Equal g c = (
  inside g (goal.at.returns-in-Equal g c).After-place_of_head-first c.if-not-is_alike.false,
  sym c.key.ensures ∙
      same_key c.key.result.now c.args.key.now (sym c.in-Equal.ensures),
)

pub returns-in-Greater : goal.returns-in-Greater
returns-in-Greater g c =
    let lt = inside g (goal.at.returns-in-Greater g c).After-place_of_head-first c.if-not-is_alike.false in (
      omega (arith, lt),
      below g (goal.at.returns-in-Greater g c).After-place_of_head-first,
      λ _. subst (λ k. key_cmp k
          c.args.key.now ≡ Greater) c.key.ensures (sym c.in-Greater.ensures),
    )
