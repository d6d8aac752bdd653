-- One bit of one word is set.
use Rattle.std.proofs.Common.{◌+◌, ◌<◌, ◌/◌, ◌%◌, ◌*◌, ◌^◌, ◌∙◌, ℕ, ap, arith, length, length-set, bit_or}
use Rattle.hlc_table_flags.proofs.{BitLemmas.bits_length, list.FlagList.set_after.Goals.After-self}
use Rattle.hlc_table_flags.proofs.WordLemmas.{set_word, set_none, set_flag}
use Rattle.hlc_table_flags.proofs.list.FlagList.set_after.Goals as goal

-- the position
abbrev at : After-self → ℕ
at c = c.args.from + c.args.place

below : (c : After-self) → at c < c.self.inside.len
below c =
    omega (arith, bits_length c.self.inside.words.items 0 c.self.inside.len, ap length c.self.view_is, c.requires)

-- its word
inside : (c : After-self) → at c / 64 < length c.self.inside.words.items
inside c = let lt = below c in let many = c.self.invariant.0 in omega (arith, lt, many)

pub overflow_add-at : goal.overflow_add-at
overflow_add-at c =
    omega (arith, below ((goal.at.overflow_add-at c).After-self), c.self.ranges)

pub index_mut-requires : goal.index_mut-requires
index_mut-requires c =
    omega (arith, inside ((goal.at.index_mut-requires c).After-self), c.self.invariant.0)

-- no bit from the end on is set, since this one is before it
pub invariant_of-self : goal.invariant_of-self
invariant_of-self c =
    let self = (goal.at.invariant_of-self c).After-self in
    let words = c.self.inside.words.items in
    let word = c.index_mut.result.now in (
      length-set words (at self / 64) (bit_or word (1 * 2 ^ (at self % 64) % 2 ^ 64)) ∙ c.self.invariant.0,
      set_none words _ (at self) c.self.inside.len
          (set_word words word (at self) c.index_mut.ensures.value (inside self)) (inside self) (below self)
          c.self.invariant.1,
    )

pub returns : goal.returns
returns c =
    let self = (goal.at.returns c).After-self in
    let words = c.self.inside.words.items in
    set_flag words _ (at self) c.self.inside.len c.args.self.now
    (set_word words c.index_mut.result.now (at self) c.index_mut.ensures.value (inside self)) (inside self)
    (below self) c.self.view_is
