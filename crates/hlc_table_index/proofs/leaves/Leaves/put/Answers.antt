-- The entry goes into the leaf, or into one of its two parts.
use Rattle.std.proofs.Common.{◌∙◌, ap, arith, [], length, get_or, length-take, length-drop}
use Rattle.std.{specs.List.insert, proofs.lemmas.Result.on_ok_weaker, proofs.lemmas.Result.on_err_weaker}
use Rattle.hlc_table_index.specs.Entries.{entries_in}
use Rattle.hlc_table_index.proofs.Joined.{joined_set, many, front_is, back_is, cut_same, cut_front, cut_back}
use Rattle.hlc_table_index.proofs.leaves.Leaves.put.Goals as goal

pub returns-then-len-lt-MAX_ENTRIES-clause-ok : goal.returns-then-len-lt-MAX_ENTRIES-clause-ok
returns-then-len-lt-MAX_ENTRIES-clause-ok g c =
    on_ok_weaker c.insert.result (λ e. ap entries_in e ∙ joined_set c.args.self.now c.args.at
    (insert (get_or c.args.self.now c.args.at []) c.args.slot c.args.entry) c.requires.leaf) c.insert.ensures.ok

pub insert-requires-then-slot-le-HALF-clause-inside : goal.insert-requires-then-slot-le-HALF-clause-inside
insert-requires-then-slot-le-HALF-clause-inside g c =
    let same = ap length (front_is c.args.self.now c.split.new.self c.args.at 64 c.requires.leaf c.in-Ok.ensures.ok) in
    omega (arith, length-take 64 (get_or c.args.self.now c.args.at []), c.if-slot-le-HALF.true, c.requires.inside)

pub overflow_add-at : goal.overflow_add-at
overflow_add-at g c =
    omega (arith, c.requires.leaf, c.len-known.ensures, c.len-known.type_inv)

pub insert-requires-else-slot-le-HALF-clause-leaf : goal.insert-requires-else-slot-le-HALF-clause-leaf
insert-requires-else-slot-le-HALF-clause-leaf g c =
    let lt = c.requires.leaf in
    omega (arith, many c.args.self.now c.split.new.self c.args.at 64 c.requires.leaf c.in-Ok.ensures.ok)

pub insert-requires-else-slot-le-HALF-clause-inside : goal.insert-requires-else-slot-le-HALF-clause-inside
insert-requires-else-slot-le-HALF-clause-inside g c =
    let same = ap length (back_is c.args.self.now c.split.new.self c.args.at 64 c.requires.leaf c.in-Ok.ensures.ok) in
    omega (arith, length-drop 64 (get_or c.args.self.now c.args.at []), c.requires.inside)

pub returns-then-slot-le-HALF-clause-ok : goal.returns-then-slot-le-HALF-clause-ok
returns-then-slot-le-HALF-clause-ok g c =
    on_ok_weaker c.insert-then-slot-le-HALF.result (λ e. ap entries_in e ∙ cut_front c.args.self.now c.split.new.self
    c.args.at 64 c.requires.leaf c.in-Ok.ensures.ok
    c.args.slot c.args.entry c.if-slot-le-HALF.true c.requires.inside) c.insert-then-slot-le-HALF.ensures.ok

pub returns-then-slot-le-HALF-clause-unchanged : goal.returns-then-slot-le-HALF-clause-unchanged
returns-then-slot-le-HALF-clause-unchanged g c =
    on_err_weaker c.insert-then-slot-le-HALF.result (λ e. ap entries_in e ∙ cut_same c.args.self.now c.split.new.self
    c.args.at 64 c.requires.leaf c.in-Ok.ensures.ok) c.insert-then-slot-le-HALF.ensures.unchanged

pub returns-else-slot-le-HALF-clause-ok : goal.returns-else-slot-le-HALF-clause-ok
returns-else-slot-le-HALF-clause-ok g c =
    let past = c.if-slot-le-HALF.false in
    let inside = c.requires.inside in
    on_ok_weaker c.insert-else-slot-le-HALF.result (λ e. ap entries_in e ∙ cut_back c.args.self.now c.split.new.self
    c.args.at 64 c.requires.leaf c.in-Ok.ensures.ok
    c.args.slot c.args.entry (omega (arith, past)) (omega (arith, past, inside))) c.insert-else-slot-le-HALF.ensures.ok

pub returns-else-slot-le-HALF-clause-unchanged : goal.returns-else-slot-le-HALF-clause-unchanged
returns-else-slot-le-HALF-clause-unchanged g c =
    on_err_weaker c.insert-else-slot-le-HALF.result (λ e. ap entries_in e ∙ cut_same c.args.self.now c.split.new.self
    c.args.at 64 c.requires.leaf c.in-Ok.ensures.ok) c.insert-else-slot-le-HALF.ensures.unchanged
