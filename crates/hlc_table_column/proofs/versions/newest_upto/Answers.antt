-- One more row is not left, or the first that is, or newer than the best so far, or not.
use Rattle.std.proofs.{Common.Some, Common.sym, Common.subst, Common.◌∙◌, lemmas.Option.slice_get_within}
use Rattle.hlc_table_column.{specs.Versions.IsNewestLeft, proofs.versions.newest_upto.Goals.In-Some}
use Rattle.hlc_table_column.proofs.KeyLemmas.{at_place, one_found, one_newer, one_older}
use Rattle.hlc_table_column.proofs.versions.newest_upto.Goals as goal

-- the best so far
best_is : (c : In-Some) → IsNewestLeft c.args.from c.args.to c.args.last c.args.lanes.now c.args.place
    (Some c.in-Some.first)
best_is c = subst (IsNewestLeft c.args.from c.args.to c.args.last c.args.lanes.now c.args.place) c.in-Some.is
    c.requires.best

pub returns-in_default : goal.returns-in_default
returns-in_default c =
    let here = at_place c.args.lanes.now c.args.place c.requires.place in
    one_found c.args.from c.args.to c.args.last c.args.lanes.now c.args.place here.0 here.1
    (sym (c.is_left.ensures here.0 here.1) ∙ c.if-not-is_left.false)
    (subst (IsNewestLeft c.args.from c.args.to c.args.last c.args.lanes.now c.args.place) c.in_default.is
    c.requires.best)

pub is_older-requires-clause-place : goal.is_older-requires-clause-place
is_older-requires-clause-place c =
    let at = best_is c in slice_get_within c.args.lanes.now c.in-Some.first at.0 at.1

pub returns-then-is_older : goal.returns-then-is_older
returns-then-is_older c =
    let here = at_place c.args.lanes.now c.args.place c.requires.place in
    one_newer c.args.from c.args.to c.args.last c.args.lanes.now c.args.place here.0 here.1 c.in-Some.first
    (sym (c.is_left.ensures here.0 here.1) ∙ c.if-not-is_left.false)
    (λ cell is. sym (c.is_older.ensures cell here.0 is here.1) ∙ c.if-is_older.true)
    (subst (IsNewestLeft c.args.from c.args.to c.args.last c.args.lanes.now c.args.place) c.in-Some.is
    c.requires.best)

pub returns-else-is_older : goal.returns-else-is_older
returns-else-is_older c =
    let here = at_place c.args.lanes.now c.args.place c.requires.place in
    one_older c.args.from c.args.to c.args.last c.args.lanes.now c.args.place here.0 here.1 c.in-Some.first
    (λ cell is. sym (c.is_older.ensures cell here.0 is here.1) ∙ c.if-is_older.false)
    (subst (IsNewestLeft c.args.from c.args.to c.args.last c.args.lanes.now c.args.place) c.in-Some.is
    c.requires.best)
