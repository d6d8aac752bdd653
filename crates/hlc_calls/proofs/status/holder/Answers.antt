-- A place that was passed is that of no such node.
use Rattle.std.proofs.{Common.◌∙◌, Common.sym, Common.arith, lemmas.Option.slice_get_within}
use Rattle.hlc_calls.proofs.Holders.{passed}
use Rattle.hlc_calls.proofs.status.holder.Goals as goal

pub loop-place-preserved : goal.loop-place-preserved
loop-place-preserved c =
    passed c.args.links.now c.args.floor c.loop-place.place c.index-links-place.result c.loop-place-test.true
    c.index-links-place.is (sym c.holds_back.ensures ∙ c.if-holds_back.false) c.loop-place.invariant

pub returns : goal.returns
returns c = λ place h.
    let lt = slice_get_within c.args.links.now place h.0 h.1 in
    c.loop-place.invariant place (omega (arith, lt, c.loop-place-test.false)) h
