-- One more was not closed; and at the end none was.
use Rattle.std.proofs.Common.{All, arith, refl, subst}
use Rattle.std.proofs.lemmas.List.{take_all, Elements.All-more}
use Rattle.hlc_increment.specs.Increment.{IsOpenOrNew}
use Rattle.hlc_increment.proofs.later.are_open_or_new.Goals as goal

pub loop-snapshot-preserved : goal.loop-snapshot-preserved
loop-snapshot-preserved c =
    All-more (IsOpenOrNew c.args.older.now) c.args.snapshots.now c.loop-snapshot.snapshot-index
    c.snapshot-item.result c.loop-snapshot-test.true c.loop-snapshot.invariant
    (subst (IsOpenOrNew c.args.older.now) c.snapshot-item.is
    (c.is_open_or_new.ensures.0 c.if-not-is_open_or_new.false))

pub returns : goal.returns
returns c = (
  λ _. subst (All (IsOpenOrNew c.args.older.now))
      (take_all c.loop-snapshot.snapshot-index c.args.snapshots.now (omega arith)) c.loop-snapshot.invariant,
  λ _. refl,
)
