-- The next entry was accepted too.
use Rattle.std.proofs.Common.{rules}
use Rattle.hlc_calls.proofs.Entered.{entered_next, within_next}
use Rattle.hlc_calls.proofs.entries.enter_all.Goals as goal

pub loop-index-preserved : goal.loop-index-preserved
loop-index-preserved c = record {
  within = search rules;
  represents = λ past represents.
      entered_next c.enter-code.new.core c.args.entries.now c.args.bytes.now c.loop-index.index _
      past c.enter-code.result c.enter-code.new.returned (search rules) (search rules) (search rules)
      (c.enter-code.ensures.answer _ (c.loop-index.invariant.represents past represents));
  inside = λ past represents.
      within_next c.enter-code.new.core c.args.entries.now c.args.bytes.now c.loop-index.index _
      past c.enter-code.result c.enter-code.new.returned (search rules) (search rules) (search rules)
      (c.enter-code.ensures.answer _ (c.loop-index.invariant.represents past represents))
      (c.loop-index.invariant.inside past represents);
}
