-- If neighbours are in order, the rows are in order.
use Rattle.std.proofs.Common.{true≢false, sym, arith}
use Rattle.hlc_checkpoint.proofs.AscendLemmas.{from-neighbours}
use Rattle.hlc_checkpoint.proofs.row_ref.do_ascend.Goals as goal

pub returns-then-not-is_lt : goal.returns-then-not-is_lt
returns-then-not-is_lt c = λ h. absurd (true≢false (sym h))

pub returns : goal.returns
returns c = λ _. from-neighbours c.args.rows.now (λ k d l. c.loop-i.invariant k d (omega arith))
