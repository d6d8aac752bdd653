-- The marks stand round the bytes, and the stops behind them where there are more.
use Rattle.std.proofs.Common.{arith}
use Rattle.hlc_explain.proofs.Sentences.{short_quoted, long_quoted}
use Rattle.hlc_explain.proofs.sentence.Sentence.put_quoted.Goals as goal

pub returns-then-count-text : goal.returns-then-count-text
returns-then-count-text c =
    long_quoted c.args.self.now c.args.text.now c.put.new.self c.put_quoted_bytes.new.self c.put-2.new.self
    c.put-then-count-text.new.self c.min-count.result (omega (arith, c.min-count.ensures)) c.put.ensures
    c.put_quoted_bytes.ensures c.put-2.ensures (omega (arith, c.min-count.ensures, c.if-count-text.true))
    c.put-then-count-text.ensures

pub returns-else-count-text : goal.returns-else-count-text
returns-else-count-text c =
    short_quoted c.args.self.now c.args.text.now c.put.new.self c.put_quoted_bytes.new.self c.put-2.new.self
    c.min-count.result (omega (arith, c.min-count.ensures)) c.put.ensures c.put_quoted_bytes.ensures
    c.put-2.ensures (omega (arith, c.min-count.ensures, c.if-count-text.false))
