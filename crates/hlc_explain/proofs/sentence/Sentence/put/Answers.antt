-- Each byte is put after those before it.
use Rattle.std.proofs.Common.{arith, rules}
use Rattle.hlc_explain.proofs.Sentences.{next_byte, no_more}
use Rattle.hlc_explain.proofs.sentence.Sentence.put.Goals as goal

pub loop-byte-init : goal.loop-byte-init
loop-byte-init c = no_more c.args.self.now

pub loop-byte-preserved : goal.loop-byte-preserved
loop-byte-preserved c =
    next_byte c.loop-byte.self c.args.self.now c.args.text.now c.put_byte.new.self c.loop-byte.byte-index
    (search (rules, arith)) c.loop-byte.invariant c.put_byte.ensures
