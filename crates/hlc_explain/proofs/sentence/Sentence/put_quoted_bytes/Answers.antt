-- Each byte is put after those before it.
use Rattle.std.proofs.Common.{arith, rules}
use Rattle.hlc_explain.{specs.Sentence.quoted_byte, proofs.Sentences.next_written, proofs.Sentences.no_more}
use Rattle.hlc_explain.proofs.sentence.Sentence.put_quoted_bytes.Goals as goal

pub loop-byte-init : goal.loop-byte-init
loop-byte-init c = no_more c.args.self.now

pub loop-byte-preserved : goal.loop-byte-preserved
loop-byte-preserved c =
    next_written quoted_byte c.loop-byte.self c.args.self.now c.args.text.now c.put_quoted_byte.new.self
    c.loop-byte.byte-index (search (rules, arith)) c.loop-byte.invariant c.put_quoted_byte.ensures
