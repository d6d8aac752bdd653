-- The sign, and then the digits.
use Rattle.std.proofs.Common.{[], ◌∷◌}
use Rattle.hlc_explain.{specs.Sentence.hex, proofs.Sentences.both_put}
use Rattle.hlc_explain.proofs.sentence.Sentence.put_escape.Goals as goal

pub returns : goal.returns
returns c = both_put c.args.self.now (37 ∷ []) (hex c.args.byte) c.put.ensures c.put_hex.ensures
