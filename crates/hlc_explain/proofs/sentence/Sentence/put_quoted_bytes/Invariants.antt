-- The bytes so far are put.
use Rattle.std.{proofs.Common.◌≡◌, proofs.Common.take, specs.List.flat_map}
use Rattle.hlc_explain.specs.Sentence.{with_bytes, quoted_byte}
use Rattle.hlc_explain.proofs.sentence.Sentence.put_quoted_bytes.Given as goal

abbrev pub invariant-loop-byte : goal.invariant-loop-byte
invariant-loop-byte l = l.self ≡ with_bytes l.initial.self (flat_map quoted_byte (take l.byte-index l.text))
