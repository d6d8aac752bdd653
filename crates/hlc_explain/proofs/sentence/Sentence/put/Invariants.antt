-- The bytes so far are put.
use Rattle.std.proofs.Common.{◌≡◌, take}
use Rattle.hlc_explain.specs.Sentence.{with_bytes}
use Rattle.hlc_explain.proofs.sentence.Sentence.put.Given as goal

abbrev pub invariant-loop-byte : goal.invariant-loop-byte
invariant-loop-byte l = l.self ≡ with_bytes l.initial.self (take l.byte-index l.text)
