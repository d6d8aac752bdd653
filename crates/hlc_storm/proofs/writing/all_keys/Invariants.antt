-- The keys so far are there.
use Rattle.std.{proofs.Common.◌≡◌, proofs.Common.map, specs.List.range_with_len}
use Rattle.hlc_storm.specs.Written.{key_text}
use Rattle.hlc_storm.proofs.writing.all_keys.Given as goal

abbrev pub invariant-loop-number : goal.invariant-loop-number
invariant-loop-number l = l.keys.items ≡ map key_text (range_with_len 0 l.number)
