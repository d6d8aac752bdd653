-- The stamp of a node's next item in a storm: its reading is one above the last, so the counter starts at 0.
use Rattle.std.proofs.Common.{◌≡◌, ℕ, ◌+◌, ◌<◌, Option, Some, None, Ok, [], ◌∷◌, false, arith, ap, ◌∙◌}
use Rattle.std.proofs.lemmas.Bool.Decides.{nat_tests}
use Rattle.hlc_clock.specs.{Stamp.physical, NextStamp.next_stamp, NextStamp.is_carried, NextStamp.expected_stamp}
use Rattle.hlc_rows.specs.declared.limits.BodyFault.{BodyFault}
use Rattle.hlc_node.specs.Node.{issue_after}
use Rattle.hlc_storm.specs.Written.{stamp_at, after_writes}

next_is : (n : ℕ) → next_stamp (stamp_at n ∷ []) (n + 1) ≡ stamp_at (n + 1)
next_is n = omega arith

physical_of : (n : ℕ) → physical (stamp_at n) ≡ n
physical_of n = omega arith

not_carried : (n : ℕ) → is_carried (stamp_at n ∷ []) (n + 1) ≡ false
not_carried n =
    let here : physical (next_stamp (stamp_at n ∷ []) (n + 1)) ≡ n + 1 =
    ap physical (next_is n) ∙ physical_of (n + 1) in
    grind (arith, nat_tests, here)

expected : (n : ℕ) → n < 2000 → expected_stamp (stamp_at n ∷ []) (n + 1) ≡ Ok (stamp_at (n + 1))
expected n low = let carried = not_carried n in let next = next_is n in grind (arith, nat_tests, carried, next)

-- the stamp of an item of such a node, whatever its body
pub issued_at : (refusal : Option BodyFault) (node n stamp : ℕ) → n < 2000
    → issue_after refusal (after_writes node n) (n + 1) ≡ Ok stamp
    → stamp ≡ stamp_at (n + 1)
issued_at (Some fault) node n stamp low is = absurd (cc)
issued_at None node n stamp low is = let is_expected = expected n low in grind (arith, nat_tests, is_expected)
