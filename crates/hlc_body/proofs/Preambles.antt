-- The parts of a preamble, one after another, are all of it.
use Rattle.std.proofs.Common.{◌≡◌, ℕ, List, ◌++◌, ap, ◌∙◌, append_assoc}
use Rattle.std.specs.Int.{w16, w64, to_be_bytes}
use Rattle.hlc_body.specs.Spelling.{link_bytes, snapshot_bytes, list_bytes, Preamble, preamble_bytes}

-- one part after the others
after : (old now part more : List ℕ) → now ≡ old ++ part → now ++ more ≡ old ++ (part ++ more)
after old now part more is = ap (λ (x : List ℕ). x ++ more) is ∙ append_assoc old part more

pub preamble_spelled : (p : Preamble) (o a b c d e f : List ℕ) → a ≡ o ++ to_be_bytes w16 p.initial_nodes
    → b ≡ a ++ list_bytes w16 link_bytes p.links → c ≡ b ++ list_bytes w16 snapshot_bytes p.snapshots
    → d ≡ c ++ to_be_bytes w64 p.last_id → e ≡ d ++ to_be_bytes w64 p.horizon
    → f ≡ e ++ to_be_bytes w64 p.count → f ≡ o ++ preamble_bytes p
preamble_spelled p o a b c d e f is1 is2 is3 is4 is5 is6 =
    let x6 : List ℕ = to_be_bytes w64 p.count in
    let x5 : List ℕ = to_be_bytes w64 p.horizon ++ x6 in
    let x4 : List ℕ = to_be_bytes w64 p.last_id ++ x5 in
    let x3 : List ℕ = list_bytes w16 snapshot_bytes p.snapshots ++ x4 in
    let x2 : List ℕ = list_bytes w16 link_bytes p.links ++ x3 in
    is6 ∙ after d e (to_be_bytes w64 p.horizon) x6 is5 ∙ after c d (to_be_bytes w64 p.last_id) x5 is4
    ∙ after b c (list_bytes w16 snapshot_bytes p.snapshots) x4 is3
    ∙ after a b (list_bytes w16 link_bytes p.links) x3 is2 ∙ after o a (to_be_bytes w16 p.initial_nodes) x2 is1
