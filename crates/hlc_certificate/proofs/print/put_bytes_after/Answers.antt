-- A slice of bytes contains bytes.
use Rattle.std.proofs.Common.{ℕ, ◌<◌, arith}
use Rattle.std.proofs.lemmas.List.Elements.{All-from_get_or, recursion_from_All}
use Rattle.hlc_certificate.proofs.print.put_bytes_after.Goals as goal

pub returns-clause-fits : goal.returns-clause-fits
returns-clause-fits g c =
    let small : (byte : ℕ) → Type 0 = λ byte. byte < 256 in
    let each = All-from_get_or small c.args.bytes.now 0 (λ i within. omega (arith, c.type_inv.bytes i)) in
    recursion_from_All small c.args.bytes.now each
