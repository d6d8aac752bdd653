-- Each exit is the result of reading all of the bytes.
use Rattle.std.proofs.Common.{◌++◌, ℕ, Bool, List, length, take, ap, sym, ◌∙◌, true, false, arith, bytes_eq}
use Rattle.sha2.specs.Sha256.{sha256}
use Rattle.hlc_frame.proofs.RestLemmas.{says, no_body, no_digest, with_digest}
use Rattle.hlc_frame.proofs.rest.RestReader.finish.Goals.{then-left-gt0-via-then-left-gt0}
use Rattle.hlc_frame.proofs.rest.RestReader.finish.Goals.{then-left-gt0-via-else-left-gt0+then-found-lt-DIGEST_BYTES}
use Rattle.hlc_frame.proofs.rest.RestReader.finish.Goals as goal

pub returns-then-left-gt0 : goal.returns-then-left-gt0
returns-then-left-gt0 c = λ front len bytes has.
    elim c.then-left-gt0.branch [
      | then-left-gt0-via-then-left-gt0 w ↦ no_body c.args.self front len bytes c.args.tag has (omega arith)
      | then-left-gt0-via-else-left-gt0+then-found-lt-DIGEST_BYTES w ↦
          let items = ap length c.as_slice-found.ensures.value in
          no_digest c.args.self front len bytes c.args.tag has (omega arith) (omega (arith, items))
    ]

pub returns-then-not-is_digest : goal.returns-then-not-is_digest
returns-then-not-is_digest c = λ front len bytes has.
    let items = ap length c.as_slice-found.ensures.value in
    with_digest c.args.self front len bytes c.args.tag false has (omega arith) (omega (arith, items))
    (sym c.if-not-is_digest.true ∙ c.is_digest.ensures (front ++ take len bytes) has.hashed
    ∙ ap (λ (l : List ℕ). bytes_eq l (sha256 (front ++ take len bytes))) c.as_slice-found.ensures.value)

pub returns-then-more : goal.returns-then-more
returns-then-more c = λ front len bytes has.
    let items = ap length c.as_slice-found.ensures.value in
    ap (λ (b : Bool). says true b c.args.tag) (sym c.if-more.true)
    ∙ with_digest c.args.self front len bytes c.args.tag true has (omega arith) (omega (arith, items))
    (sym c.if-not-is_digest.false ∙ c.is_digest.ensures (front ++ take len bytes) has.hashed
    ∙ ap (λ (l : List ℕ). bytes_eq l (sha256 (front ++ take len bytes))) c.as_slice-found.ensures.value)

pub returns : goal.returns
returns c = λ front len bytes has.
    let items = ap length c.as_slice-found.ensures.value in
    ap (λ (b : Bool). says true b c.args.tag) (sym c.if-more.false)
    ∙ with_digest c.args.self front len bytes c.args.tag true has (omega arith) (omega (arith, items))
    (sym c.if-not-is_digest.false ∙ c.is_digest.ensures (front ++ take len bytes) has.hashed
    ∙ ap (λ (l : List ℕ). bytes_eq l (sha256 (front ++ take len bytes))) c.as_slice-found.ensures.value)
