-- A body and its digest, after a front.
use Rattle.std.proofs.Common.{◌≡◌, ℕ, true, cond, ltb, List, ◌++◌, length, take, drop, Result, Ok, Err, refl, ap, subst}
use Rattle.std.proofs.Common.{◌∙◌, append_assoc}
use Rattle.std.{specs.Prelude.bytes_eq, proofs.lemmas.Slice.Eq.bytes_eq-Decides, proofs.lemmas.Cmp.nat_list_eq_equiv}
use Rattle.sha2.specs.Sha256.{sha256}
use Rattle.sha2.proofs.Facts256.{length-sha256}
use Rattle.hlc_wire.specs.declared.fault.WireFault.{WireFault, TheVariants.Short, TheVariants.Damaged}
use Rattle.hlc_wire.specs.Reading.{◌>>=◌, bytes_at}
use Rattle.hlc_wire.proofs.FieldLemmas.{bind_ok, bytes_reader, guard_ok, guard_ended, IsBytes, Takes, Takes-then}
use Rattle.hlc_frame.specs.Opening.{sealed_at}

-- bytes that were read are the first ones
bytes_front : (n : ℕ) (bytes : List ℕ) (x : List ℕ × List ℕ) → bytes_at n bytes ≡ Ok x → take n bytes ≡ x.0
bytes_front n bytes x e =
    ap (λ (p : List ℕ × List ℕ). p.0) (guard_ok (ltb (length bytes) n) Short (take n bytes, drop n bytes) x e).1

abbrev checked : List ℕ → List ℕ → List ℕ × List ℕ → Result (List ℕ × List ℕ) WireFault
checked front body digest = cond (bytes_eq digest.0 (sha256 (front ++ body))) (Ok (body, digest.1)) (Err Damaged)

-- the parts of a body and its digest that were read
record Parts (front : List ℕ) (len : ℕ) (bytes : List ℕ) (x : List ℕ × List ℕ) : Type 0 where
  body : List ℕ × List ℕ
  digest : List ℕ × List ℕ
  body_is : bytes_at len bytes ≡ Ok body
  digest_is : bytes_at 32 body.1 ≡ Ok digest
  same : digest.0 ≡ sha256 (front ++ body.0)
  found_is : (body.0, digest.1) ≡ x

sealed_parts : (front : List ℕ) (len : ℕ) (bytes : List ℕ) (x : List ℕ × List ℕ) → sealed_at front len bytes ≡ Ok x
    → Parts front len bytes x
unfolding sealed_at
sealed_parts front len bytes x e =
    let a = bind_ok (bytes_at len bytes) (λ body. bytes_at 32 body.1 >>= checked front body.0) x e in
    let b = bind_ok (bytes_at 32 a.0.1) (checked front a.0.0) x a.2 in
    let g = guard_ended (bytes_eq b.0.0 (sha256 (front ++ a.0.0))) Damaged (a.0.0, b.0.1) x b.2 in
    record {
      body = a.0;
      digest = b.0;
      body_is = a.1;
      digest_is = b.1;
      same = (bytes_eq-Decides b.0.0 (sha256 (front ++ a.0.0))).0 g.0;
      found_is = g.1;
    }

-- the body that was read
pub sealed_body : (front : List ℕ) (len : ℕ) (bytes : List ℕ) (x : List ℕ × List ℕ) → sealed_at front len bytes ≡ Ok x
    → take len bytes ≡ x.0
sealed_body front len bytes x e =
    let p = sealed_parts front len bytes x e in
    bytes_front len bytes p.body p.body_is ∙ ap (λ (y : List ℕ × List ℕ). y.0) p.found_is

pub sealed_takes : (front : List ℕ) (len : ℕ) (bytes : List ℕ) (x : List ℕ × List ℕ) → IsBytes bytes
    → sealed_at front len bytes ≡ Ok x → Takes bytes (x.0 ++ sha256 (front ++ x.0)) x.1 × (length x.0 ≡ len)
sealed_takes front len bytes x fits e =
    let p = sealed_parts front len bytes x e in
    let t = (bytes_reader len).takes bytes p.body fits p.body_is in
    let u = (bytes_reader 32).takes p.body.1 p.digest t.0.rest_fits p.digest_is in
    let both = Takes-then bytes p.body.0 p.body.1 p.digest.0 p.digest.1 t.0 u.0 in
    subst (λ (y : List ℕ × List ℕ). Takes bytes (y.0 ++ sha256 (front ++ y.0)) y.1 × (length y.0 ≡ len)) p.found_is
    (subst (λ (d : List ℕ). Takes bytes (p.body.0 ++ d) p.digest.1) p.same both, t.1)

pub sealed_again : (front body rest : List ℕ)
    → sealed_at front (length body) ((body ++ sha256 (front ++ body)) ++ rest) ≡ Ok (body, rest)
unfolding sealed_at
sealed_again front body rest =
    let digest : List ℕ = sha256 (front ++ body) in
    let same : bytes_eq digest digest ≡ true = nat_list_eq_equiv.refl digest in
    ap (λ (l : List ℕ). bytes_at (length body) l >>= λ b. bytes_at 32 b.1 >>= checked front b.0)
    (append_assoc body digest rest)
    ∙ rw (
      (bytes_reader (length body)).again body (digest ++ rest) refl,
      (bytes_reader 32).again digest rest (length-sha256 (front ++ body)),
      same,
    ) refl
