-- The digest is that of all bytes before it.
use Rattle.std.proofs.Common.{refl, ◌∙◌, ◌++◌, ap, List, ℕ, arith}
use Rattle.sha2.specs.Sha256.{sha256}
use Rattle.hlc_saved.proofs.Savers.{digest_made}
use Rattle.hlc_saved.proofs.savings.Saver.make_digest.Goals as goal

pub returns-clause-made : goal.returns-clause-made
returns-clause-made c = λ tag kept read next has.
    digest_made c.args.self.now _ tag kept read 32 c.requires.read c.requires.more refl refl refl refl refl next
    (λ front body put.
    c.in_ok-append_digest.ensures.ok front body put
    ∙ ap (λ (l : List ℕ). l ++ sha256 (front ++ body)) c.new-made.ensures.items) has

pub returns-clause-some : goal.returns-clause-some
returns-clause-some c =
    let long = c.in_ok-append_digest.ensures.long in
    (refl, omega (arith, long))
