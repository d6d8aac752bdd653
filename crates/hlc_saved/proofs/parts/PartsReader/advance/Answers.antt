-- The bytes that were read are no longer pending.
use Rattle.std.proofs.Common.{◌++◌, ◌-◌, arith, ℕ, List, drop, length, ap, sym, subst, ◌∙◌, ◌≡◌, OnOk}
use Rattle.hlc_saved.{specs.Blocks.Leaves, specs.Blocks.IsStuck, proofs.Blocks.pending_back}
use Rattle.hlc_saved.proofs.parts.PartsReader.advance.Goals as goal

pub returns-clause-same : goal.returns-clause-same
returns-clause-same c = λ read has.
    let unread = c.bytes_from.ensures ∙ ap (drop c.args.self.now.at) c.as_slice.ensures.value in
    let len : c.len.result ≡ length c.args.self.now.pending.items = omega arith in
    let rest : ℕ = length c.advance-stage.result.rest.now in
    subst (λ (bytes : List ℕ). Leaves c.advance-stage.result.stage bytes read)
    (sym (ap (λ (n : ℕ). drop (n - rest) c.args.self.now.pending.items) len
    ∙ pending_back c.args.self.now.pending.items c.args.self.now.at c.advance-stage.result.rest.now
    (subst (λ (bytes : List ℕ). (front : List ℕ) × (bytes ≡ front ++ c.advance-stage.result.rest.now)) unread
    c.advance-stage.ensures.back)))
    (c.advance-stage.ensures.same read
    (subst (λ (bytes : List ℕ). Leaves c.replace-stage.result bytes read) (sym unread)
    (subst (λ s. Leaves s (drop c.args.self.now.at c.args.self.now.pending.items) read)
    (sym c.replace-stage.ensures.value) has)))

pub returns-clause-stuck : goal.returns-clause-stuck
returns-clause-stuck c =
    let unread = c.bytes_from.ensures ∙ ap (drop c.args.self.now.at) c.as_slice.ensures.value in
    let len : c.len.result ≡ length c.args.self.now.pending.items = omega arith in
    let rest : ℕ = length c.advance-stage.result.rest.now in
    subst (λ (bytes : List ℕ). OnOk c.advance-stage.result.end (IsStuck c.advance-stage.result.stage bytes))
    (sym (ap (λ (n : ℕ). drop (n - rest) c.args.self.now.pending.items) len
    ∙ pending_back c.args.self.now.pending.items c.args.self.now.at c.advance-stage.result.rest.now
    (subst (λ (bytes : List ℕ). (front : List ℕ) × (bytes ≡ front ++ c.advance-stage.result.rest.now)) unread
    c.advance-stage.ensures.back)))
    c.advance-stage.ensures.stuck
