-- The body, the digest and the remaining bytes are split off the block in turn.
use Rattle.std.proofs.Common.{◌≡◌, Bool, ◌-◌, List, length, take, drop, ◌++◌, ℕ, ap, sym, subst, ◌∙◌, not}
use Rattle.sha2.specs.Hashers.{Holds256}
use Rattle.hlc_frame.proofs.RestLemmas.{more_after, not_empty, fed_body, fed_rest}
use Rattle.hlc_frame.proofs.rest.RestReader.feed.Goals as goal
use Rattle.hlc_frame.proofs.rest.RestReader.feed.Goals.{then-self, else-self}

pub returns-clause-read : goal.returns-clause-read
returns-clause-read c =
    let more : c.if-self.self ≡ more_after c.args.self.now.more c.fill-rest.result.now =
    elim c.if-self.branch [
      | then-self w ↦ w.self-is ∙ w.if-self.true
          ∙ sym (ap (λ (b : Bool). more_after b c.fill-rest.result.now) w.if-self.true)
      | else-self w ↦ w.self-is ∙ ap not w.is_empty.ensures ∙ not_empty (length c.fill-rest.result.now)
          ∙ sym (ap (λ (b : Bool). more_after b c.fill-rest.result.now) w.if-self.false)
    ] in
    λ front len bytes has.
    fed_rest c.args.self.now _ front len bytes c.args.block.now (record {
      hashed = λ text h. subst (λ (l : List ℕ). Holds256 c.update.new.self (text ++ l)) c.cut.ensures.front
          (c.update.ensures text h);
      left = ap (λ (l : List ℕ). c.args.self.now.left - length l) c.cut.ensures.front;
      digest = c.fill-rest.ensures.buffer
          ∙ ap (λ (l : List ℕ). take 32 (c.args.self.now.digest.items ++ l)) c.cut.ensures.back;
      more = more ∙ ap (λ (l : List ℕ). more_after c.args.self.now.more l)
          (c.fill-rest.ensures.rest ∙ ap (λ (l : List ℕ). drop
          (32 - length c.args.self.now.digest.items) l) c.cut.ensures.back);
    }) has

pub returns-clause-body : goal.returns-clause-body
returns-clause-body c =
    λ front len bytes has.
    ap (λ (l : List ℕ). take len bytes ++ l) c.cut.ensures.front
    ∙ fed_body c.args.self.now front len bytes c.args.block.now has
