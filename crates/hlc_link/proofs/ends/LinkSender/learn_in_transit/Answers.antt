-- A pass that may do nothing temporarily replaces the receiver's, which the sender's absorbs. The sender's is then
-- both, knows the content of the link, and is split into two again.
use Rattle.std.proofs.Common.{◌∙◌, ap}
use Rattle.crossbeam_channel.specs.Claims.{Pass, view}
use Rattle.hlc_link.specs.declared.rule.{Hand.Hand, Parcel.Parcel}
use Rattle.hlc_link.proofs.Keeps.{spares, merges, learns, cuts}
use Rattle.hlc_link.proofs.ends.LinkSender.learn_in_transit.Goals as goal

pub another-spare-requires-clause-rule : goal.another-spare-requires-clause-rule
another-spare-requires-clause-rule c = spares _ _

pub absorb-requires-clause-rule : goal.absorb-requires-clause-rule
absorb-requires-clause-rule c =
    merges _ _ _ _
    (ap (λ (v : Hand). v.puts) (c.another-spare.ensures.rule.0 ∙ c.self.invariant.1))
    (ap (λ (p : Pass Parcel Hand). (view p).takes) c.replace-theirs.ensures.value
    ∙ ap (λ (v : Hand). v.takes) c.receiver.invariant.1)

pub learn_as-requires-clause-rule : goal.learn_as-requires-clause-rule
learn_as-requires-clause-rule c =
    learns _ _
    (ap (λ (v : Hand). v.puts) c.absorb.ensures.rule
    ∙ ap (λ (v : Hand). v.puts) (c.another-spare.ensures.rule.0 ∙ c.self.invariant.1))
    (ap (λ (v : Hand). v.takes) c.absorb.ensures.rule
    ∙ ap (λ (p : Pass Parcel Hand). (view p).takes) c.replace-theirs.ensures.value
    ∙ ap (λ (v : Hand). v.takes) c.receiver.invariant.1)

pub another-requires-clause-rule : goal.another-requires-clause-rule
another-requires-clause-rule c =
    cuts _ _
    (ap (λ (v : Hand). v.puts) (c.learn_as.ensures.channel.2 ∙ c.absorb.ensures.rule)
    ∙ ap (λ (v : Hand). v.puts) (c.another-spare.ensures.rule.0 ∙ c.self.invariant.1))
    (ap (λ (v : Hand). v.takes) (c.learn_as.ensures.channel.2 ∙ c.absorb.ensures.rule)
    ∙ ap (λ (p : Pass Parcel Hand). (view p).takes) c.replace-theirs.ensures.value
    ∙ ap (λ (v : Hand). v.takes) c.receiver.invariant.1)
