-- The node stamps the message, which is appended to those that were sent.
use Rattle.std.proofs.Common.{◌≡◌, length, refl, sym, ◌∙◌, ap, arith, [], ◌∷◌}
use Rattle.std.proofs.lemmas.Option.{slice_get_read}
use Rattle.hlc_node.specs.Node.{expected_event, stamped}
use Rattle.hlc_world.proofs.Nodes.{put-back, sends, sends_not}
use Rattle.hlc_world.proofs.world.World.send.Goals as goal

pub returns-in-Err-clause-represents : goal.returns-in-Err-clause-represents
returns-in-Err-clause-represents c = λ nodes s h.
    let h' = rw (← c.self.view_is) at h in
    let lent = c.in-Some.ensures.item in
    let at = slice_get_read c.self.inside.nodes.items _ c.args.node c.in-Some.issuer.now refl lent.3.0 lent.1 in
    rw c.from.ensures (put-back nodes _ _ c.args.node c.in-Some.issuer.now at
    (sends_not nodes _ s c.args.node c.in-Some.issuer.now h' lent.3.0 at c.args.reading c.in-Err.fault
    (ap (λ node. expected_event node (node.last ∷ []) c.args.reading) (sym c.node-sender.ensures)
    ∙ c.in-Err.ensures.expected.0)))

pub returns-else-not-post-clause-represents : goal.returns-else-not-post-clause-represents
returns-else-not-post-clause-represents c = λ nodes s h.
    let h' = rw (← c.self.view_is) at h in
    let lent = c.in-Some.ensures.item in
    let at = slice_get_read c.self.inside.nodes.items _ c.args.node c.in-Some.issuer.now refl lent.3.0 lent.1 in
    let sender : c.node-sender.result ≡ c.in-Some.issuer.now.node = c.node-sender.ensures in
    let expected = c.in-Ok.ensures.expected in
    let many : c.len-message.result ≡ length c.self.inside.sent_stamps.items =
    omega (arith, c.len-message.ensures, c.self.inside.sent_stamps.ok.0) in
    rw (c.go_on.ensures, many)
    (sends nodes _ s c.args.node c.in-Some.issuer.now h' lent.3.0 at c.args.reading c.send.new.self c.in-Ok.sent.stamp
    c.post.new.stamps.items
    (ap (λ node. expected_event node (node.last ∷ []) c.args.reading) (sym sender) ∙ expected.0)
    (expected.2 ∙ ap (λ node. stamped node c.in-Ok.sent.stamp) sender)
    c.if-not-post.ensures)
