-- The session had no receipts before its rounds.
use Rattle.std.proofs.Common.{◌++◌, ◌∙◌, ap}
use Rattle.hlc_workers.proofs.Works.{begun_all}
use Rattle.hlc_workers.proofs.reading.serve_reader.Goals as goal

pub returns-clause-begun : goal.returns-clause-begun
returns-clause-begun g c =
    let e = c.make_rounds.ensures.made in
    begun_all c.args.keys.now c.args.rounds c.args.pass c.make_rounds.new.pass _ e.0 c.make_rounds.result _
    (e.1.receipts ∙ ap (λ l. l ++ e.0) c.new-session.ensures.none) e.2
