-- All items taken so far were passed to the store, and the board is raised with those that were accepted, where there
-- is a feeder.
use Rattle.std.{proofs.Common.◌≡◌, proofs.Common.None, specs.Option.option_map}
use Rattle.hlc_workers.specs.{Paid.IsPaid, Paid.Passed, Feeding.TookAll, Feeding.fed_all}
use Rattle.hlc_workers.proofs.feeding.feed.Given as goal

abbrev pub invariant-loop : goal.invariant-loop
invariant-loop g l = record {
  gate : l.session.gate.now ≡ l.gate;
  paid : IsPaid l.fn.caller l.session.work.caller l.session.work.receipts.items;
  passed : Passed (g.G.Gate.may_answer l.gate) 0 l.session.work.receipts.items;
  link : l.link.link ≡ l.fn.link.link;
  took : TookAll l.fn.link.taken l.link.taken l.session.work.receipts.items None;
  raised : l.feeder ≡ option_map (λ feeder. fed_all feeder l.session.work.receipts.items) l.fn.feeder;
}
