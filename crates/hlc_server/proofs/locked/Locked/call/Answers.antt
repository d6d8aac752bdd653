-- What was under the lock is what the call had.
use Rattle.hlc_server.proofs.locked.Locked.call.Goals as goal

pub returns-clause-locked : goal.returns-clause-locked
returns-clause-locked g c = record {
  old = c.args.self.now.guarded;
  new = c.call.new.self;
  kept = c.args.self.now.kept;
  history = c.call.ensures.history;
  called = c.call.ensures.called;
}
