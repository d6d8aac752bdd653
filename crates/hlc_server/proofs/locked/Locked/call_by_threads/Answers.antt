-- What was under the lock is what the call had.
use Rattle.hlc_server.proofs.locked.Locked.call_by_threads.Goals as goal

pub returns-clause-locked : goal.returns-clause-locked
returns-clause-locked g c = record {
  old = c.args.self.now.guarded;
  new = c.call_by_threads.new.self;
  kept = c.args.self.now.kept;
  history = c.call_by_threads.ensures.history;
  called = c.call_by_threads.ensures.called;
}
