-- Each store so far has its report.
use Rattle.std.proofs.Common.{◌≡◌, ◌≤◌, length, vec_capacity}
use Rattle.hlc_routing.specs.Machine.{Reports}
use Rattle.hlc_routing.proofs.machine.Machine.report_each.Given as goal

abbrev pub invariant-loop-store : goal.invariant-loop-store
invariant-loop-store l = record {
  many : length l.items.items ≡ l.store;
  room : l.stores ≤ vec_capacity l.items;
  same : length l.self.nodes ≡ l.stores;
  all' : length l.initial.self.nodes ≡ l.stores;
  reports : Reports l.initial.self l.reading l.self l.items.items;
}
