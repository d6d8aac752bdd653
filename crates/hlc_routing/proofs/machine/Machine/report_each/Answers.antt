-- One report after another.
use Rattle.std.proofs.Common.{◌≡◌, ◌+◌, length, ap, sym, ◌∙◌, subst, arith, length-append, length-set}
use Rattle.hlc_node.specs.declared.item.Body.TheVariants.{Report}
use Rattle.hlc_routing.specs.Machine.{MachineView, Reports, Issues, none, one}
use Rattle.hlc_routing.proofs.machine.Machine.report_each.Goals as goal

pub loop-store-init : goal.loop-store-init
loop-store-init c =
    let e : length c.self.inside.nodes.items ≡ length c.args.self.now.nodes =
    ap (λ (v : MachineView). length v.nodes) c.self.view_is in
    let same' : length c.args.self.now.nodes ≡ c.len-stores.result =
    omega (arith, e, c.len-stores.ensures, c.self.inside.nodes.ok.0) in
    record {
      many = ap length c.requires.empty;
      room = omega (arith, same', c.requires.room);
      same = same';
      all' = same';
      reports = subst (λ xs. Reports c.args.self.now c.args.reading c.args.self.now xs) (sym c.requires.empty) none;
    }

pub loop-store-preserved : goal.loop-store-preserved
loop-store-preserved c = record {
  many = rw (c.push_reserved.ensures.items, length-append) (ap (λ n. n + 1) c.loop-store.invariant.many);
  room = omega (arith, c.push_reserved.ensures.capacity, c.loop-store.invariant.room);
  same = ap (λ (v : MachineView). length v.nodes) c.in-Ok.ensures.ok.new_is ∙ length-set c.loop-store.self.nodes _ _
      ∙ c.loop-store.invariant.same;
  all' = c.loop-store.invariant.all';
  reports = rw c.push_reserved.ensures.items
      (one c.in-Ok.item c.loop-store.invariant.reports
      (subst (λ k. Issues c.loop-store.self c.report.new.self k Report c.args.reading c.in-Ok.item)
      (sym c.loop-store.invariant.many) c.in-Ok.ensures.ok));
}
