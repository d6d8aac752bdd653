-- The item of the node that acts extends the run.
use Rattle.std.proofs.Common.{◌≡◌, ap, sym, ◌∙◌}
use Rattle.hlc_node.specs.{Node.NodeView, declared.item.Body.TheVariants.Write}
use Rattle.hlc_routing.specs.{Division.store_of, Machine.Issues, Machine.moved}
use Rattle.hlc_routing.proofs.Machines.{issue-goes_on}
use Rattle.hlc_routing.proofs.machine.Machine.write.Goals as goal

pub returns-in-Ok-clause-extends : goal.returns-in-Ok-clause-extends
returns-in-Ok-clause-extends c = λ layout run m legal h divided.
    let issues : Issues c.args.self.now c.put.new.self c.store_of-store.result (Write c.args.key c.args.value)
    c.args.reading c.in-Ok.item = record {
      node = c.in-Some.node;
      acts = sym c.acting.ensures ∙ c.in-Some.is;
      expected = c.in-Ok.ensures.expected.0;
      rises = c.in-Ok.ensures.rises;
      item_is = c.in-Ok.ensures.expected.1;
      new_is = c.put.ensures
          ∙ ap (λ (n : NodeView). moved c.args.self.now c.store_of-store.result n) c.in-Ok.ensures.expected.2;
    } in
    let routed : layout.store_of c.args.key ≡ c.store_of-store.result =
    divided c.args.key
    ∙ sym (c.store_of-store.ensures.value ∙ ap (store_of c.args.division.now) c.as_slice.ensures) in
    issue-goes_on layout run m c.args.self.now c.put.new.self c.store_of-store.result (Write c.args.key c.args.value)
    c.args.reading c.in-Ok.item legal h routed issues
