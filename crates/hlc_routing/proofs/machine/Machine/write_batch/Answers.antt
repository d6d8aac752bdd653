-- The item of the node that acts extends the run: each of its keys is in the store.
use Rattle.std.proofs.{Common.◌≡◌, Common.All, Common.ap, Common.sym, Common.◌∙◌, lemmas.List.Elements.All-weaker}
use Rattle.hlc_rows.specs.declared.write.Write.{Write}
use Rattle.hlc_node.specs.{Node.NodeView, declared.item.Body.TheVariants.Batch}
use Rattle.hlc_routing.specs.{Division.store_of, Machine.Issues, Machine.moved}
use Rattle.hlc_routing.proofs.Machines.{issue-goes_on}
use Rattle.hlc_routing.proofs.machine.Machine.write_batch.Goals as goal

pub returns-in-Ok-write_batch-clause-extends : goal.returns-in-Ok-write_batch-clause-extends
returns-in-Ok-write_batch-clause-extends c = λ layout run m legal h divided.
    let issues : Issues c.args.self.now c.put.new.self c.in-Ok.store (Batch c.args.writes) c.args.reading
    c.in-Ok-write_batch.item = record {
      node = c.in-Some.node;
      acts = sym c.acting.ensures ∙ c.in-Some.is;
      expected = c.in-Ok-write_batch.ensures.expected.0;
      rises = c.in-Ok-write_batch.ensures.rises;
      item_is = c.in-Ok-write_batch.ensures.expected.1;
      new_is = c.put.ensures
          ∙ ap (λ (n : NodeView). moved c.args.self.now c.in-Ok.store n) c.in-Ok-write_batch.ensures.expected.2;
    } in
    let here : All (λ (write : Write). store_of c.args.division.now write.key ≡ c.in-Ok.store) c.args.writes =
    rw (← c.as_slice.ensures) c.in-Ok.ensures.1 in
    let routed : All (λ (write : Write). layout.store_of write.key ≡ c.in-Ok.store) c.args.writes =
    All-weaker (λ write. store_of c.args.division.now write.key ≡ c.in-Ok.store)
    (λ write. layout.store_of write.key ≡ c.in-Ok.store) (λ write at. divided write.key ∙ at) c.args.writes here in
    issue-goes_on layout run m c.args.self.now c.put.new.self c.in-Ok.store (Batch c.args.writes) c.args.reading
    c.in-Ok-write_batch.item legal h routed issues
