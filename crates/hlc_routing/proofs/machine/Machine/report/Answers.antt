-- The item of the node that acts extends the run.
use Rattle.std.proofs.Common.{ap, sym, ◌∙◌}
use Rattle.hlc_node.specs.{Node.NodeView, declared.item.Body.TheVariants.Report}
use Rattle.hlc_routing.{specs.Machine.Issues, specs.Machine.moved, proofs.Machines.issue-goes_on}
use Rattle.hlc_routing.proofs.machine.Machine.report.Goals as goal

pub returns-in-Ok-clause-extends : goal.returns-in-Ok-clause-extends
returns-in-Ok-clause-extends c = λ layout run m legal h.
    let issues : Issues c.args.self.now c.put.new.self c.args.store Report c.args.reading c.in-Ok.item = record {
      node = c.in-Some.node;
      acts = sym c.acting.ensures ∙ c.in-Some.is;
      expected = c.in-Ok.ensures.expected.0;
      rises = c.in-Ok.ensures.rises;
      item_is = c.in-Ok.ensures.expected.1;
      new_is = c.put.ensures
          ∙ ap (λ (n : NodeView). moved c.args.self.now c.args.store n) c.in-Ok.ensures.expected.2;
    } in
    issue-goes_on layout run m c.args.self.now c.put.new.self c.args.store Report c.args.reading c.in-Ok.item legal h tt
    issues
