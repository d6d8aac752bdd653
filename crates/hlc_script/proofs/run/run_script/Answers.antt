-- What is printed is written when all is finished, and cut off where the writer failed.
use Rattle.std.proofs.{Common.refl, Common.rules, Common.arith, lemmas.Grind.common_steps}
use Rattle.hlc_text.proofs.PrintLemmas.{printed_finished}
use Rattle.hlc_script.proofs.Taken.{run_not_cut}
use Rattle.hlc_script.proofs.run.run_script.Goals as goal

pub returns-then-failed : goal.returns-then-failed
returns-then-failed g c =
    let w = c.read_and_answer-end.ensures.written in record {
      input = w.input;
      taken = w.taken;
      output = w.output;
      end = c.read_and_answer-end.result;
      is_input = w.is_input;
      consumed = w.consumed;
      may_take = w.may_take;
      may_write = w.may_write;
      wrote = printed_finished c.new-printer.ensures.start w.prints c.finish.ensures (search rules);
      read_fault = c.read_and_answer-end.ensures.read_fault;
      end_is = λ e. absurd (grind (arith, common_steps, e));
      write_fault = (λ _. grind (arith, common_steps), λ _. refl);
    }

pub returns-else-failed : goal.returns-else-failed
returns-else-failed g c =
    let w = c.read_and_answer-end.ensures.written in record {
      input = w.input;
      taken = w.taken;
      output = w.output;
      end = c.read_and_answer-end.result;
      is_input = w.is_input;
      consumed = w.consumed;
      may_take = w.may_take;
      may_write = w.may_write;
      wrote = printed_finished c.new-printer.ensures.start w.prints c.finish.ensures (search rules);
      read_fault = c.read_and_answer-end.ensures.read_fault;
      end_is = λ _. refl;
      write_fault = (
        λ e. absurd (run_not_cut w.input w.output c.read_and_answer-end.result w.may_write e),
        λ e. absurd (grind (arith, common_steps, e)),
      );
    }
