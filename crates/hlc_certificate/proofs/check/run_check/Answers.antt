-- What is printed is written when all is finished, and cut off where the writer failed.
use Rattle.std.proofs.{Common.refl, Common.rules, Common.arith, lemmas.Grind.common_steps}
use Rattle.hlc_text.proofs.PrintLemmas.{printed_finished}
use Rattle.hlc_certificate.proofs.Taken.{check_not_cut}
use Rattle.hlc_certificate.proofs.check.run_check.Goals as goal

pub returns-then-failed : goal.returns-then-failed
returns-then-failed g c =
    let answer = c.check_reader-end.ensures.answer in record {
      input = answer.0;
      taken = answer.1;
      end = c.check_reader-end.result;
      is_input = answer.2;
      consumed = answer.3;
      may_take = answer.4;
      may_answer = answer.5;
      wrote = printed_finished c.new-printer.ensures.start c.put_end.ensures c.finish.ensures (search rules);
      read_fault = c.check_reader-end.ensures.read_fault;
      end_is = λ e. absurd (grind (arith, common_steps, e));
      write_fault = (λ _. grind (arith, common_steps), λ _. refl);
    }

pub returns-else-failed : goal.returns-else-failed
returns-else-failed g c =
    let answer = c.check_reader-end.ensures.answer in record {
      input = answer.0;
      taken = answer.1;
      end = c.check_reader-end.result;
      is_input = answer.2;
      consumed = answer.3;
      may_take = answer.4;
      may_answer = answer.5;
      wrote = printed_finished c.new-printer.ensures.start c.put_end.ensures c.finish.ensures (search rules);
      read_fault = c.check_reader-end.ensures.read_fault;
      end_is = λ _. refl;
      write_fault = (
        λ e. absurd (check_not_cut answer.0 c.check_reader-end.result answer.5 e),
        λ e. absurd (grind (arith, common_steps, e)),
      );
    }
