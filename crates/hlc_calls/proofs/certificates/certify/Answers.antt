-- The report certifies the rows that are listed, so a check of the text accepts them; or memory ran out for the text.
use Rattle.std.proofs.Common.{refl, sym, subst, inr}
use Rattle.hlc_events.specs.declared.certificate_fault.CertificateFault.TheVariants.{Vacuum}
use Rattle.hlc_events.specs.declared.fault.CoreFault.TheVariants.{NoMemory}
use Rattle.hlc_calls.{specs.Certified.IsShown, proofs.Certifying.certificate-shown}
use Rattle.hlc_calls.proofs.certificates.certify.Goals as goal

pub returns-in-Some-clause-answer : goal.returns-in-Some-clause-answer
returns-in-Some-clause-answer c = λ past h.
    let is = c.in-Ok.ensures past h in
    let (rows, are, lines, printed) = c.in-Some.ensures in record {
      report = c.in-Ok.report;
      rows = rows;
      certifies = is;
      are_rows = are;
      no_word = refl;
      number = refl;
      cost = c.narrow.ensures;
      printed = printed;
      shown = subst (IsShown c.in-Some.text.value.items c.in-Ok.report.kept) (sym c.narrow.ensures)
          (certificate-shown c.args.core.now c.args.at past c.in-Ok.report rows c.in-Some.text.value.items is.1 are
          lines printed);
    }

pub returns-clause-answer : goal.returns-clause-answer
returns-clause-answer c = λ past h.
    let is = c.in-Ok.ensures past h in (Vacuum NoMemory, inr (is.0, refl, tt), refl, refl)
