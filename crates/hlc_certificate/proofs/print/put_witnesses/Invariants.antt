-- The lines so far are printed, and what they say can be written as lines.
use Rattle.std.proofs.Common.{take}
use Rattle.hlc_text.specs.Printing.{Prints}
use Rattle.hlc_certificate.specs.{CheckLine.says_witness, CertificateText.witness_line}
use Rattle.hlc_certificate.proofs.PrintedLines.{all_lines, AllHaveLines}
use Rattle.hlc_certificate.proofs.print.put_witnesses.Given as goal

abbrev pub invariant-loop-witness : goal.invariant-loop-witness
invariant-loop-witness g l =
    let so_far = take l.witness-index l.witnesses in record {
      text : Prints g.W.Write.contents l.fn.printer l.printer (all_lines witness_line so_far);
      fits : AllHaveLines says_witness so_far;
    }
