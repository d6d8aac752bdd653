-- The lines so far are printed, and what they say can be written as lines.
use Rattle.std.proofs.Common.{take}
use Rattle.hlc_text.specs.Printing.{Prints}
use Rattle.hlc_certificate.specs.{CheckLine.says_row, CertificateText.row_line}
use Rattle.hlc_certificate.proofs.PrintedLines.{all_lines, AllHaveLines}
use Rattle.hlc_certificate.proofs.print.put_rows.Given as goal

abbrev pub invariant-loop-row : goal.invariant-loop-row
invariant-loop-row g l =
    let so_far = take l.row-index l.rows in record {
      text : Prints g.W.Write.contents l.fn.printer l.printer (all_lines row_line so_far);
      fits : AllHaveLines says_row so_far;
    }
