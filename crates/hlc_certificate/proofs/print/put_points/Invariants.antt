-- The lines so far are printed, and what they say can be written as lines.
use Rattle.std.proofs.Common.{take}
use Rattle.hlc_text.specs.Printing.{Prints}
use Rattle.hlc_certificate.specs.{CheckLine.says_point, CertificateText.point_line}
use Rattle.hlc_certificate.proofs.PrintedLines.{all_lines, AllHaveLines}
use Rattle.hlc_certificate.proofs.print.put_points.Given as goal

abbrev pub invariant-loop-point : goal.invariant-loop-point
invariant-loop-point g l =
    let so_far = take l.point-index l.points in record {
      text : Prints g.W.Write.contents l.fn.printer l.printer (all_lines point_line so_far);
      fits : AllHaveLines says_point so_far;
    }
