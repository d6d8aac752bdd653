-- One more line is printed, whose content can be written as a line.
use Rattle.hlc_certificate.specs.{CheckLine.says_point, CertificateText.point_line}
use Rattle.hlc_certificate.proofs.PrintedLines.{printed_next, fits_next}
use Rattle.hlc_certificate.proofs.print.put_points.Goals as goal

pub loop-point-preserved : goal.loop-point-preserved
loop-point-preserved g c =
    let xs = c.args.points.now in
    let i = c.loop-point.point-index in
    let x = c.point-item.result in
    let within = c.loop-point-test.true in
    let so_far = c.loop-point.invariant in record {
      text = printed_next point_line xs i x within c.point-item.is so_far.text c.put_point.ensures.text;
      fits = fits_next says_point xs i x within c.point-item.is so_far.fits c.put_point.ensures.fits;
    }
