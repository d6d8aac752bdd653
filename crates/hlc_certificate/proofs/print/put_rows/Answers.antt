-- One more line is printed, whose content can be written as a line.
use Rattle.hlc_certificate.specs.{CheckLine.says_row, CertificateText.row_line}
use Rattle.hlc_certificate.proofs.PrintedLines.{printed_next, fits_next}
use Rattle.hlc_certificate.proofs.print.put_rows.Goals as goal

pub loop-row-preserved : goal.loop-row-preserved
loop-row-preserved g c =
    let xs = c.args.rows.now in
    let i = c.loop-row.row-index in
    let x = c.row-item.result in
    let within = c.loop-row-test.true in
    let so_far = c.loop-row.invariant in record {
      text = printed_next row_line xs i x within c.row-item.is so_far.text c.put_row.ensures.text;
      fits = fits_next says_row xs i x within c.row-item.is so_far.fits c.put_row.ensures.fits;
    }
