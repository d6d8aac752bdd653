-- One more line is printed, whose content can be written as a line.
use Rattle.hlc_certificate.specs.{CheckLine.says_witness, CertificateText.witness_line}
use Rattle.hlc_certificate.proofs.PrintedLines.{printed_next, fits_next}
use Rattle.hlc_certificate.proofs.print.put_witnesses.Goals as goal

pub loop-witness-preserved : goal.loop-witness-preserved
loop-witness-preserved g c =
    let xs = c.args.witnesses.now in
    let i = c.loop-witness.witness-index in
    let x = c.witness-item.result in
    let within = c.loop-witness-test.true in
    let so_far = c.loop-witness.invariant in record {
      text = printed_next witness_line xs i x within c.witness-item.is so_far.text c.put_witness.ensures.text;
      fits = fits_next says_witness xs i x within c.witness-item.is so_far.fits c.put_witness.ensures.fits;
    }
