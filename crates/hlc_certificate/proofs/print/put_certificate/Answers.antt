-- One list is printed after another, and the content of each can be written as lines.
use Rattle.hlc_certificate.proofs.{PrintedLines.printed_lists, PrintedLines.all_fit, ReadBackLemmas.printed_is_read}
use Rattle.hlc_certificate.proofs.print.put_certificate.Goals as goal

pub returns-clause-text : goal.returns-clause-text
returns-clause-text g c =
    printed_lists c.args.points.now c.args.rows.now c.args.witnesses.now
    c.put_points.ensures.text c.put_rows.ensures.text c.put_witnesses.ensures.text

pub returns-clause-lines : goal.returns-clause-lines
returns-clause-lines g c =
    printed_is_read c.args.points.now c.args.rows.now c.args.witnesses.now
    (all_fit c.args.points.now c.args.rows.now c.args.witnesses.now
    c.put_points.ensures.fits c.put_rows.ensures.fits c.put_witnesses.ensures.fits)
