-- A line of several parts is printed part by part.
use Rattle.hlc_text.proofs.PrintLemmas.{printed_then}
use Rattle.hlc_script.proofs.LineParts.{line_then}
use Rattle.hlc_script.proofs.reply.put_first_line.Goals as goal

pub returns-in-Joined : goal.returns-in-Joined
returns-in-Joined g c = rw c.in-Joined.is (line_then _ c.put_named_number.ensures c.put_stamp_line.ensures)

pub returns-in-Snapshot : goal.returns-in-Snapshot
returns-in-Snapshot g c =
    rw c.in-Snapshot.is (line_then _ c.put_named_number-in-Snapshot.ensures c.put_stamp_line-in-Snapshot.ensures)

pub returns-in-Listing : goal.returns-in-Listing
returns-in-Listing g c =
    rw (c.in-Listing.is, ← c.len.ensures) (printed_then c.put_named_number-in-Listing.ensures c.put-in-Listing.ensures)

pub returns-in-Vacuumed : goal.returns-in-Vacuumed
returns-in-Vacuumed g c = rw c.in-Vacuumed.is (printed_then c.put_report.ensures c.put-in-Vacuumed.ensures)

pub returns-in-Rows : goal.returns-in-Rows
returns-in-Rows g c = rw c.in-Rows.is (printed_then c.put_named_count.ensures c.put-in-Rows.ensures)

pub returns-in-Refused : goal.returns-in-Refused
returns-in-Refused g c = rw c.in-Refused.is (printed_then c.put_refusal.ensures c.put-in-Refused.ensures)
