-- The lines of replies and refusals.
use Rattle.std.specs.Prelude.{ℕ, List, [], ◌∷◌, ◌++◌, ◌==◌, length, map, codes, decimal, Option, Some, None}
use Rattle.std.specs.Prelude.{if◌then◌else◌, flat_map}
use Rattle.hlc_clock.specs.Stamp.{stamp_text}
use Rattle.hlc_text.specs.Text.{bytes_token, printed}
use Rattle.hlc_core.specs.declared.listing.Pair.{Pair}
use Rattle.hlc_vacuum_draft.specs.declared.report.Report.{Report}
use Rattle.hlc_world.specs.declared.{reply.Reply.Reply, refusal.Refusal.Refusal}
use Rattle.hlc_world.specs.declared.reply.Reply.TheVariants.{Stamped, Joined, Sent, Received, Observed, Accepted}
use Rattle.hlc_world.specs.declared.reply.Reply.TheVariants.{Snapshot, Answer, Listing, Closed, Floor, Vacuumed, Rows}
use Rattle.hlc_world.specs.declared.reply.Reply.TheVariants.{Refused}
use Rattle.hlc_world.specs.Faults.{refusal_code, refusal_word}
use Rattle.hlc_certificate.specs.CertificateText.{witness_line}

-- what the table of refusals adds to a number: the word that comes with it
abbrev pub refusal_detail : ℕ → ℕ → List ℕ
refusal_detail code word =
    if code == 3 then codes " at " ++ stamp_text word
    else if code == 6 then codes " next " ++ decimal word
    else if code == 7 then codes " head " ++ stamp_text word
    else if code == 8 then codes " floor " ++ stamp_text word
    else if code == 9 then codes " horizon " ++ stamp_text word
    else []

-- a refusal's number, and what is added to it
abbrev pub refusal_line : Refusal → List ℕ
refusal_line refusal =
    (codes "refused " ++ decimal (refusal_code refusal)) ++ refusal_detail (refusal_code refusal) (refusal_word refusal)

-- the value of a key, or none
abbrev pub answer_line : Option (List ℕ) → List ℕ
answer_line None = codes "none"
answer_line (Some value) = codes "value " ++ bytes_token value

-- the line of a key with its value
abbrev pub pair_line : Pair → List ℕ
pair_line pair = (codes "row " ++ bytes_token pair.key) ++ (codes " " ++ bytes_token pair.value)

-- the first line of a vacuum's report
abbrev pub report_line : Report → List ℕ
report_line report =
    (codes "vacuum " ++ stamp_text report.floor)
    ++ ((codes " kept " ++ decimal report.kept)
    ++ ((codes " dropped " ++ decimal report.dropped) ++ (codes " bytes " ++ decimal report.bytes)))

-- the first line of a reply
abbrev pub reply_line : Reply → List ℕ
reply_line (Stamped stamp item) = (codes "stamp " ++ stamp_text stamp) ++ (codes " item " ++ decimal item)
reply_line (Joined node start) = (codes "joined " ++ decimal node) ++ (codes " start " ++ stamp_text start)
reply_line (Sent stamp message) = (codes "stamp " ++ stamp_text stamp) ++ (codes " message " ++ decimal message)
reply_line (Received stamp) = codes "stamp " ++ stamp_text stamp
reply_line (Observed stamp) = codes "stamp " ++ stamp_text stamp
reply_line (Accepted stamp) = codes "accepted " ++ stamp_text stamp
reply_line (Snapshot id stamp) = (codes "snapshot " ++ decimal id) ++ (codes " at " ++ stamp_text stamp)
reply_line (Answer value) = answer_line value
reply_line (Listing pairs) = codes "listing " ++ decimal (length pairs)
reply_line (Closed stamp) = codes "closed " ++ stamp_text stamp
reply_line (Floor stamp) = codes "floor " ++ stamp_text stamp
reply_line (Vacuumed report) = report_line report
reply_line (Rows count) = codes "rows " ++ decimal count
reply_line (Refused refusal) = refusal_line refusal

-- the lines after it: those of a listing's pairs, or of a vacuum's changes
abbrev pub more_lines : Reply → List (List ℕ)
more_lines (Listing pairs) = map pair_line pairs
more_lines (Vacuumed report) = map witness_line report.witnesses
more_lines _ = []

-- all lines of a reply
abbrev pub reply_lines : Reply → List (List ℕ)
reply_lines reply = reply_line reply ∷ more_lines reply

-- a reply as it is printed
abbrev pub reply_text : Reply → List ℕ
reply_text reply = flat_map printed (reply_lines reply)
