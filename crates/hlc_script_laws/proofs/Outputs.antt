-- An input has one output: each line has one event, and an event has one reply, unless memory runs out.
use Rattle.std.proofs.Common.{◌≡◌, ℕ, ◌+◌, ◌∙◌, sym, ap, refl, List, [], ◌∷◌, ◌++◌, Option, Some, None, Ok, Result}
use Rattle.std.proofs.Common.{append_assoc, arith, ◌⊎◌, inl, inr, codes, decimal, ◌≢◌, flat_map}
use Rattle.std.proofs.lemmas.Fmt.{decimal-digits_of}
use Rattle.hlc_text.specs.{Text.printed, Lines.lines_of}
use Rattle.hlc_clock.specs.declared.clock.ClockFault.{ClockFault}
use Rattle.hlc_node.specs.declared.{item.Item.Item, item.Message.Message, node.NodeFault.NodeFault}
use Rattle.hlc_rows.specs.declared.row.Row.{Row}
use Rattle.hlc_core.specs.{declared.listing.Pair.Pair, Past.Step, Past.floor, History.IsAnswer, Calls.IsListed}
use Rattle.hlc_core.proofs.ListingLemmas.{one-listing}
use Rattle.hlc_core.proofs.ReportLemmas.{there_is_one_report, there_is_one_count}
use Rattle.hlc_world_event.specs.declared.event.Event.TheVariants.{Write, Delete, Report, Retire, Join, Send, Receive}
use Rattle.hlc_world_event.specs.declared.event.Event.TheVariants.{Observe, Deliver, OpenAt, OpenFloor, Read}
use Rattle.hlc_world_event.specs.declared.event.Event.TheVariants.{List as ListAll, Close, Floor, Vacuum, Rows}
use Rattle.hlc_world.specs.{declared.reply.Reply.Reply, Schedule.item_at}
use Rattle.hlc_world.specs.declared.reply.Reply.TheVariants.{Stamped, Joined, Sent, Received, Observed, Accepted}
use Rattle.hlc_world.specs.declared.reply.Reply.TheVariants.{Snapshot, Answer, Listing, Closed, Floor as FloorIs}
use Rattle.hlc_world.specs.declared.reply.Reply.TheVariants.{Vacuumed, Rows as RowsAre, Refused}
use Rattle.hlc_world.specs.declared.refusal.Refusal.{Refusal, TheVariants.NoMemory as no_memory}
use Rattle.hlc_world_event.specs.Events.{Event}
use Rattle.hlc_world.specs.Store.{accepting, accepted, paired, core_past}
use Rattle.hlc_world.specs.Expected.{expected_refusal, IsReceived, IsObserved, IsExpectedOfStore, IsExpectedReply}
use Rattle.hlc_world.specs.Expected.{MayReply}
use Rattle.hlc_script.specs.{declared.run.RunEnd.RunEnd, Reply.reply_lines, Reply.reply_text}
use Rattle.hlc_script.specs.declared.run.RunEnd.TheVariants.{Answered, BadLine, BadHeader, NoMemory, NotLoaded}
use Rattle.hlc_script.specs.declared.run.RunEnd.TheVariants.{WriteFault}
use Rattle.hlc_text.specs.declared.input.InputFault.TheVariants.{NoMemory as not_enough, ReadFault, TooLong}
use Rattle.hlc_line.specs.Line.{HasHeader, header_line}
use Rattle.hlc_script.specs.Run.{AnswersLine, Answers, AnswersScript}
use Rattle.hlc_script_laws.specs.OneOutput.{ReportsNoMemory, OneOutput}
use Rattle.hlc_line.proofs.LineLemmas.{one_event, one_header}

-- the two are equal, or one of them is out of memory
abbrev OneReply : Reply → Reply → Type 0
OneReply reply other = (reply ≡ other) ⊎ ((reply ≡ Refused no_memory) ⊎ (other ≡ Refused no_memory))

same_answer : (stamp : Option ℕ) (answers : ℕ → Option (List ℕ)) (value other : Option (List ℕ))
    → IsAnswer stamp answers value → IsAnswer stamp answers other → value ≡ other
same_answer None answers value other is also = absurd is
same_answer (Some stamp) answers value other is also = is ∙ sym also

same_receipt : (o : Option Message) (last reading stamp other : ℕ) → IsReceived o last reading stamp
    → IsReceived o last reading other → stamp ≡ other
same_receipt None last reading stamp other is also = absurd is
same_receipt (Some message) last reading stamp other is also =
    let stamps : ◌≡◌ {A = Result ℕ ClockFault} (Ok stamp) (Ok other) = sym is ∙ also in cc

-- an issued item has one stamp and one number
issued_once : (expected : Result ℕ NodeFault) (next stamp stamp2 number number2 : ℕ) → (expected ≡ Ok stamp)
    × (number ≡ next)
    → (expected ≡ Ok stamp2) × (number2 ≡ next) → Stamped stamp number ≡ Stamped stamp2 number2
issued_once expected next stamp stamp2 number number2 is also =
    let stamps : ◌≡◌ {A = Result ℕ NodeFault} (Ok stamp) (Ok stamp2) = sym is.0 ∙ also.0 in
    let s : stamp ≡ stamp2 = cc in
    let n : number ≡ number2 = is.1 ∙ sym also.1 in cc

same_observation : (o : Option ℕ) (last reading stamp stamp2 : ℕ) → IsObserved o last reading stamp
    → IsObserved o last reading stamp2 → stamp ≡ stamp2
same_observation None last reading stamp stamp2 expected also = absurd expected
same_observation (Some seen) last reading stamp stamp2 expected also =
    let stamps : ◌≡◌ {A = Result ℕ ClockFault} (Ok stamp) (Ok stamp2) = sym expected ∙ also in cc

same_listing : (o : Option ℕ) (rows : List Row) (pairs pairs2 : List Pair) → IsListed o rows pairs
    → IsListed o rows pairs2 → pairs ≡ pairs2
same_listing None rows pairs pairs2 expected also = absurd expected
same_listing (Some stamp) rows pairs pairs2 expected also = one-listing rows stamp pairs pairs2 expected also

same_acceptance : (node : ℕ) (past : List Step) (o : Option Item) (stamp stamp2 : ℕ)
    → IsExpectedOfStore past (paired (accepted node stamp o) (accepting o))
    → IsExpectedOfStore past (paired (accepted node stamp2 o) (accepting o)) → stamp ≡ stamp2
same_acceptance node past None stamp stamp2 expected also = absurd expected
same_acceptance node past (Some item) stamp stamp2 expected also = ap (λ x. x.stamp) (expected ∙ sym also)

-- where nothing is refused, only one reply is expected
expected_once : (nodes : ℕ) (schedule : List (Event × Reply)) (event : Event) (reply other : Reply)
    → IsExpectedReply nodes schedule event reply → IsExpectedReply nodes schedule event other → reply ≡ other
expected_once nodes schedule (Write node reading key value) (Stamped stamp number) (Stamped stamp2 number2) expected
    also =
    issued_once _ _ stamp stamp2 number number2 expected also
expected_once nodes schedule (Write node reading key value) (Stamped stamp number) other expected also = absurd also
expected_once nodes schedule (Delete node reading key) (Stamped stamp number) (Stamped stamp2 number2) expected also =
    issued_once _ _ stamp stamp2 number number2 expected also
expected_once nodes schedule (Delete node reading key) (Stamped stamp number) other expected also = absurd also
expected_once nodes schedule (Report node reading) (Stamped stamp number) (Stamped stamp2 number2) expected also =
    issued_once _ _ stamp stamp2 number number2 expected also
expected_once nodes schedule (Report node reading) (Stamped stamp number) other expected also = absurd also
expected_once nodes schedule (Retire node reading) (Stamped stamp number) (Stamped stamp2 number2) expected also =
    issued_once _ _ stamp stamp2 number number2 expected also
expected_once nodes schedule (Retire node reading) (Stamped stamp number) other expected also = absurd also
expected_once nodes schedule Join (Joined node start) (Joined node2 start2) expected also =
    let n : node ≡ node2 = expected.0 ∙ sym also.0 in
    let s : start ≡ start2 = expected.1 ∙ sym also.1 in cc
expected_once nodes schedule Join (Joined node start) other expected also = absurd also
expected_once nodes schedule (Send node reading) (Sent stamp number) (Sent stamp2 number2) expected also =
    let stamps : ◌≡◌ {A = Result ℕ ClockFault} (Ok stamp) (Ok stamp2) = sym expected.0 ∙ also.0 in
    let s : stamp ≡ stamp2 = cc in
    let n : number ≡ number2 = expected.1 ∙ sym also.1 in cc
expected_once nodes schedule (Send node reading) (Sent stamp number) other expected also = absurd also
expected_once nodes schedule (Receive node reading message) (Received stamp) (Received stamp2) expected also =
    ap Received (same_receipt _ _ reading stamp stamp2 expected also)
expected_once nodes schedule (Receive node reading message) (Received stamp) other expected also = absurd also
expected_once nodes schedule (Deliver node number) (Accepted stamp) (Accepted stamp2) expected also =
    ap Accepted
    (same_acceptance node (core_past nodes schedule) (item_at node number schedule) stamp stamp2 expected also)
expected_once nodes schedule (Deliver node number) (Accepted stamp) other expected also = absurd also
expected_once nodes schedule (Observe node reading id) (Observed stamp) (Observed stamp2) expected also =
    ap Observed (same_observation _ _ reading stamp stamp2 expected also)
expected_once nodes schedule (Observe node reading id) (Observed stamp) other expected also = absurd also
expected_once nodes schedule (OpenAt at) (Snapshot id stamp) (Snapshot id2 stamp2) expected also =
    let i : id ≡ id2 = expected.0 ∙ sym also.0 in
    let s : stamp ≡ stamp2 = expected.1 ∙ sym also.1 in cc
expected_once nodes schedule (OpenAt at) (Snapshot id stamp) other expected also = absurd also
expected_once nodes schedule OpenFloor (Snapshot id stamp) (Snapshot id2 stamp2) expected also =
    let i : id ≡ id2 = expected.0 ∙ sym also.0 in
    let s : stamp ≡ stamp2 = expected.1 ∙ sym also.1 in cc
expected_once nodes schedule OpenFloor (Snapshot id stamp) other expected also = absurd also
expected_once nodes schedule (Read id key) (Answer value) (Answer value2) expected also =
    ap Answer (same_answer _ _ value value2 expected also)
expected_once nodes schedule (Read id key) (Answer value) other expected also = absurd also
expected_once nodes schedule (ListAll id) (Listing pairs) (Listing pairs2) expected also =
    ap Listing (same_listing _ _ pairs pairs2 expected also)
expected_once nodes schedule (ListAll id) (Listing pairs) other expected also = absurd also
expected_once nodes schedule (Close id) (Closed stamp) (Closed stamp2) expected also =
    let stamps : Some stamp ≡ Some stamp2 = sym expected ∙ also in
    let s : stamp ≡ stamp2 = cc in cc
expected_once nodes schedule (Close id) (Closed stamp) other expected also = absurd also
expected_once nodes schedule Floor (FloorIs stamp) (FloorIs stamp2) expected also = ap FloorIs (expected ∙ sym also)
expected_once nodes schedule Floor (FloorIs stamp) other expected also = absurd also
expected_once nodes schedule Vacuum (Vacuumed report) (Vacuumed report2) expected also =
    ap Vacuumed
    (there_is_one_report (floor (core_past nodes schedule)) (core_past nodes schedule) report report2 expected also)
expected_once nodes schedule Vacuum (Vacuumed report) other expected also = absurd also
expected_once nodes schedule Rows (RowsAre count) (RowsAre count2) expected also =
    ap RowsAre (there_is_one_count (core_past nodes schedule) count count2 expected also)
expected_once nodes schedule Rows (RowsAre count) other expected also = absurd also
expected_once nodes schedule _ _ _ expected also = absurd expected

-- this reply is a refusal, which is expected or is out of memory; or it is expected where no refusal is
abbrev ReplyCases : ℕ → List (Event × Reply) → Event → Reply → Type 0
ReplyCases nodes schedule event reply =
    ((refusal : Refusal) × (reply ≡ Refused refusal)
    × ((expected_refusal nodes schedule event ≡ Some refusal) ⊎ (refusal ≡ no_memory)))
    ⊎ ((expected_refusal nodes schedule event ≡ None) × IsExpectedReply nodes schedule event reply)

reply_cases : (nodes : ℕ) (schedule : List (Event × Reply)) (event : Event) (reply : Reply)
    → MayReply nodes schedule event reply → ReplyCases nodes schedule event reply
reply_cases nodes schedule event (Refused refusal) (inl expected) = inl (refusal, refl, inl expected)
reply_cases nodes schedule event (Refused refusal) (inr lost) = inl (refusal, refl, inr lost.1)
reply_cases nodes schedule event reply allowed = inr allowed

once : (nodes : ℕ) (schedule : List (Event × Reply)) (event : Event) (reply other : Reply)
    → ReplyCases nodes schedule event reply → ReplyCases nodes schedule event other → OneReply reply other
once nodes schedule event reply other (inl (refusal, is, inr lost)) also = inr (inl (is ∙ ap Refused lost))
once nodes schedule event reply other (inl (refusal, is, inl expected)) (inl (refusal2, is2, inr lost)) =
    inr (inr (is2 ∙ ap Refused lost))
once nodes schedule event reply other (inl (refusal, is, inl expected)) (inl (refusal2, is2, inl expected2)) =
    let both : Some refusal ≡ Some refusal2 = sym expected ∙ expected2 in
    let same : refusal ≡ refusal2 = cc in inl (is ∙ ap Refused same ∙ sym is2)
once nodes schedule event reply other (inl (refusal, is, inl expected)) (inr (none, expected_reply)) =
    absurd (let e : Some refusal ≡ None = sym expected ∙ none in cc)
once nodes schedule event reply other (inr (none, expected)) (inl (refusal2, is2, inr lost)) =
    inr (inr (is2 ∙ ap Refused lost))
once nodes schedule event reply other (inr (none, expected)) (inl (refusal2, is2, inl expected2)) =
    absurd (let e : Some refusal2 ≡ None = sym expected2 ∙ none in cc)
once nodes schedule event reply other (inr (none, expected)) (inr (none2, expected2)) =
    inl (expected_once nodes schedule event reply other expected expected2)

-- a world returns one reply, unless memory runs out
reply_once : (nodes : ℕ) (schedule : List (Event × Reply)) (event : Event) (reply other : Reply)
    → MayReply nodes schedule event reply → MayReply nodes schedule event other → OneReply reply other
reply_once nodes schedule event reply other allowed also =
    once nodes schedule event reply other (reply_cases nodes schedule event reply allowed)
    (reply_cases nodes schedule event other also)

abbrev Same : List ℕ → List ℕ → Option ℕ → Option ℕ → Type 0
Same output other bad worse = ((output ≡ other) × (bad ≡ worse)) ⊎ (ReportsNoMemory output ⊎ ReportsNoMemory other)

fifteen : decimal 15 ≡ codes "15"
fifteen = decimal-digits_of 15 (omega arith) (omega arith)

-- a reply that reports out of memory
reports : (reply : Reply) (rest : List ℕ) → reply ≡ Refused no_memory → ReportsNoMemory (reply_text reply ++ rest)
reports reply rest is =
    rw is ([], rest, ap (λ (d : List ℕ). flat_map printed (((codes "refused " ++ d) ++ []) ∷ []) ++ rest) fifteen)

-- a line in front
after : (line rest : List ℕ) → ReportsNoMemory rest → ReportsNoMemory (printed line ++ rest)
after line rest (before, back, is) = (
  line ∷ before,
  back,
  ap (λ l. printed line ++ l) is
      ∙ sym (append_assoc (printed line) (flat_map printed before) (printed (codes "refused 15") ++ back)),
)

same_after : (line rest more : List ℕ) (bad worse : Option ℕ) → Same rest more bad worse
    → Same (printed line ++ rest) (printed line ++ more) bad worse
same_after line rest more bad worse (inl same) = inl (ap (λ l. printed line ++ l) same.0, same.1)
same_after line rest more bad worse (inr (inl short)) = inr (inl (after line rest short))
same_after line rest more bad worse (inr (inr short)) = inr (inr (after line more short))

-- some lines in front
same_after_lines : (lines : List (List ℕ)) (rest more : List ℕ) (bad worse : Option ℕ) → Same rest more bad worse
    → Same (flat_map printed lines ++ rest) (flat_map printed lines ++ more) bad worse
same_after_lines [] rest more bad worse same = same
same_after_lines (line ∷ lines) rest more bad worse same =
    rw (
      append_assoc (printed line) (flat_map printed lines) rest,
      append_assoc (printed line) (flat_map printed lines) more,
    )
    (same_after line _ _ bad worse (same_after_lines lines rest more bad worse same))

-- a good line, answered twice
one_line : (nodes : ℕ) (schedule : List (Event × Reply)) (number : ℕ) (lines : List (List ℕ)) (bad worse : Option ℕ)
    (e : Event) (r q : Reply) (s t : List (Event × Reply)) (rest more : List ℕ)
    → ((u : List (Event × Reply)) (o p : List ℕ) → Answers nodes u (number + 1) lines o bad
    → Answers nodes u (number + 1) lines p worse → Same o p bad worse) → AnswersLine nodes schedule e r s
    → AnswersLine nodes schedule e q t → Answers nodes s (number + 1) lines rest bad
    → Answers nodes t (number + 1) lines more worse → Same (reply_text r ++ rest) (reply_text q ++ more) bad worse
one_line nodes schedule number lines bad worse e r q s t rest more onward (inr lost) other first second =
    inr (inl (reports r rest lost.1))
one_line nodes schedule number lines bad worse e r q s t rest more onward (inl allowed) (inr lost) first second =
    inr (inr (reports q more lost.1))
one_line nodes schedule number lines bad worse e r q s t rest more onward (inl allowed) (inl also) first second =
    elim (reply_once nodes schedule e r q allowed.0 also.0) [
      | inr (inl lost) ↦ inr (inl (reports r rest lost))
      | inr (inr lost) ↦ inr (inr (reports q more lost))
      | inl same ↦
          let together : s ≡ t = allowed.1 ∙ ap (λ (x : Reply). (e, x) ∷ schedule) same ∙ sym also.1 in
          rw (← same)
          (same_after_lines (reply_lines r) rest more bad worse (onward s rest more first (rw together second)))
    ]

-- some lines, answered twice
answered_once : (nodes : ℕ) (schedule : List (Event × Reply)) (number : ℕ) (lines : List (List ℕ))
    (output other : List ℕ) (bad worse : Option ℕ) → Answers nodes schedule number lines output bad
    → Answers nodes schedule number lines other worse → Same output other bad worse
answered_once nodes schedule number [] output other bad worse (none, well) (none2, well2) =
    inl (none ∙ sym none2, well ∙ sym well2)
answered_once nodes schedule number (line ∷ lines) output other bad worse
    (inl (e, r, s, rest, has, spelled, answers, is, first))
    (inl (f, q, t, more, also, spelled2, answers2, is2, second)) =
    let event : f ≡ e = one_event f e also has (sym spelled2 ∙ spelled) in
    let answers3 : AnswersLine nodes schedule e q t = rw (← event) answers2 in
    rw (is, is2) (one_line nodes schedule number lines bad worse e r q s t rest more
    (λ u o p. answered_once nodes u (number + 1) lines o p bad worse) answers answers3 first second)
answered_once nodes schedule number (line ∷ lines) output other bad worse
    (inl (e, r, s, rest, has, spelled, answers, is, first)) (inr (none, is2, well2)) = absurd (none e has spelled)
answered_once nodes schedule number (line ∷ lines) output other bad worse (inr (none, is, well))
    (inl (f, q, t, more, also, spelled2, answers2, is2, second)) = absurd (none f also spelled2)
answered_once nodes schedule number (line ∷ lines) output other bad worse (inr (none, is, well))
    (inr (none2, is2, well2)) = inl (is ∙ sym is2, well ∙ sym well2)

-- a script, answered twice
script_once : (input output other : List ℕ) (bad worse : Option ℕ) → AnswersScript input output bad
    → AnswersScript input other worse → Same output other bad worse
script_once input output other bad worse (nodes, lines, replies, has, first, is, answers)
    (nodes2, lines2, replies2, has2, first2, is2, answers2) =
    let both : header_line nodes2 ∷ lines2 ≡ header_line nodes ∷ lines = sym first2 ∙ first in
    let header : header_line nodes2 ≡ header_line nodes = cc in
    let same_lines : lines2 ≡ lines = cc in
    let same : nodes2 ≡ nodes = one_header nodes2 nodes has2 has header in
    let answers3 : Answers nodes [] 2 lines replies2 worse = rw (← same, ← same_lines) answers2 in
    rw (is, is2, same) (same_after (header_line nodes) replies replies2 bad worse
    (answered_once nodes [] 2 lines replies replies2 bad worse answers answers3))

-- the end of a script that was answered
abbrev end_of : Option ℕ → RunEnd
end_of None = Answered
end_of (Some number) = BadLine number

ended : (output other : List ℕ) (bad worse : Option ℕ) → Same output other bad worse
    → ((output ≡ other) × (end_of bad ≡ end_of worse)) ⊎ (ReportsNoMemory output ⊎ ReportsNoMemory other)
ended output other bad worse (inl same) = inl (same.0, ap end_of same.1)
ended output other bad worse (inr short) = inr short

short_alone : (output : List ℕ) → output ≡ printed (codes "refused 15") → ReportsNoMemory output
short_alone output is = ([], [], is)

-- an input has a header or it has none
header_not : (input output : List ℕ) (bad : Option ℕ) → AnswersScript input output bad
    → ((nodes : ℕ) (lines : List (List ℕ)) → HasHeader nodes → lines_of input ≢ header_line nodes ∷ lines) → ⊥
header_not input output bad (nodes, lines, replies, has, first, is, answers) none = none nodes lines has first

pub one_output : OneOutput
one_output input output other (NotLoaded not_enough) finish is also e f = inr (inl (short_alone output is.1))
one_output input output other end (NotLoaded not_enough) is also e f = inr (inr (short_alone other also.1))
one_output input output other NoMemory finish is also e f = inr (inl (short_alone output is.2))
one_output input output other end NoMemory is also e f = inr (inr (short_alone other also.2))
one_output input output other Answered Answered is also e f =
    ended output other None None (script_once input output other None None is.1 also.1)
one_output input output other Answered (BadLine n) is also e f =
    ended output other None (Some n) (script_once input output other None (Some n) is.1 also.1)
one_output input output other (BadLine m) Answered is also e f =
    ended output other (Some m) None (script_once input output other (Some m) None is.1 also.1)
one_output input output other (BadLine m) (BadLine n) is also e f =
    ended output other (Some m) (Some n) (script_once input output other (Some m) (Some n) is.1 also.1)
one_output input output other Answered BadHeader is also e f = absurd (header_not input output None is.1 also.1)
one_output input output other (BadLine m) BadHeader is also e f =
    absurd (header_not input output (Some m) is.1 also.1)
one_output input output other BadHeader Answered is also e f = absurd (header_not input other None also.1 is.1)
one_output input output other BadHeader (BadLine n) is also e f =
    absurd (header_not input other (Some n) also.1 is.1)
one_output input output other BadHeader BadHeader is also e f = inl (is.2 ∙ sym also.2, refl)
one_output input output other (NotLoaded TooLong) (NotLoaded TooLong) is also e f = inl (is.1 ∙ sym also.1, refl)
one_output input output other (NotLoaded ReadFault) finish is also e f = absurd (e refl)
one_output input output other end (NotLoaded ReadFault) is also e f = absurd (f refl)
one_output input output other WriteFault finish is also e f = absurd is
one_output input output other end WriteFault is also e f = absurd also
one_output input output other (NotLoaded TooLong) finish is also e f = absurd (omega (arith, is.0, also.0))
one_output input output other end (NotLoaded TooLong) is also e f = absurd (omega (arith, is.0, also.0))
