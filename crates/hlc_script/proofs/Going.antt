-- In the middle of a script: the lines so far are answered by what was printed, and the world represents a schedule of
-- them.
use Rattle.std.proofs.Common.{◌≡◌, ℕ, ◌+◌, sym, refl, subst, List, [], ◌∷◌, ◌++◌, length, Option, Some, None}
use Rattle.std.proofs.Common.{append_assoc, inl, inr, arith, ◌≤◌, append-nil, ◌≢◌}
use Rattle.hlc_text.specs.declared.printer.Printer.{Printer}
use Rattle.hlc_text.specs.{Printing.Prints, Text.printed, Lines.lines_of, Lines.bad_line}
use Rattle.hlc_text.proofs.PrintLemmas.{printed_then, printed_none}
use Rattle.hlc_world_event.specs.Events.{Event}
use Rattle.hlc_world.specs.{declared.reply.Reply.Reply, WorldView.WorldView, WorldView.Represents}
use Rattle.hlc_line.specs.Line.{event_line, HasLine, HasHeader, header_line}
use Rattle.hlc_script.specs.{Reply.reply_text, Run.AnswersLine, Run.Answers, Run.AnswersScript}

-- an answer to the remaining lines completes an answer to all of them
pub record Going {W : Type 0} (contents : W → Option (List ℕ)) (nodes : ℕ) (world : WorldView) (text rest : List ℕ)
    (number : ℕ) (old new : Printer W) : Type 0 where
  pub schedule : List (Event × Reply)
  pub so_far : List ℕ
  pub represents : Represents nodes world schedule
  pub wrote : Prints contents old new so_far
  pub completes : (output : List ℕ) (bad : Option ℕ) → Answers nodes schedule number (lines_of rest) output bad
      → Answers nodes [] 2 (lines_of text) (so_far ++ output) bad

pub going_first : {W : Type 0} {contents : W → Option (List ℕ)} {nodes : ℕ} {world : WorldView} {text : List ℕ}
    {old : Printer W} → Represents nodes world [] → Going contents nodes world text text 2 old old
going_first represents =
    record {
      schedule = [];
      so_far = [];
      represents = represents;
      wrote = printed_none;
      completes = λ output bad answers. answers;
    }

-- one more good line
pub going_more : {W : Type 0} {contents : W → Option (List ℕ)} {nodes : ℕ} {world world_after : WorldView}
    {text rest : List ℕ} (after : List ℕ) {line : List ℕ} {number : ℕ} {old mid new : Printer W} {event : Event}
    {reply : Reply} → Going contents nodes world text rest number old mid → lines_of rest ≡ line ∷ lines_of after
    → HasLine event → line ≡ event_line event
    → ((n : ℕ) (s : List (Event × Reply)) → Represents n world s → (t : List (Event × Reply))
    × AnswersLine n s event reply t × Represents n world_after t)
    → Prints contents mid new (reply_text reply)
    → Going contents nodes world_after text after (number + 1) old new
going_more {W} {contents} {nodes} {world} {world_after} {text} {rest} after {line} {number} {old} {mid} {new} {event}
    {reply} going first has spelled answered wrote =
    let next = answered nodes going.schedule going.represents in
    record {
      schedule = next.0;
      so_far = going.so_far ++ reply_text reply;
      represents = next.2;
      wrote = printed_then going.wrote wrote;
      completes = λ output bad answers.
          subst (λ (zs : List ℕ). Answers nodes [] 2 (lines_of text) zs bad)
          (sym (append_assoc going.so_far (reply_text reply) output))
          (going.completes (reply_text reply ++ output) bad
          (subst (λ (ls : List (List ℕ)). Answers nodes going.schedule number ls (reply_text reply ++ output) bad)
          (sym first)
          (inl (
            event,
            reply,
            next.0,
            output,
            has,
            spelled,
            next.1,
            refl,
            answers,
          ))));
    }

-- the first bad line
pub going_bad : {W : Type 0} {contents : W → Option (List ℕ)} {nodes : ℕ} {world : WorldView} {text rest : List ℕ}
    (after : List ℕ) {line : List ℕ} {number : ℕ} {old mid new : Printer W}
    → Going contents nodes world text rest number old mid → lines_of rest ≡ line ∷ lines_of after
    → ((event : Event) → HasLine event → line ≢ event_line event)
    → Prints contents mid new (printed (bad_line number)) → (output : List ℕ)
    × Answers nodes [] 2 (lines_of text) output (Some number) × Prints contents old new output
going_bad {W} {contents} {nodes} {world} {text} {rest} after {line} {number} {old} {mid} {new} going first bad wrote = (
  going.so_far ++ printed (bad_line number),
  going.completes (printed (bad_line number)) (Some number)
      (subst
      (λ (ls : List (List ℕ)). Answers nodes going.schedule number ls (printed (bad_line number)) (Some number))
      (sym first) (inr (bad, refl, refl))),
  printed_then going.wrote wrote,
)

-- no line is left
pub going_end : {W : Type 0} {contents : W → Option (List ℕ)} {nodes : ℕ} {world : WorldView} {text : List ℕ}
    (rest : List ℕ) {number : ℕ} {old new : Printer W} → Going contents nodes world text rest number old new
    → length rest ≡ 0 → (output : List ℕ)
    × Answers nodes [] 2 (lines_of text) output None × Prints contents old new output
going_end {W} {contents} {nodes} {world} {text} [] {number} {old} {new} going none = (
  going.so_far ++ [],
  going.completes [] None (refl, refl),
  subst (λ (zs : List ℕ). Prints contents old new zs) (sym (append-nil going.so_far)) going.wrote,
)
going_end (x ∷ rest) going none = absurd (omega (arith, none))

-- a header and the answers after it
pub script_answered : {W : Type 0} {contents : W → Option (List ℕ)} {old mid new : Printer W} (input : List ℕ)
    (rest : List ℕ) (nodes : ℕ) (bad : Option ℕ) → length input ≤ 16777216
    → lines_of input ≡ header_line nodes ∷ lines_of rest → HasHeader nodes
    → Prints contents old mid (printed (header_line nodes)) → (output : List ℕ)
    × Answers nodes [] 2 (lines_of rest) output bad × Prints contents mid new output → (output : List ℕ)
    × ((length input ≤ 16777216) × AnswersScript input output bad) × Prints contents old new output
script_answered input rest nodes bad fits first has wrote (output, answers, more) = (
  printed (header_line nodes) ++ output,
  (fits, (nodes, lines_of rest, output, has, first, refl, answers)),
  printed_then wrote more,
)
