-- Lemmas on printing, for proofs about what is printed piece by piece: one text printed after another, the lines of a
-- list printed one by one, and the effect of `finish` on it all. A printer keeps its writer, so what several calls
-- printed is what the writer took and what still waits.
use Rattle.std.proofs.Common.{◌≡◌, ℕ, ◌+◌, ◌<◌, get_or, ◌∙◌, sym, ap, subst, refl, List, [], ◌∷◌, ◌++◌, take, length}
use Rattle.std.proofs.Common.{map, Option, append-nil, MutBor, flat_map}
use Rattle.std.proofs.lemmas.List.{map-append, take_more, Concat.flat_map-append}
use Rattle.hlc_text.specs.declared.{printer.Printer.Printer, watched.Watched.Watched}
use Rattle.hlc_text.specs.Printing.{StartsAt, HasItsWriter, Prints, Finishes, Writes, writer_of, waiting_of}
use Rattle.hlc_text.specs.Watched.{inner_of, has_failed}
use Rattle.hlc_text.proofs.Texts.{Took, Appends-nil, took_both, took_none}

-- what a printer's writer took
TookOf : {W : Type 0} → (W → Option (List ℕ)) → Printer W → Printer W → List ℕ → Type 0
TookOf contents old new text =
    Took (has_failed (writer_of old)) (has_failed (writer_of new)) (contents (inner_of (writer_of old)))
    (contents (inner_of (writer_of new))) (waiting_of old) (waiting_of new) text

took_of : {W : Type 0} {contents : W → Option (List ℕ)} {old new : Printer W} {text : List ℕ}
    → Prints contents old new text → TookOf contents old new text
unfolding TookOf
took_of printed = record {
  front = printed.front;
  back = printed.back;
  cut = printed.cut;
  taken = printed.taken;
  whole = printed.whole;
  nothing = printed.nothing;
}

-- what waits is written, and then nothing waits
finish_of : {W : Type 0} {contents : W → Option (List ℕ)} {old new : Printer W}
    → Finishes contents old new → TookOf contents old new []
unfolding TookOf
finish_of finished = let wrote = finished.wrote in record {
  front = wrote.front;
  back = wrote.back;
  cut = append-nil _ ∙ wrote.cut;
  taken = wrote.taken;
  whole = λ e. ((wrote.whole e).0, (wrote.whole e).1 ∙ sym finished.none_waits);
  nothing = wrote.nothing;
}

prints_of : {W : Type 0} {contents : W → Option (List ℕ)} {old new : Printer W} {text : List ℕ}
    → HasItsWriter old new → TookOf contents old new text → Prints contents old new text
unfolding TookOf
prints_of same took = record {
  same = same;
  front = took.front;
  back = took.back;
  cut = took.cut;
  taken = took.taken;
  whole = took.whole;
  nothing = took.nothing;
}

-- two texts printed, one after the other
pub printed_then : {W : Type 0} {contents : W → Option (List ℕ)} {old mid new : Printer W} {xs ys : List ℕ}
    → Prints contents old mid xs → Prints contents mid new ys → Prints contents old new (xs ++ ys)
unfolding TookOf
printed_then first second =
    prints_of (second.same ∙ first.same) (took_both _ _ _ _ _ _ _ _ _ _ _ (took_of first) (took_of second))

-- nothing is printed
pub printed_none : {W : Type 0} {contents : W → Option (List ℕ)} {old : Printer W} → Prints contents old old []
unfolding TookOf
printed_none = prints_of refl took_none

-- text that waits after what already waited
pub printed_waits : {W : Type 0} {contents : W → Option (List ℕ)} {old new : Printer W} {text : List ℕ}
    → new.writer ≡ old.writer → waiting_of new ≡ waiting_of old ++ text → Prints contents old new text
printed_waits {W} {contents} {old} {new} {text} same added = record {
  same = ap (λ (writer : MutBor (Watched W)). writer.ghost_name) same;
  front = [];
  back = waiting_of new;
  cut = sym added;
  taken = rw same (Appends-nil (contents (inner_of (writer_of old))));
  whole = λ e. (rw same at e, refl);
  nothing = λ e. (rw same e, refl);
}

-- what waits is written
pub printed_at_once : {W : Type 0} {contents : W → Option (List ℕ)} {old new : Printer W}
    → Finishes contents old new → Prints contents old new []
printed_at_once finished = prints_of finished.same (finish_of finished)

-- Text that was printed from a start on and then written is what was written to the writer, whose last state is the
-- printer's.
pub printed_finished : {W : Type 0} {contents : W → Option (List ℕ)} {start last : Watched W} {made old new : Printer W}
    {text : List ℕ} → StartsAt start made → Prints contents made old text → Finishes contents old new
    → last ≡ writer_of new → Writes contents start last text
printed_finished {W} {contents} {start} {last} {made} {old} {new} {text} starts printed finished is =
    let all = printed_then printed (printed_at_once finished) in
    let wrote : Writes contents (writer_of made) (writer_of new) text = record {
      front = all.front;
      back = all.back;
      cut = sym (append-nil text) ∙ ap (λ l. l ++ (text ++ [])) (sym starts.none_waits) ∙ all.cut;
      taken = all.taken;
      whole = λ e. ((all.whole e).0, (all.whole e).1 ∙ finished.none_waits);
      nothing = all.nothing;
    } in
    subst (λ (from : Watched W). Writes contents from last text) starts.as_it_is (rw is wrote)

-- one more line of a list that is printed line by line
pub printed_line : {X W : Type 0} {contents : W → Option (List ℕ)} {old mid new : Printer W}
    (line : List ℕ → List ℕ) (text : X → List ℕ) (xs : List X) (i : ℕ) (d : X) → i < length xs
    → Prints contents old mid (flat_map line (map text (take i xs)))
    → Prints contents mid new (line (text (get_or xs i d)))
    → Prints contents old new (flat_map line (map text (take (i + 1) xs)))
printed_line {X} {W} {contents} {old} {mid} {new} line text xs i d within first second =
    subst (λ (zs : List ℕ). Prints contents old new zs)
    (sym (ap (λ (l : List X). flat_map line (map text l)) (take_more xs i d within)
    ∙ ap (flat_map line) (map-append text (take i xs) (get_or xs i d ∷ []))
    ∙ flat_map-append line (map text (take i xs)) (text (get_or xs i d) ∷ [])
    ∙ ap (λ l. flat_map line (map text (take i xs)) ++ l) (append-nil (line (text (get_or xs i d))))))
    (printed_then first second)
