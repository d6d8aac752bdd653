-- At first nothing is printed and all pieces are left, which spell the bytes. Each step moves a piece from what is left
-- to what is printed.
use Rattle.std.proofs.Common.{[], ◌++◌, sym, ap, ◌∙◌, append_assoc, arith}
use Rattle.percent_encoding.specs.Iter.{encoded_text}
use Rattle.hlc_text.proofs.{PrintLemmas.printed_none, PrintLemmas.printed_then, Spelled.spelled}
use Rattle.hlc_text.proofs.printer.Printer.put_each_byte.Goals as goal

pub loop-piece-init : goal.loop-piece-init
loop-piece-init g c = (
  [],
  printed_none,
  ap encoded_text c.into_iter-piece-iterator.ensures.into_iter_gives ∙ c.percent_encode-piece-items.ensures.text
      ∙ spelled c.args.bytes.now (λ i. omega (arith, c.type_inv.bytes i)),
)

pub loop-piece-preserved : goal.loop-piece-preserved
loop-piece-preserved g c =
    let (done, printed, is) = c.loop-piece.invariant in
    let piece = c.as_bytes.result.now in
    let rest = encoded_text c.next.new.self in (
      done ++ piece,
      printed_then printed c.put.ensures,
      append_assoc done piece rest
          ∙ ap (λ l. done ++ l) (ap (λ l. l ++ rest) c.as_bytes.ensures.value ∙ sym c.in-Some.ensures.steps) ∙ is,
    )
