-- The parts of the line are printed one after another.
use Rattle.hlc.proofs.PrintLemmas.{printed_then}
use Rattle.example_embed.proofs.reads.put_answer.Goals as goal

pub returns : goal.returns
returns g c =
    printed_then (printed_then (printed_then c.put_named_bytes.ensures c.put_named_stamp.ensures) c.put_value.ensures)
    c.put.ensures
