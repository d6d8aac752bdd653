-- The value is printed, and then its line feed.
use Rattle.hlc_text.proofs.PrintLemmas.{printed_then}
use Rattle.hlc_script.proofs.reply.put_value.Goals as goal

pub returns : goal.returns
returns g c = printed_then c.put_named_bytes.ensures c.put.ensures
