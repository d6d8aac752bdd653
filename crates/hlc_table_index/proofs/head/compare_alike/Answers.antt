-- Bytes after the end of a key count as zeros in its head.
use Rattle.std.proofs.Common.{◌∙◌, sym}
use Rattle.hlc_table_index.proofs.Heads.{alike_short}
use Rattle.hlc_table_index.proofs.head.compare_alike.Goals as goal

pub returns-then-other-le-HEAD : goal.returns-then-other-le-HEAD
returns-then-other-le-HEAD c =
    c.cmp.ensures
    ∙ sym (alike_short c.args.key.now c.args.other.now c.requires.bytes c.requires.other_bytes c.requires.alike
    c.if-key-le-HEAD.true c.if-other-le-HEAD.true)
