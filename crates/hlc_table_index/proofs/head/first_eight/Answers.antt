-- Eight bytes are read as one number.
use Rattle.std.proofs.Common.{arith}
use Rattle.hlc_table_index.proofs.Heads.{head_whole}
use Rattle.hlc_table_index.proofs.head.first_eight.Goals as goal

pub returns-clause-value : goal.returns-clause-value
returns-clause-value c = let e = c.from_be_bytes.ensures in omega (arith, e, head_whole c.args.key.now)

pub returns-clause-bytes : goal.returns-clause-bytes
returns-clause-bytes c = λ k. let e = c.type_inv.key k in omega (arith, e)
