-- The digest was made and read.
use Rattle.std.proofs.{Common.arith, lemmas.Bool.leb-true}
use Rattle.hlc_saved.proofs.Savers.{whole_read}
use Rattle.hlc_saved.proofs.savings.Saver.is_read.Goals as goal

pub returns-then-self-clause-whole : goal.returns-then-self-clause-whole
returns-then-self-clause-whole c = λ is tag kept read has.
    let le = leb-true c.len.result c.args.self.now.at is in
    let long = c.len.ensures in
    whole_read c.args.self.now tag kept read c.if-self.true (omega (arith, le, long)) has
