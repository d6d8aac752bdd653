-- The bytes are the encoding of one tag and one checkpoint.
use Rattle.hlc_saved.proofs.SaveLemmas.{resumed_tag, resumed_represents, resumed_only}
use Rattle.hlc_saved.proofs.saving.resume.Goals as goal

pub returns-clause-tag : goal.returns-clause-tag
returns-clause-tag c = λ tag kept of.
    resumed_tag c.resume_exactly.result c.args.bytes.now tag kept of c.resume_exactly.ensures

pub returns-clause-represents : goal.returns-clause-represents
returns-clause-represents c = λ tag past of.
    resumed_represents c.resume_exactly.result c.args.bytes.now tag past of c.resume_exactly.ensures

pub returns-clause-only : goal.returns-clause-only
returns-clause-only c = λ tag kept of.
    resumed_only c.resume_exactly.result c.args.bytes.now tag kept of c.resume_exactly.ensures
