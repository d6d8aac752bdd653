-- The store that was restored represents the past, and the log was applied to it.
use Rattle.hlc_log.proofs.recovery.recover.Goals as goal

pub returns-in-Err-clause-represents : goal.returns-in-Err-clause-represents
returns-in-Err-clause-represents c = λ tag past of. c.in-Err.ensures.only tag of.0 of.1

pub returns-clause-represents : goal.returns-clause-represents
returns-clause-represents c = λ tag past of. (
  c.in-Ok.ensures.tag tag of.0 of.1,
  c.apply_records-applied.ensures.represents past (c.in-Ok.ensures.represents tag past of),
)

pub returns-clause-sound : goal.returns-clause-sound
returns-clause-sound c =
    let is = c.in-Ok.ensures.exact in
    record {
      kept = is.0;
      saved = is.1;
      restored = c.in-Ok.made.core;
      copy = is.2;
      none = c.apply_records-applied.ensures.none;
      applied = c.apply_records-applied.ensures.represents;
    }
