-- Rows at or below the stamp only go, of the keys of each part from that part on.
use Rattle.hlc_vacuum_parts.proofs.Between.{a-pass-leaves-no-more}
use Rattle.hlc_vacuum_parts.proofs.a_pass_leaves_no_more.Goals as goal

pub returns : goal.returns
returns c = a-pass-leaves-no-more
