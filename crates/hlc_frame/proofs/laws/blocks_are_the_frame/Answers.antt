-- Both follow from opening all that was fed.
use Rattle.hlc_frame.proofs.FrameLemmas.{tag_read, frame_read}
use Rattle.hlc_frame.proofs.laws.blocks_are_the_frame.Goals as goal

pub returns-clause-found : goal.returns-clause-found
returns-clause-found c = tag_read

pub returns-clause-only : goal.returns-clause-only
returns-clause-only c = frame_read
