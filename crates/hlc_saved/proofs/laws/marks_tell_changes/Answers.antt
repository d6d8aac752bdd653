-- Each change raises what never falls, or lowers what does not rise.
use Rattle.hlc_saved.proofs.GoesOn.{marks-tell}
use Rattle.hlc_saved.proofs.laws.marks_tell_changes.Goals as goal

pub returns : goal.returns
returns c = marks-tell
