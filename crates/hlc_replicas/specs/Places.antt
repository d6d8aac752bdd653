-- The place of a store in a log that replicas share.
use Rattle.std.specs.Prelude.{List, [], ◌∷◌}
use Rattle.hlc_core.specs.Past.{Step, Started, Began, Took, Joined}

-- what a past has of the log: the start, or the state that it begins with, the accepted items and the joins, in their
-- order
abbrev pub log_of : List Step → List Step
log_of [] = []
log_of (Started nodes ∷ past) = Started nodes ∷ log_of past
log_of (Began kept ∷ past) = Began kept ∷ log_of past
log_of (Took item ∷ past) = Took item ∷ log_of past
log_of (Joined node start ∷ past) = Joined node start ∷ log_of past
log_of (_ ∷ past) = log_of past
