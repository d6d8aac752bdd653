-- The snapshot that was opened is the one that is read, at its stamp, and it is closed again.
use Rattle.std.proofs.Common.{◌≡◌, ◌+◌, ◌∷◌, ◌∙◌, Some}
use Rattle.hlc.specs.Store.{Opened, stamp_of, open_snapshots, last_id}
use Rattle.hlc_snapshot.proofs.RegisterLemmas.{opened-here}
use Rattle.hlc_core.proofs.PastLemmas.{open-below, open-above}
use Rattle.hlc_core.proofs.CheckpointLemmas.{register-of}
use Rattle.example_life.proofs.replicas.read.Goals as goal

pub returns-in-Ok-close : goal.returns-in-Ok-close
returns-in-Ok-close c = λ past stood.
    let at = c.args.at in
    let opened = c.in-Ok.ensures.represents past stood in
    let there : stamp_of (last_id past + 1) (Opened at ∷ past) ≡ Some at =
    opened-here (record { snapshots = open_snapshots past; last_id = last_id past }) at
    (register-of past stood.legal) in
    let answers = rw (opened.1, there) at (c.in-Ok-read.ensures.represents (Opened at ∷ past) opened.2) in
    let closed = rw opened.1 at (c.in-Ok-close.ensures.represents (Opened at ∷ past) opened.2) in
    (open-above past at opened.0, open-below past at opened.0, c.in_ok-value-in-Ok-read.ensures ∙ answers, closed.1)
