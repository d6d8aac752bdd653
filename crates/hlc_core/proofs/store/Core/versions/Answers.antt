-- The stored rows of the key are accepted writes, and above the horizon they are all of them.
use Rattle.hlc_core.proofs.Versioned.{versions-accepted, versions-all}
use Rattle.hlc_core.proofs.store.Core.versions.Goals as goal

pub returns-clause-accepted : goal.returns-clause-accepted
returns-clause-accepted c = λ past h.
    let h' = rw (← c.self.view_is) at h in
    versions-accepted _ past c.args.key.now c.args.from c.args.to c.versions.result h' c.versions.ensures

pub returns-clause-all : goal.returns-clause-all
returns-clause-all c = λ past h low.
    let h' = rw (← c.self.view_is) at h in
    versions-all _ past c.args.key.now c.args.from c.args.to c.versions.result h' c.versions.ensures low
