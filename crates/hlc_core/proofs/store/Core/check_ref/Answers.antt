-- What the link refuses is the expected refusal, and an item that it admits is not refused.
use Rattle.hlc_core.proofs.Links.{checks}
use Rattle.hlc_core.proofs.store.Core.check_ref.Goals as goal

pub returns : goal.returns
returns c = λ past h.
    let h' = rw (← c.self.view_is) at h in
    checks _ past c.args.item.now c.check.result h' (rw c.links.ensures at c.check.ensures)
