-- No past changes.
use Rattle.hlc_routing.proofs.laws.events_keep_stores.Goals as goal

pub returns-clause-issued : goal.returns-clause-issued
returns-clause-issued c = λ layout kept run s item h legal.
    record { legal = legal; many = h.many; pasts = h.pasts; routed = h.routed }

pub returns-clause-sent : goal.returns-clause-sent
returns-clause-sent c = λ layout kept run m stamp h legal.
    record { legal = legal; many = h.many; pasts = h.pasts; routed = h.routed }

pub returns-clause-received : goal.returns-clause-received
returns-clause-received c = λ layout kept run m message stamp h legal.
    record { legal = legal; many = h.many; pasts = h.pasts; routed = h.routed }

pub returns-clause-observed : goal.returns-clause-observed
returns-clause-observed c = λ layout kept run m s at stamp h legal.
    record { legal = legal; many = h.many; pasts = h.pasts; routed = h.routed }
