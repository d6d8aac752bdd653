-- Each store begins with what the one before it keeps, and goes on from there.
use Rattle.hlc_ranges.proofs.{Times.clocks-on, Cuts.complete-in, NewestWrites.consistent}
use Rattle.hlc_ranges.proofs.Changes.{newest-led, floor-led, reads-led}
use Rattle.hlc_ranges.proofs.cuts_go_on.Goals as goal

pub returns-clause-newest : goal.returns-clause-newest
returns-clause-newest c = newest-led

pub returns-clause-floors : goal.returns-clause-floors
returns-clause-floors c = floor-led

pub returns-clause-reads : goal.returns-clause-reads
returns-clause-reads c = reads-led

pub returns-clause-complete : goal.returns-clause-complete
returns-clause-complete c = complete-in

pub returns-clause-consistent : goal.returns-clause-consistent
returns-clause-consistent c = consistent

pub returns-clause-clocks : goal.returns-clause-clocks
returns-clause-clocks c = clocks-on
