-- One row after another goes in, and those of the other writes are still new. If one does not, all go out again.
use Rattle.std.proofs.Common.{◌-◌, refl}
use Rattle.hlc_rows.specs.Spelled.{write_seen}
use Rattle.hlc_columns.proofs.Removed.{begin, next-new, go-on, ended, so-far}
use Rattle.hlc_columns.proofs.table.Table.insert_writes.Goals as goal

pub loop-first-init : goal.loop-first-init
loop-first-init c =
    rw c.lend-rest.ensures (begin c.args.self.now c.args.node c.args.stamp c.args.writes c.requires.new c.requires.once)

pub insert_near-requires : goal.insert_near-requires
insert_near-requires c =
    next-new c.args.self.now c.args.node c.args.stamp c.args.writes c.loop-first.self c.loop-first.rest
    (write_seen c.in-Some.first) c.in-Some.others c.loop-first.invariant c.in-Some.ensures

pub loop-first-preserved : goal.loop-first-preserved
loop-first-preserved c =
    go-on c.args.self.now c.args.node c.args.stamp c.args.writes c.loop-first.self c.loop-first.rest
    (write_seen c.in-Some.first) c.in-Some.others c.insert_near.new.self c.loop-first.invariant c.in-Some.ensures
    c.in-Ok.ensures.last

pub returns-clause-ok : goal.returns-clause-ok
returns-clause-ok c =
    ended c.args.self.now c.args.node c.args.stamp c.args.writes c.loop-first.self c.loop-first.rest
    c.loop-first.invariant c.in_default.ensures

pub returns-in-Err-clause-unchanged : goal.returns-in-Err-clause-unchanged
returns-in-Err-clause-unchanged c =
    c.remove_first.ensures c.args.self.now c.args.node c.args.stamp
    (rw c.in-Err.ensures.unchanged
    (so-far c.args.self.now c.args.node c.args.stamp c.args.writes c.loop-first.self c.loop-first.rest
    (write_seen c.in-Some.first) c.in-Some.others (c.len.result - 1 - c.len-in-Err.result) c.loop-first.invariant
    c.in-Some.ensures (rw (c.len.ensures, c.len-in-Err.ensures) refl)))
