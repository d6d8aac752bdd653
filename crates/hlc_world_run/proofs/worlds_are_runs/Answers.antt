-- The run of a schedule says what the schedule says, and each event has its place in it.
use Rattle.hlc_world_run.proofs.{Mirrors.mirrored, Orders.stamped, Orders.ordered, Orders.events}
use Rattle.hlc_world_run.proofs.worlds_are_runs.Goals as goal

pub returns-clause-legal : goal.returns-clause-legal
returns-clause-legal c = λ nodes s legal. (mirrored nodes s legal).legal

pub returns-clause-past : goal.returns-clause-past
returns-clause-past c = λ nodes s legal. (mirrored nodes s legal).past_is

pub returns-clause-items : goal.returns-clause-items
returns-clause-items c = λ nodes s n legal. (mirrored nodes s legal).link n

pub returns-clause-clocks : goal.returns-clause-clocks
returns-clause-clocks c = λ nodes s n legal. (mirrored nodes s legal).clock n

pub returns-clause-stamps : goal.returns-clause-stamps
returns-clause-stamps c = stamped

pub returns-clause-before : goal.returns-clause-before
returns-clause-before c = λ nodes s first later legal h. ordered nodes s legal h

pub returns-clause-events : goal.returns-clause-events
returns-clause-events c = events
