-- No event has another verb.
use Rattle.std.proofs.Common.{rules}
use Rattle.hlc_world_event.specs.declared.event.Event.TheVariants.{Write, Delete, Report, Retire, Join, Send, Receive}
use Rattle.hlc_world_event.specs.declared.event.Event.TheVariants.{Observe, Deliver, OpenAt, OpenFloor, Read}
use Rattle.hlc_world_event.specs.declared.event.Event.TheVariants.{List as ListAll, Close, Floor, Vacuum, Rows}
use Rattle.hlc_line.proofs.line.event_of_words.Goals as goal

pub returns-in_default : goal.returns-in_default
returns-in_default c (Write node reading key value) has same = search rules
returns-in_default c (Delete node reading key) has same = search rules
returns-in_default c (Report node reading) has same = search rules
returns-in_default c (Retire node reading) has same = search rules
returns-in_default c Join has same = search rules
returns-in_default c (Send node reading) has same = search rules
returns-in_default c (Receive node reading message) has same = search rules
returns-in_default c (Observe node reading id) has same = search rules
returns-in_default c (Deliver node number) has same = search rules
returns-in_default c (OpenAt stamp) has same = search rules
returns-in_default c OpenFloor has same = search rules
returns-in_default c (Read id key) has same = search rules
returns-in_default c (ListAll id) has same = search rules
returns-in_default c (Close id) has same = search rules
returns-in_default c Floor has same = search rules
returns-in_default c Vacuum has same = search rules
returns-in_default c Rows has same = search rules
