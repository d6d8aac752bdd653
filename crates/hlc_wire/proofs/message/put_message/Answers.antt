-- The parts of a message, one after the other.
use Rattle.std.proofs.Common.{◌≡◌, ◌++◌, rules}
use Rattle.std.specs.Int.{w16, w64, to_be_bytes}
use Rattle.hlc_wire.proofs.ItemLemmas.{message_written}
use Rattle.hlc_wire.proofs.message.put_message.Goals as goal

pub returns-clause-ok : goal.returns-clause-ok
returns-clause-ok c =
    let both : c.extend_from_slice.new.self.items ≡ c.push.new.self.items ++ to_be_bytes w16 c.args.message.now.from =
    search rules in
    let all' : c.extend_from_slice-2.new.self.items
    ≡ c.extend_from_slice.new.self.items ++ to_be_bytes w64 c.args.message.now.stamp =
    rw (← c.bits-stamp.ensures.value) (search rules) in
    message_written c.args.out.now.items c.push.new.self.items c.extend_from_slice.new.self.items
    c.extend_from_slice-2.new.self.items c.args.message.now c.in_ok-push.ensures.items both all'
