-- The pending bytes are continued.
use Rattle.hlc_saved.proofs.Blocks.{taken}
use Rattle.hlc_saved.proofs.parts.PartsReader.take.Goals as goal

pub returns-clause-ok : goal.returns-clause-ok
returns-clause-ok c = λ read has.
    taken c.extend_from_slice.result c.args.self.now.stage c.args.self.now.at c.args.self.now.pending.items
    c.extend_from_slice.new.self.items c.args.bytes.now read c.requires c.extend_from_slice.ensures.items has
