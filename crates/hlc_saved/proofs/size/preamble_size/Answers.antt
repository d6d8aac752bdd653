-- The parts add up to it.
use Rattle.hlc_body.specs.Seen.{seen}
use Rattle.hlc_saved.proofs.Sizes.{preamble_parts}
use Rattle.hlc_saved.proofs.size.preamble_size.Goals as goal

pub returns-clause-size : goal.returns-clause-size
returns-clause-size c =
    preamble_parts (seen c.args.preamble.now) c.links_size.result c.snapshots_size.result c.links_size.ensures.size
    c.snapshots_size.ensures.size
