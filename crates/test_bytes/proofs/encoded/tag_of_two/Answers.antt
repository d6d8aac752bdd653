-- Both blocks were fed in.
use Rattle.std.proofs.Common.{[], ◌++◌}
use Rattle.test_bytes.proofs.encoded.tag_of_two.Goals as goal

pub returns : goal.returns
returns c =
    c.finish.ensures (c.args.first.now ++ c.args.second.now)
    (c.feed-2.ensures.read c.args.first.now (c.feed.ensures.read [] c.new-reader.ensures))
