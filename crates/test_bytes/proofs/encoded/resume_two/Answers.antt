-- The reader got the first block, and then the second; or there was no memory for one of them.
use Rattle.std.proofs.Common.{[], ◌++◌, inl, inr, rules}
use Rattle.test_bytes.proofs.encoded.resume_two.Goals as goal

pub returns-in_err-feed : goal.returns-in_err-feed
returns-in_err-feed c = inl (search rules)

pub returns-in_err-feed-2 : goal.returns-in_err-feed-2
returns-in_err-feed-2 c = inl (search rules)

pub returns : goal.returns
returns c =
    inr (c.finish.ensures (c.args.first.now ++ c.args.second.now)
    (c.in_ok-feed-2.ensures.ok c.args.first.now (c.in_ok-feed.ensures.ok [] c.new-reader.ensures)))
