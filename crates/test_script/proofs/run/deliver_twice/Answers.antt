-- The second step continues where the first one ended.
use Rattle.test_script.proofs.run.deliver_twice.Goals as goal

pub returns : goal.returns
returns c = λ nodes schedule represents. c.step-second.ensures.represents nodes _
    (c.step-first.ensures.represents nodes schedule represents)
