-- The store represents one more opening.
use Rattle.example_embed.proofs.story.open.Goals as goal

pub returns-in-Ok : goal.returns-in-Ok
returns-in-Ok c = λ stood.
    let opened = c.in-Ok.ensures.represents stood.0 stood.1 in
    (_, opened.2)
