-- A new store represents its start.
use Rattle.example_embed.proofs.story.run.Goals as goal

pub returns : goal.returns
returns g c = c.run_on.ensures (_, c.in_ok-core.ensures.1)
