-- The store represents one more step after each call, so it represents some past at the end.
use Rattle.example_embed.proofs.story.fill.Goals as goal

pub returns : goal.returns
returns c = λ stood.
    let first = c.in_ok-say.ensures stood in
    let second = c.in_ok-say-2.ensures first in
    let reported = c.in_ok-report.ensures.keeps second in
    let early = c.in_ok-early.ensures reported in
    let third = c.in_ok-say-3.ensures early in
    let fourth = c.in_ok-say-4.ensures third in
    let fifth = c.in_ok-say-5.ensures fourth in
    let again = c.in_ok-report-2.ensures.keeps fifth in
    c.in_ok-late.ensures again
