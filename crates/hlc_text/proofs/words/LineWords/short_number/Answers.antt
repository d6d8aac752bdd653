-- The digits at the front are the next word.
use Rattle.std.proofs.Common.{◌<◌, ◌∙◌, sym, length, arith}
use Rattle.hlc_text.proofs.NumberWords.{only_word, first_word}
use Rattle.hlc_text.proofs.words.LineWords.short_number.Goals as goal

pub returns-then-count-text : goal.returns-then-count-text
returns-then-count-text c =
    let e = only_word c.self.inside.rest.now c.in-Some.value c.in-Some.count c.in-Some.ensures.2 c.in-Some.ensures.3
    c.if-count-text.true in
    let v = c.self.view_is in
    (c.in-Some.ensures.0, sym v ∙ rw c.if-self.false e)

pub returns : goal.returns
returns c =
    let within : c.in-Some.count < length c.self.inside.rest.now =
    omega (arith, c.in-Some.ensures.1, c.if-count-text.false) in
    let e = first_word c.self.inside.rest.now c.in-Some.value c.in-Some.count c.in-Some.ensures.2 c.in-Some.ensures.3
    within c.if-text-count-ne32.false in
    let v = c.self.view_is in
    (c.in-Some.ensures.0, sym v ∙ rw c.if-self.false e)
