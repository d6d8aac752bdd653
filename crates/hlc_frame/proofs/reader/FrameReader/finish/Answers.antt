-- The front has a fault, or its tag; the bytes after it decide the rest.
use Rattle.std.proofs.Common.{◌≡◌, take, drop, Ok, Err, ap, sym, ◌∙◌}
use Rattle.std.proofs.lemmas.Result.{err_from_is_err_and}
use Rattle.hlc_frame.specs.Opening.{front_at}
use Rattle.hlc_frame.proofs.{FrameLemmas.tag_found, FrameLemmas.tag_fault, FrameLemmas.failed, BlockLemmas.goes_some}
use Rattle.hlc_frame.proofs.reader.FrameReader.finish.Goals as goal

pub returns-in_err-found : goal.returns-in_err-found
returns-in_err-found c = λ fed has.
    let p = err_from_is_err_and c.from_residual.result c.from_residual.ensures.1 in
    let fault : front_at (take 20 fed) ≡ Err c.in_err-found.field-0.0 =
    ap front_at (sym (c.as_slice.ensures.value ∙ has.front)) ∙ c.in_err-found.ensures in
    p.1 ∙ failed p.0 c.in_err-found.field-0.0 p.2 ∙ tag_fault fed c.in_err-found.field-0.0 fault

pub returns-in-Some : goal.returns-in-Some
returns-in-Some c = λ fed has.
    let found : front_at (take 20 fed) ≡ Ok (c.in_ok-found.found, c.in_ok-found.field-0-1.now) =
    ap front_at (sym (c.as_slice.ensures.value ∙ has.front)) ∙ c.in_ok-found.ensures in
    c.finish.ensures (take 20 fed) c.in_ok-found.found.len (drop 20 fed)
    (goes_some (front_at (take 20 fed)) c.args.self.rest (take 20 fed) (drop 20 fed)
    (c.in_ok-found.found, c.in_ok-found.field-0-1.now) c.in-Some.reader has.rest found c.in-Some.is)
    ∙ tag_found fed (c.in_ok-found.found, c.in_ok-found.field-0-1.now) found
