-- The lines say one certificate, which is valid or has one first reason.
use Rattle.hlc_certificate.proofs.OneAnswer.{one_answer}
use Rattle.hlc_certificate.proofs.laws.one_answer_for_an_input.Goals as goal

pub returns : goal.returns
returns c = one_answer
