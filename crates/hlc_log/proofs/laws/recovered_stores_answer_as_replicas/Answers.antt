-- What is recovered is at a place of the log, and stores at places of one log can meet.
use Rattle.hlc_log.proofs.PlaceLemmas.{recovered-place, places-agree, recovered-agree}
use Rattle.hlc_log.proofs.laws.recovered_stores_answer_as_replicas.Goals as goal

pub returns-clause-place : goal.returns-clause-place
returns-clause-place c = recovered-place

pub returns-clause-answers : goal.returns-clause-answers
returns-clause-answers c = places-agree

pub returns-clause-recovered : goal.returns-clause-recovered
returns-clause-recovered c = recovered-agree
