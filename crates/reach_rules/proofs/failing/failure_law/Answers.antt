use Rattle.reach_rules.proofs.AgreedLaws.{steady-from-bound, settled-from-bound, best-from-bound}
use Rattle.reach_rules.proofs.FailingLaws.{failed-rests, rests-after_failures, planned-told, rests-soon, sooner, only-one}
use Rattle.reach_rules.proofs.SurvivalLaws.{survives-soon, survives-each_soon, survives-soon_with}
use Rattle.reach_rules.proofs.failing.failure_law.Goals as goal

pub returns-clause-steady : goal.returns-clause-steady
returns-clause-steady c told plan signals out settled last bound element t well obeys is losing levels auto timed after =
    steady-from-bound plan signals out last bound (failed-rests told plan signals out settled last bound well obeys is losing levels) well obeys auto element timed t after

pub returns-clause-settled : goal.returns-clause-settled
returns-clause-settled c told plan signals out settled last bound t well obeys is losing levels auto timed after =
    settled-from-bound plan signals out last bound (failed-rests told plan signals out settled last bound well obeys is losing levels) well obeys auto timed t after

pub returns-clause-best : goal.returns-clause-best
returns-clause-best c told plan signals out settled last bound t well obeys is losing levels auto timed after element within =
    best-from-bound plan signals out last bound (failed-rests told plan signals out settled last bound well obeys is losing levels) well obeys auto timed t element after within

pub returns-clause-by_events : goal.returns-clause-by_events
returns-clause-by_events c = rests-after_failures

pub returns-clause-planned : goal.returns-clause-planned
returns-clause-planned c = planned-told

pub returns-clause-soon : goal.returns-clause-soon
returns-clause-soon c = rests-soon

pub returns-clause-one : goal.returns-clause-one
returns-clause-one c = survives-soon

pub returns-clause-survives : goal.returns-clause-survives
returns-clause-survives c = survives-each_soon

pub returns-clause-survives_with : goal.returns-clause-survives_with
returns-clause-survives_with c = survives-soon_with

pub returns-clause-sooner : goal.returns-clause-sooner
returns-clause-sooner c = sooner

pub returns-clause-only : goal.returns-clause-only
returns-clause-only c = only-one
