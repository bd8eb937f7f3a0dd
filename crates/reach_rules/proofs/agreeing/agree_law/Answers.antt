use Rattle.reach_rules.proofs.AgreedLaws.{agreeing-rises, rising-agrees, agreed-rests, steady-from-bound, settled-from-bound, best-from-bound, comes-to-rest}
use Rattle.reach_rules.proofs.agreeing.agree_law.Goals as goal

pub returns-clause-rising : goal.returns-clause-rising
returns-clause-rising c = agreeing-rises

pub returns-clause-one_way : goal.returns-clause-one_way
returns-clause-one_way c = rising-agrees

pub returns-clause-steady : goal.returns-clause-steady
returns-clause-steady c plan signals out last bound element t well obeys is quiet auto timed after =
    steady-from-bound plan signals out last bound (agreed-rests plan signals out last bound is quiet) well obeys auto element timed t after

pub returns-clause-settled : goal.returns-clause-settled
returns-clause-settled c plan signals out last bound t well obeys is quiet auto timed after =
    settled-from-bound plan signals out last bound (agreed-rests plan signals out last bound is quiet) well obeys auto timed t after

pub returns-clause-best : goal.returns-clause-best
returns-clause-best c plan signals out last bound t well obeys is quiet auto timed after element within =
    best-from-bound plan signals out last bound (agreed-rests plan signals out last bound is quiet) well obeys auto timed t element after within

pub returns-clause-by_events : goal.returns-clause-by_events
returns-clause-by_events c = comes-to-rest
