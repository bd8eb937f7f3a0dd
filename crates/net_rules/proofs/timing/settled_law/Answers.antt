use Rattle.net_rules.proofs.PlanLaws.{IsDelayed-well}
use Rattle.net_rules.proofs.QuietLaws.{settled-stays}
use Rattle.net_rules.proofs.BoundLaws.{bound-settles}
use Rattle.net_rules.proofs.NewsLaws.{settled-by_news, news-by_settled}
use Rattle.net_rules.proofs.SettledLaws.{no-pair}
use Rattle.net_rules.proofs.LosingLaws.{soon-settles}
use Rattle.net_rules.proofs.timing.settled_law.Goals as goal

pub returns-clause-stays : goal.returns-clause-stays
returns-clause-stays c = λ plan signals out t u well. settled-stays plan signals out t u (IsDelayed-well plan well)

pub returns-clause-bound : goal.returns-clause-bound
returns-clause-bound c = λ plan signals out last bound t well. bound-settles plan signals out last bound t (IsDelayed-well plan well)

pub returns-clause-news : goal.returns-clause-news
returns-clause-news c = λ plan signals out t. (settled-by_news plan signals out t, news-by_settled plan signals out t)

pub returns-clause-unpaired : goal.returns-clause-unpaired
returns-clause-unpaired c = no-pair

pub returns-clause-soon : goal.returns-clause-soon
returns-clause-soon c = soon-settles
