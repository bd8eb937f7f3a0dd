use Rattle.reach_rules.proofs.ChainLaws.{chain-here, origin-here, rising-here, any-here, settled-here, rows-bound, one-list}
use Rattle.reach_rules.proofs.chains.chain_law.Goals as goal

pub returns-clause-chain : goal.returns-clause-chain
returns-clause-chain c = chain-here

pub returns-clause-origin : goal.returns-clause-origin
returns-clause-origin c = origin-here

pub returns-clause-rising : goal.returns-clause-rising
returns-clause-rising c = rising-here

pub returns-clause-any : goal.returns-clause-any
returns-clause-any c = any-here

pub returns-clause-settled : goal.returns-clause-settled
returns-clause-settled c = settled-here

pub returns-clause-rows : goal.returns-clause-rows
returns-clause-rows c = rows-bound

pub returns-clause-one : goal.returns-clause-one
returns-clause-one c = one-list
