use Rattle.nominate.proofs.CandidateLaws.{priorities-given, small-after}
use Rattle.nominate.proofs.numbering.new_priorities.Goals as goal

pub number_all-requires-2-clause-small : goal.number_all-requires-2-clause-small
number_all-requires-2-clause-small c =
    small-after c.args.plan.now c.args.hops.now c.in_ok-numbering.ensures.well_formed c.requires c.in_ok-numbering.numbering c.number_all.new.self c.in_ok-numbering.ensures.numbered c.number_all.ensures

pub returns-clause-given : goal.returns-clause-given
returns-clause-given c =
    priorities-given c.args.plan.now c.args.hops.now c.in_ok-numbering.ensures.well_formed c.requires c.in_ok-numbering.numbering c.number_all.new.self c.number_all-2.new.self
    c.in_ok-numbering.ensures.numbered c.in_ok-numbering.ensures.priorities c.number_all.ensures c.number_all-2.ensures
