use Rattle.sync_topo.specs.declared.returns.ReturnRule.TheVariants.{BarredFromLast}
use Rattle.sync_topo.specs.Lines.{numbers}
use Rattle.sync_topo.specs.Hops.{bears_on}
use Rattle.cycle_plan.proofs.AgreedLemmas.{bears-nominates}
use Rattle.cycle_plan.proofs.BoundLemmas.{cyclic-none}
use Rattle.cycle_plan.proofs.CycleLaws.{IsCycle-first, All_within-first}
use Rattle.cycle_plan.proofs.agreement.agree.Goals as goal

pub returns-in-Some-clause-circle : goal.returns-in-Some-clause-circle
returns-in-Some-clause-circle c =
    IsCycle-first BarredFromLast c.args.plan.now (numbers c.in_ok-lines-in-Some.lines) c.in_ok-lines-in-Some.ensures

pub returns-in-Some-clause-within : goal.returns-in-Some-clause-within
returns-in-Some-clause-within c =
    All_within-first BarredFromLast c.args.plan.now (numbers c.in_ok-lines-in-Some.lines) c.in_ok-lines-in-Some.ensures

pub returns-in-Some-clause-never : goal.returns-in-Some-clause-never
returns-in-Some-clause-never c bound is =
    cyclic-none (bears_on c.args.plan.now) c.args.plan.now (numbers c.in_ok-lines-in-Some.lines) (bears-nominates c.args.plan.now)
    c.in_ok-lines-in-Some.ensures is.ranked
