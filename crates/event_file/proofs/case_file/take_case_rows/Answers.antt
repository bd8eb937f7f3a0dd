use Rattle.std.proofs.Common.{◌∙◌, sym, ap, Ok}
use Rattle.event_file.proofs.CaseTaking.{AreCasesLeft-none, AreCasesLeft-more, cases_refused, cases_given, common-list, cases-are, names-count, events-in_time, events-few}
use Rattle.event_file.proofs.case_file.take_case_rows.Goals as goal

pub loop-kept-init : goal.loop-kept-init
loop-kept-init c = (rw c.new-kept.ensures (AreCasesLeft-none c.args.plan.now c.args.records.now.left), c.requires)

pub loop-kept-preserved : goal.loop-kept-preserved
loop-kept-preserved c =
    let next = c.in_ok-advance.ensures.found (ap Ok c.if-branch.true) in (
      AreCasesLeft-more c.args.plan.now c.args.records.now.left c.taken.result.now c.advance.new.self.left c.loop-kept.kept c.take_row.new.self
          (rw (c.taken.ensures, ← next) c.loop-kept.invariant.0) c.in-Ok.ensures.taken,
      c.in_ok-advance.ensures.goes_on,
    )

pub returns-in-Err-clause-exact : goal.returns-in-Err-clause-exact
returns-in-Err-clause-exact c =
    let next = c.in_ok-advance.ensures.found (ap Ok c.if-branch.true) in
    cases_refused c.args.plan.now c.args.records.now.left c.taken.result.now c.advance.new.self.left c.loop-kept.kept c.in-Err.error
    (rw (c.taken.ensures, ← next) c.loop-kept.invariant.0) c.in-Err.ensures.refused

-- no row is left
pub returns-clause-exact : goal.returns-clause-exact
returns-clause-exact c =
    let none = c.in_ok-advance.ensures.none (ap Ok c.if-branch.false) in
    cases_given c.args.plan.now c.args.records.now.left c.loop-kept.kept (rw none at c.loop-kept.invariant.0) ∙ ap Ok (sym c.in_ok-cases.ensures)

pub returns-clause-common : goal.returns-clause-common
returns-clause-common c =
    let none = c.in_ok-advance.ensures.none (ap Ok c.if-branch.false) in
    rw c.in_ok-cases.ensures (common-list c.args.plan.now c.args.records.now.left c.loop-kept.kept (rw none at c.loop-kept.invariant.0))

pub returns-clause-each : goal.returns-clause-each
returns-clause-each c =
    let none = c.in_ok-advance.ensures.none (ap Ok c.if-branch.false) in
    rw c.in_ok-cases.ensures (cases-are c.args.plan.now c.args.records.now.left c.loop-kept.kept (rw none at c.loop-kept.invariant.0))

pub returns-clause-named : goal.returns-clause-named
returns-clause-named c =
    let none = c.in_ok-advance.ensures.none (ap Ok c.if-branch.false) in
    rw c.in_ok-cases.ensures (names-count c.args.plan.now c.args.records.now.left c.loop-kept.kept (rw none at c.loop-kept.invariant.0))

pub returns-clause-in_time : goal.returns-clause-in_time
returns-clause-in_time c =
    let none = c.in_ok-advance.ensures.none (ap Ok c.if-branch.false) in
    rw c.in_ok-cases.ensures (events-in_time c.args.plan.now c.args.records.now.left c.loop-kept.kept (rw none at c.loop-kept.invariant.0))

pub returns-clause-few : goal.returns-clause-few
returns-clause-few c =
    let none = c.in_ok-advance.ensures.none (ap Ok c.if-branch.false) in
    rw c.in_ok-cases.ensures (events-few c.args.plan.now c.args.records.now.left c.loop-kept.kept (rw none at c.loop-kept.invariant.0))
