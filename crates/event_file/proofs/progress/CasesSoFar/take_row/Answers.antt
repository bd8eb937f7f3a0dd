use Rattle.std.proofs.Common.{◌∙◌, sym, arith}
use Rattle.event_file.proofs.CaseTaking.{limit-broken, fields-broken, name-broken, apart-broken, said-broken, row-taken}
use Rattle.event_file.proofs.progress.CasesSoFar.take_row.Goals as goal

pub returns-then-limit-number-clause-refused : goal.returns-then-limit-number-clause-refused
returns-then-limit-number-clause-refused c = λ done taken.
    limit-broken c.args.plan.now done c.args.self.now c.args.row.now taken (omega (arith, c.event_limit-limit.ensures.limit, c.if-limit-number.true))

pub returns-in_default-clause-refused : goal.returns-in_default-clause-refused
returns-in_default-clause-refused c = λ done taken.
    fields-broken c.args.plan.now done c.args.self.now c.args.row.now taken (omega (arith, c.event_limit-limit.ensures.limit, c.if-limit-number.false)) c.in_default.ensures

pub returns-then-not-may_follow-clause-refused : goal.returns-then-not-may_follow-clause-refused
returns-then-not-may_follow-clause-refused c = λ done taken.
    let may = sym (c.may_follow.ensures c.args.plan.now done taken) ∙ c.if-not-may_follow.true in
    name-broken c.args.plan.now done c.args.row.now c.in-Some.name.now c.in-Some.at.now c.in-Some.word.now c.in-Some.target.now c.in-Some.value.now c.in-Some.ensures
    c.args.self.now taken (omega (arith, c.event_limit-limit.ensures.limit, c.if-limit-number.false)) may

pub returns-in-Err-clause-refused : goal.returns-in-Err-clause-refused
returns-in-Err-clause-refused c = λ done taken.
    let may = sym (c.may_follow.ensures c.args.plan.now done taken) ∙ c.if-not-may_follow.false in
    apart-broken c.args.plan.now done c.args.row.now c.in-Some.name.now c.in-Some.at.now c.in-Some.word.now c.in-Some.target.now c.in-Some.value.now c.in-Some.ensures
    c.args.self.now c.in-Err.error taken (omega (arith, c.event_limit-limit.ensures.limit, c.if-limit-number.false)) may (c.in-Err.ensures.apart c.args.plan.now done taken)

pub returns-in-Err-event_said-clause-refused : goal.returns-in-Err-event_said-clause-refused
returns-in-Err-event_said-clause-refused c = λ done taken.
    let may = sym (c.may_follow.ensures c.args.plan.now done taken) ∙ c.if-not-may_follow.false in
    said-broken c.args.plan.now done c.args.row.now c.in-Some.name.now c.in-Some.at.now c.in-Some.word.now c.in-Some.target.now c.in-Some.value.now c.in-Some.ensures
    c.come_to.new.self c.args.self.now.rows c.in-Err-event_said.refused (c.in-Ok.ensures.sorted c.args.plan.now done taken may) taken.sorted.numbered
    (omega (arith, c.event_limit-limit.ensures.limit, c.if-limit-number.false)) may (c.in-Ok.ensures.together c.args.plan.now done taken may) c.in-Err-event_said.ensures.refused

pub returns-clause-taken : goal.returns-clause-taken
returns-clause-taken c = λ done taken.
    let may = sym (c.may_follow.ensures c.args.plan.now done taken) ∙ c.if-not-may_follow.false in
    let facts = c.in-Ok-event_said.ensures in
    rw c.in_ok-put.ensures
    (row-taken c.args.plan.now done c.args.row.now c.in-Some.name.now c.in-Some.at.now c.in-Some.word.now c.in-Some.target.now c.in-Some.value.now c.in-Some.ensures
    c.come_to.new.self c.args.self.now.rows c.in-Ok-event_said.event (c.in-Ok.ensures.sorted c.args.plan.now done taken may) taken.sorted.numbered
    (omega (arith, c.event_limit-limit.ensures.limit, c.if-limit-number.false)) may (c.in-Ok.ensures.together c.args.plan.now done taken may) facts.sound facts.event facts.time facts.after facts.in_time facts.fits)
