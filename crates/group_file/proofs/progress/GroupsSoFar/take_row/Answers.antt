use Rattle.std.proofs.Common.{◌∙◌, sym, arith}
use Rattle.group_file.proofs.Taking.{limit-broken, fields-broken, name-broken, apart-broken, kind-broken, part-broken, repeated-broken, row-taken, listed-are}
use Rattle.group_file.proofs.progress.GroupsSoFar.take_row.Goals as goal

pub returns-then-limit-number-clause-refused : goal.returns-then-limit-number-clause-refused
returns-then-limit-number-clause-refused c = λ done taken.
    limit-broken c.args.plan.now done c.args.self.now c.args.row.now taken (omega (arith, c.event_limit-limit.ensures.limit, c.if-limit-number.true))

pub returns-in_default-clause-refused : goal.returns-in_default-clause-refused
returns-in_default-clause-refused c = λ done taken.
    fields-broken c.args.plan.now done c.args.self.now c.args.row.now taken (omega (arith, c.event_limit-limit.ensures.limit, c.if-limit-number.false)) c.in_default.ensures

pub returns-then-not-is_name-clause-refused : goal.returns-then-not-is_name-clause-refused
returns-then-not-is_name-clause-refused c = λ done taken.
    name-broken c.args.plan.now done c.args.row.now c.in-Some.name.now c.in-Some.kind.now c.in-Some.part.now c.in-Some.ensures c.args.self.now.rows taken.numbered (omega (arith, c.event_limit-limit.ensures.limit, c.if-limit-number.false)) (sym c.is_name.ensures ∙ c.if-not-is_name.true)

pub returns-in-Err-clause-refused : goal.returns-in-Err-clause-refused
returns-in-Err-clause-refused c = λ done taken.
    apart-broken c.args.plan.now done c.args.row.now c.in-Some.name.now c.in-Some.kind.now c.in-Some.part.now c.in-Some.ensures c.args.self.now.rows taken.numbered (omega (arith, c.event_limit-limit.ensures.limit, c.if-limit-number.false)) (sym c.is_name.ensures ∙ c.if-not-is_name.false) c.in-Err.error
    (c.in-Err.ensures.apart c.args.plan.now done taken)

pub returns-in_default-of-clause-refused : goal.returns-in_default-of-clause-refused
returns-in_default-of-clause-refused c = λ done taken.
    kind-broken c.args.plan.now done c.args.row.now c.in-Some.name.now c.in-Some.kind.now c.in-Some.part.now c.in-Some.ensures c.args.self.now.rows taken.numbered (omega (arith, c.event_limit-limit.ensures.limit, c.if-limit-number.false)) (sym c.is_name.ensures ∙ c.if-not-is_name.false)
    (c.in-Ok.ensures.together c.args.plan.now done taken) c.in_default-of.ensures

pub returns-in_default-part_of_name-clause-refused : goal.returns-in_default-part_of_name-clause-refused
returns-in_default-part_of_name-clause-refused c = λ done taken.
    part-broken c.args.plan.now done c.args.row.now c.in-Some.name.now c.in-Some.kind.now c.in-Some.part.now c.in-Some.ensures c.args.self.now.rows taken.numbered (omega (arith, c.event_limit-limit.ensures.limit, c.if-limit-number.false)) (sym c.is_name.ensures ∙ c.if-not-is_name.false)
    (c.in-Ok.ensures.together c.args.plan.now done taken) c.in-Some-of.kind c.in-Some-of.ensures c.in_default-part_of_name.ensures.part

pub has-requires-clause-room : goal.has-requires-clause-room
has-requires-clause-room c = c.in-Ok.ensures.room c.args.plan.now c.requires.room

pub returns-then-has-clause-refused : goal.returns-then-has-clause-refused
returns-then-has-clause-refused c = λ done taken.
    let is = sym c.is_name.ensures ∙ c.if-not-is_name.false in
    let sorted = c.in-Ok.ensures.sorted c.args.plan.now done taken in
    repeated-broken c.args.plan.now done c.args.row.now c.in-Some.name.now c.in-Some.kind.now c.in-Some.part.now c.in-Some.ensures c.args.self.now.rows taken.numbered (omega (arith, c.event_limit-limit.ensures.limit, c.if-limit-number.false)) is
    (c.in-Ok.ensures.together c.args.plan.now done taken) c.in-Some-of.kind c.in-Some-of.ensures c.in-Some-part_of_name.part c.in-Some-part_of_name.ensures.part
    (rw (← listed-are c.args.plan.now done c.in-Some.name.now c.come_to.new.self c.in-Some-of.kind is sorted) (sym c.has.ensures ∙ c.if-has.true))

pub put-requires-clause-room : goal.put-requires-clause-room
put-requires-clause-room c = c.in-Ok.ensures.room c.args.plan.now c.requires.room

pub returns-clause-taken : goal.returns-clause-taken
returns-clause-taken c = λ done taken.
    let is = sym c.is_name.ensures ∙ c.if-not-is_name.false in
    let sorted = c.in-Ok.ensures.sorted c.args.plan.now done taken in
    row-taken c.args.plan.now done c.args.row.now c.in-Some.name.now c.in-Some.kind.now c.in-Some.part.now c.in-Some.ensures c.args.self.now.rows taken.numbered (omega (arith, c.event_limit-limit.ensures.limit, c.if-limit-number.false)) is
    (c.in-Ok.ensures.together c.args.plan.now done taken) c.in-Some-of.kind c.in-Some-of.ensures c.in-Some-part_of_name.part c.in-Some-part_of_name.ensures.part
    c.come_to.new.self c.put.new.self sorted c.put.ensures.room
    (rw (← listed-are c.args.plan.now done c.in-Some.name.now c.come_to.new.self c.in-Some-of.kind is sorted) (sym c.has.ensures ∙ c.if-has.false))
    c.put.ensures.put
