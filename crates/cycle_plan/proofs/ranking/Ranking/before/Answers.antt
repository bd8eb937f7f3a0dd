use Rattle.std.proofs.Common.{length, sym}
use Rattle.std.proofs.lemmas.Option.{slice_get_read}
use Rattle.cycle_plan.proofs.Before.{first_there, second_there, before_first, before_second, residue_left}
use Rattle.cycle_plan.proofs.ranking.Ranking.before.Goals as goal

pub first_open-watch-requires-clause-within : goal.first_open-watch-requires-clause-within
first_open-watch-requires-clause-within c = rw c.requires.done.peeling.ranked.counted c.inputs_of-inputs.ensures.within

pub first_open-watch-requires-clause-watch : goal.first_open-watch-requires-clause-watch
first_open-watch-requires-clause-watch c =
    rw c.inputs_of-inputs.ensures.inputs
    (c.requires.done.peeling.watched c.from-sender.result c.index-known.result.now
    (slice_get_read c.args.self.now.watches.items (length c.args.plan.now.elements) c.from-sender.result c.index-known.result.now (sym c.requires.done.peeling.watches) c.from-sender.ensures.within c.index-known.ensures)).watched

pub unreachable-requires : goal.unreachable-requires
unreachable-requires c =
    first_there c.args.returns c.args.plan.now c.args.self.now.ranks c.first_open-watch.result c.args.line.0 c.requires.done.peeled
    (rw (← c.from-sender.ensures.sender, ← c.inputs_of-inputs.ensures.inputs) c.first_open-watch.ensures.places) c.requires.left
    (rw (← c.from-sender.ensures.sender, ← c.inputs_of-inputs.ensures.inputs) (sym c.in_default.ensures))

pub number_in-requires : goal.number_in-requires
number_in-requires c = c.inputs_of-inputs.ensures.within c.first_open-watch.result.first c.in-Some.first.0 (sym c.in-Some.ensures)

pub returns-then-number_in-number_out-clause-before : goal.returns-then-number_in-number_out-clause-before
returns-then-number_in-number_out-clause-before c =
    (before_first c.args.returns c.args.plan.now c.args.self.now.ranks c.first_open-watch.result c.args.line.0 c.in-Some.first.0 c.requires.done.peeled
    (rw (← c.from-sender.ensures.sender, ← c.inputs_of-inputs.ensures.inputs) c.first_open-watch.ensures.places) c.requires.left
    (rw (← c.from-sender.ensures.sender, ← c.inputs_of-inputs.ensures.inputs) (sym c.in-Some.ensures))
    (rw (c.number_in.ensures, c.number_out.ensures) at c.if-number_in-number_out.true)).1

pub returns-then-number_in-number_out-clause-left : goal.returns-then-number_in-number_out-clause-left
returns-then-number_in-number_out-clause-left c =
    residue_left c.args.returns c.args.plan.now c.args.self.now.ranks c.in-Some.first.0 c.requires.done.peeled (returns-then-number_in-number_out-clause-before c).residue

pub unreachable-requires-in_default-line_at : goal.unreachable-requires-in_default-line_at
unreachable-requires-in_default-line_at c =
    second_there c.args.returns c.args.plan.now c.args.self.now.ranks c.first_open-watch.result c.args.line.0 c.in-Some.first.0 c.requires.done.peeled
    (rw (← c.from-sender.ensures.sender, ← c.inputs_of-inputs.ensures.inputs) c.first_open-watch.ensures.places) c.requires.left
    (rw (← c.from-sender.ensures.sender, ← c.inputs_of-inputs.ensures.inputs) (sym c.in-Some.ensures))
    (rw (c.number_in.ensures, c.number_out.ensures) at c.if-number_in-number_out.false)
    (rw (← c.from-sender.ensures.sender, ← c.inputs_of-inputs.ensures.inputs) (sym c.in_default-line_at.ensures))

pub returns-clause-before : goal.returns-clause-before
returns-clause-before c =
    (before_second c.args.returns c.args.plan.now c.args.self.now.ranks c.first_open-watch.result c.args.line.0 c.in-Some.first.0 c.in-Some-line_at.second.0 c.requires.done.peeled (rw (← c.from-sender.ensures.sender, ← c.inputs_of-inputs.ensures.inputs) c.first_open-watch.ensures.places) c.requires.left
    (rw (← c.from-sender.ensures.sender, ← c.inputs_of-inputs.ensures.inputs) (sym c.in-Some.ensures))
    (rw (c.number_in.ensures, c.number_out.ensures) at c.if-number_in-number_out.false)
    (rw (← c.from-sender.ensures.sender, ← c.inputs_of-inputs.ensures.inputs) (sym c.in-Some-line_at.ensures))).1

pub returns-clause-left : goal.returns-clause-left
returns-clause-left c =
    residue_left c.args.returns c.args.plan.now c.args.self.now.ranks c.in-Some-line_at.second.0 c.requires.done.peeled (returns-clause-before c).residue
