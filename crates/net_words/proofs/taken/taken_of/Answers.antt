use Rattle.std.proofs.Common.{ap, ◌∙◌}
use Rattle.std.specs.Prelude.{option_and_then, slice_get}
use Rattle.sync_topo.specs.Lines.{inputs_of}
use Rattle.net_words.proofs.taken.taken_of.Goals as goal

pub returns-clause-taken : goal.returns-clause-taken
returns-clause-taken c = λ past n is on_time.
    c.input_at.ensures.input
    ∙ ap (option_and_then (slice_get (inputs_of c.args.plan.now c.args.number)))
    (c.selected.ensures.selected past n is on_time)
