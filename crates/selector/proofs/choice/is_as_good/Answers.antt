use Rattle.selector.proofs.Eligible.{read_is}
use Rattle.selector.proofs.choice.is_as_good.Goals as goal

pub beats-requires : goal.beats-requires
beats-requires c =
    let best = read_is c.args.inputs.now c.args.best c.index-inputs-best.result c.index-inputs-best.is c.requires.best in
    let taken = read_is c.args.inputs.now c.args.taken c.index-inputs-taken.result c.index-inputs-taken.is c.requires.taken in
    record { one_option = rw (best, taken) at (c.requires.one_option c.args.best c.args.taken) }
