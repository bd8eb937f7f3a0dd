use Rattle.std.proofs.lemmas.Option.{get_or_from_slice_get}
use Rattle.closed_walks.proofs.listing.loop_of.Goals as goal

pub returns-clause-none : goal.returns-clause-none
returns-clause-none c = λ none count is. c.loop_lines.ensures.none none count (get_or_from_slice_get c.args.endings.now c.args.element _ _ is)
