use Rattle.std.proofs.Common.{sym}
use Rattle.sync_topo.proofs.InputPlaces.{not-placed}
use Rattle.net_words.proofs.PlaceLemmas.{placed-in}
use Rattle.net_words.proofs.places.input_place.Goals as goal

pub returns-in_default-clause-place : goal.returns-in_default-clause-place
returns-in_default-clause-place c = λ element.
    not-placed c.args.plan.now element c.args.input (sym c.in_default.ensures.nominated)

pub returns-clause-place : goal.returns-clause-place
returns-clause-place c = λ element.
    placed-in c.args.plan.now c.element_of-element.result c.in-Some.place c.args.input c.element_of-element.ensures.element (sym c.in-Some.ensures.place) element
