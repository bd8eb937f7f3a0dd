use Rattle.std.proofs.Common.{◌≡◌, length, Some, refl, sym}
use Rattle.std.specs.Prelude.{slice_get}
use Rattle.std.proofs.lemmas.Option.{slice_get_read}
use Rattle.cycle_plan.proofs.Settling.{IsMore-watch, IsWatched-new}
use Rattle.cycle_plan.proofs.ranking.Ranking.watch.Goals as goal

pub first_open-watch-requires-clause-watch : goal.first_open-watch-requires-clause-watch
first_open-watch-requires-clause-watch c =
    let stood : slice_get c.args.self.now.watches.items c.args.element ≡ Some c.index-known.result.now =
    slice_get_read c.args.self.now.watches.items (length c.args.plan.now.elements) c.args.element c.index-known.result.now (sym c.requires.peeling.watches) c.requires.within c.index-known.ensures in
    rw c.inputs_of-inputs.ensures.inputs (c.requires.peeling.watched c.args.element c.index-known.result.now stood).watched

pub returns-clause-watched : goal.returns-clause-watched
returns-clause-watched c =
    let stood : slice_get c.args.self.now.watches.items c.args.element ≡ Some c.index-known.result.now =
    slice_get_read c.args.self.now.watches.items (length c.args.plan.now.elements) c.args.element c.index-known.result.now (sym c.requires.peeling.watches) c.requires.within c.index-known.ensures in
    IsWatched-new c.args.returns c.args.plan.now c.args.self.now.ranks c.args.element c.index-known.result.now c.first_open-watch.result
    (c.requires.peeling.watched c.args.element c.index-known.result.now stood)
    (rw (← c.inputs_of-inputs.ensures.inputs) c.first_open-watch.ensures.places) c.first_open-watch.ensures.back c.first_open-watch.ensures.done

pub returns-clause-more : goal.returns-clause-more
returns-clause-more c =
    IsMore-watch c.args.returns c.args.plan.now c.args.self.now _ c.args.element c.first_open-watch.result c.requires.peeling c.requires.within (returns-clause-watched c) refl refl refl refl
