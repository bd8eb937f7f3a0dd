use Rattle.selector.proofs.BestChoice.{IsBestChoice-best_choice, place_choice}
use Rattle.selector.proofs.table.Table.best.Goals as goal

pub returns-clause-best : goal.returns-clause-best
returns-clause-best c =
    rw (c.stay_or_take.ensures, c.as_slice-inputs.ensures, c.self.view_is)
    (IsBestChoice-best_choice c.args.self.now c.first_best.result c.args.taken (rw (c.as_slice-inputs.ensures, c.self.view_is) at c.first_best.ensures))

pub returns-clause-place : goal.returns-clause-place
returns-clause-place c =
    rw (c.stay_or_take.ensures, c.as_slice-inputs.ensures, c.self.view_is)
    (place_choice c.args.self.now c.args.taken _ (IsBestChoice-best_choice c.args.self.now c.first_best.result c.args.taken (rw (c.as_slice-inputs.ensures, c.self.view_is) at c.first_best.ensures)))
