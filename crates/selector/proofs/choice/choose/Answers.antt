use Rattle.std.proofs.Common.{rules}
use Rattle.selector.proofs.BestChoice.{IsBestChoice-best_choice, eligible_choice, place_choice}
use Rattle.selector.proofs.ManualSwitch.{stands_in_facts}
use Rattle.selector.proofs.choice.choose.Goals as goal

pub returns-in-None-2 : goal.returns-in-None-2
returns-in-None-2 c =
    let best = IsBestChoice-best_choice c.args.inputs.now c.first_best-best.result c.args.taken c.first_best-best.ensures in
    record {
      exact = search rules;
      exact_stands = search rules;
      place = rw c.stay_or_take-input.ensures (place_choice c.args.inputs.now c.args.taken _ best);
      eligible = rw c.stay_or_take-input.ensures (eligible_choice c.args.inputs.now c.args.taken _ best);
      forced_taken = search rules;
      forced_fails = search rules;
      manual_taken = search rules;
      stands = rw c.stands-manual_stands.ensures (stands_in_facts c.args.inputs.now c.args.manual);
      best = λ _ _. rw c.stay_or_take-input.ensures best;
    }
