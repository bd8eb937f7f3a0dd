use Rattle.std.proofs.Common.{◌≡◌, ◌<◌, ℕ, Bool, length, List, Option, arith, sym, ◌∙◌}
use Rattle.std.specs.Prelude.{slice_index_or}
use Rattle.std.proofs.lemmas.List.{get_or_default}
use Rattle.agenda.specs.declared.due_times.TheConstants.{NEVER}
use Rattle.agenda.specs.EarlierDue.{times_by}
use Rattle.agenda.specs.private.EarlierDue.{number_at}
use Rattle.agenda.proofs.KeptTimes.{length_times, of_times}
use Rattle.agenda.proofs.FirstDues.{all_later, few_due}
use Rattle.agenda.proofs.due_times.DueTimes.take.Goals as goal

pub returns-then-index-now-clause-none : goal.returns-then-index-now-clause-none
returns-then-index-now-clause-none c = λ _.
    let flags : List Bool = c.self.inside.flags.items in
    let rounds : List ℕ = c.self.inside.rounds.items in
    let times : List (Option ℕ) = times_by flags rounds in
    let all = of_times flags rounds (number_at times) c.self.invariant.first in
    let within : 1 < length rounds = omega (arith, c.self.invariant.first.room, c.self.invariant.count, few_due times, length_times flags rounds, c.if-self-gt0.true) in
    let last : slice_index_or rounds 1 NEVER ≡ c.index.result.now = get_or_default rounds 1 NEVER c.index.result.now within ∙ sym c.index.ensures in
    rw (← c.self.view_is) (all_later times rounds c.args.now all (omega (arith, last, c.if-index-now.true)))
