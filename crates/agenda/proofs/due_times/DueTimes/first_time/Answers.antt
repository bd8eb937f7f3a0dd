use Rattle.std.proofs.Common.{◌≡◌, ◌<◌, ℕ, Bool, length, List, Option, arith, sym, ◌∙◌}
use Rattle.std.specs.Prelude.{slice_index_or}
use Rattle.std.proofs.lemmas.List.{get_or_default}
use Rattle.agenda.specs.declared.due_times.TheConstants.{NEVER}
use Rattle.agenda.specs.EarlierDue.{times_by}
use Rattle.agenda.specs.private.EarlierDue.{number_at}
use Rattle.agenda.proofs.KeptTimes.{length_times, of_times}
use Rattle.agenda.proofs.FirstDues.{few_due, is_first_time}
use Rattle.agenda.proofs.due_times.DueTimes.first_time.Goals as goal

pub returns : goal.returns
returns c =
    let flags : List Bool = c.self.inside.flags.items in
    let rounds : List ℕ = c.self.inside.rounds.items in
    let times : List (Option ℕ) = times_by flags rounds in
    let all = of_times flags rounds (number_at times) c.self.invariant.first in
    let some : 0 < length times = omega (arith, c.self.invariant.count, few_due times, c.if-self-eq0.false) in
    let within : 1 < length rounds = omega (arith, c.self.invariant.first.room, some, length_times flags rounds) in
    let last : slice_index_or rounds 1 NEVER ≡ c.index-at.result.now = get_or_default rounds 1 NEVER c.index-at.result.now within ∙ sym c.index-at.ensures in
    rw (← c.self.view_is) (is_first_time times rounds c.index-at.result.now all last c.if-at.false some)
