use Rattle.std.proofs.Common.{◌<◌, ℕ, Bool, Some, List, length, arith, sym, ap, ◌∙◌}
use Rattle.agenda.specs.DueTimes.{due_in}
use Rattle.agenda.specs.EarlierDue.{times_by}
use Rattle.agenda.proofs.KeptTimes.{length_times, time_there}
use Rattle.agenda.proofs.due_times.any_due.Goals as goal

pub returns-in-Some : goal.returns-in-Some
returns-in-Some c =
    let flags : List Bool = c.args.flags.now in
    let rounds : List ℕ = c.args.rounds.now in
    let within : c.loop-place.place < length flags = omega (arith, c.loop-place-test.true) in
    record {
      within = omega (arith, within, c.due_at.ensures.place, length_times flags rounds);
      ends = ap (due_in (times_by flags rounds)) c.due_at.ensures.place
          ∙ time_there flags rounds c.loop-place.place within ∙ sym c.time_at.ensures ∙ c.in-Some.is ∙ ap Some (sym c.due_at.ensures.at);
      in_range = omega (arith, c.due_at.ensures.in_range, c.due_at.ensures.at);
    }

pub returns : goal.returns
returns c i inside =
    let flags : List Bool = c.args.flags.now in
    let rounds : List ℕ = c.args.rounds.now in
    let within : i < length flags = omega (arith, inside, length_times flags rounds) in
    time_there flags rounds i within ∙ c.loop-place.invariant i (omega (arith, within, c.loop-place-test.false))
