use Rattle.std.proofs.Common.{◌≡◌, ◌<◌, ℕ, Bool, length, List, Option, None, Some, arith, sym, ◌∙◌}
use Rattle.std.specs.Prelude.{slice_index_or, MatchOption}
use Rattle.std.proofs.lemmas.List.{get_or_default}
use Rattle.agenda.specs.declared.due_times.Due.{Due}
use Rattle.agenda.specs.declared.due_times.TheConstants.{NEVER}
use Rattle.agenda.specs.DueTimes.{due_in, IsFirst}
use Rattle.agenda.specs.EarlierDue.{times_by}
use Rattle.agenda.specs.private.EarlierDue.{IsListed, number_at}
use Rattle.agenda.proofs.KeptTimes.{length_times, of_times}
use Rattle.agenda.proofs.FirstDues.{few_due, is_first, is_last}
use Rattle.agenda.proofs.due_times.DueTimes.first.Goals as goal

-- what is found in the list
of_found : (times : List (Option ℕ)) (found : Option Due) → ((due : Due) → IsListed times due → IsFirst times due)
    → MatchOption found ((i : ℕ) → i < length times → due_in times i ≡ None) (IsListed times) → MatchOption found ((i : ℕ) → i < length times → due_in times i ≡ None) (IsFirst times)
of_found times None first is = is
of_found times (Some due) first is = first due is

pub returns-then-at : goal.returns-then-at
returns-then-at c =
    let flags : List Bool = c.self.inside.flags.items in
    let rounds : List ℕ = c.self.inside.rounds.items in
    let times : List (Option ℕ) = times_by flags rounds in
    let all = of_times flags rounds (number_at times) c.self.invariant.first in
    let within : 1 < length rounds = omega (arith, c.self.invariant.first.room, c.self.invariant.count, few_due times, length_times flags rounds, c.if-self-eq0.false) in
    let last : slice_index_or rounds 1 NEVER ≡ NEVER = get_or_default rounds 1 NEVER c.index-at.result.now within ∙ sym c.index-at.ensures ∙ c.if-at.true in
    rw (← c.self.view_is)
    (of_found times c.any_due.result (λ due. is_last times rounds due all last) (rw (c.as_slice-then-at.ensures.value, c.as_slice.ensures.value) at c.any_due.ensures))

pub returns : goal.returns
returns c =
    let flags : List Bool = c.self.inside.flags.items in
    let rounds : List ℕ = c.self.inside.rounds.items in
    let times : List (Option ℕ) = times_by flags rounds in
    let all = of_times flags rounds (number_at times) c.self.invariant.first in
    let within : 1 < length rounds = omega (arith, c.self.invariant.first.room, c.self.invariant.count, few_due times, length_times flags rounds, c.if-self-eq0.false) in
    let last : slice_index_or rounds 1 NEVER ≡ c.index-at.result.now = get_or_default rounds 1 NEVER c.index-at.result.now within ∙ sym c.index-at.ensures in
    let count : c.len.result ≡ length flags = c.len.ensures ∙ c.self.inside.flags.ok.0 in
    let place = rw (c.as_slice-2.ensures.value, count) at c.place_of.ensures.winner in
    rw (← c.self.view_is)
    (is_first times rounds c.index-at.result.now c.place_of.result all last c.if-at.false
    (omega (arith, c.place_of.ensures.within, count, length_times flags rounds)) (place _ c.self.invariant.first))
