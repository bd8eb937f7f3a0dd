use Rattle.std.proofs.Common.{◌≡◌, ◌≤◌, ◌<◌, ◌+◌, ◌-◌, ℕ, Bool, true, false, nat_eq, cond, List, set, length, Option, None, Some, refl, arith, sym, ap, subst, ◌∙◌, length-set}
use Rattle.std.specs.Prelude.{is_some, min}
use Rattle.std.specs.Vec.{with_items}
use Rattle.std.proofs.lemmas.List.{with_items_is}
use Rattle.std.specs.Option.{option_eq}
use Rattle.std.proofs.lemmas.Bool.{true≢false}
use Rattle.std.proofs.lemmas.Bool.Decides.{nat_tests}
use mir.Val.{bool_byte}
use Rattle.agenda.specs.declared.due_times.TheConstants.{NEVER}
use Rattle.agenda.specs.DueTimes.{due_in, due_count}
use Rattle.agenda.specs.private.Tournament.{IsTournament}
use Rattle.agenda.specs.EarlierDue.{times_by, time_at}
use Rattle.agenda.specs.private.EarlierDue.{number_at}
use Rattle.agenda.proofs.KeptTimes.{length_times, time_there, times-set, times-same}
use Rattle.agenda.proofs.FirstDues.{kept-set, count-set, counted_due, few_due, one_if_due}
use Rattle.agenda.proofs.due_times.DueTimes.set.Goals as goal

same_due : (a b : Option ℕ) → option_eq nat_eq a b ≡ true → a ≡ b
same_due None None is = refl
same_due None (Some y) is = absurd (true≢false (sym is))
same_due (Some x) None is = absurd (true≢false (sym is))
same_due (Some x) (Some y) is = let same : x ≡ y = grind (arith, nat_tests) in ap Some same

at_most_one : (b : Bool) → bool_byte b ≤ 1
at_most_one true = omega arith
at_most_one false = omega arith

one-is : (b : Bool) → bool_byte b ≡ cond b 1 0
one-is true = refl
one-is false = refl

-- a place of a time is one of a flag
inside : (flags : List Bool) (rounds : List ℕ) (place : ℕ) → place < length (times_by flags rounds) → place < length flags
inside flags rounds place within = omega (arith, within, length_times flags rounds)

-- what is counted for the time that goes
gone : (flags : List Bool) (rounds : List ℕ) (place : ℕ) (before : Option ℕ) (due : ℕ) → place < length (times_by flags rounds) → before ≡ time_at flags rounds place → due ≡ bool_byte (is_some before)
    → due ≡ one_if_due (due_in (times_by flags rounds) place)
gone flags rounds place before due within is out =
    out ∙ one-is (is_some before) ∙ ap one_if_due (is ∙ sym (time_there flags rounds place (inside flags rounds place within)))

pub time_at-before-requires-clause-place : goal.time_at-before-requires-clause-place
time_at-before-requires-clause-place c =
    rw c.as_slice.ensures.value (inside c.self.inside.flags.items c.self.inside.rounds.items c.args.place (rw (← c.self.view_is) at c.requires.place))

pub returns-then-eq : goal.returns-then-eq
returns-then-eq c =
    let flags : List Bool = c.self.inside.flags.items in
    let rounds : List ℕ = c.self.inside.rounds.items in
    let within = inside flags rounds c.args.place (rw (← c.self.view_is) at c.requires.place) in
    let same : c.time_at-before.result ≡ c.args.due = same_due c.time_at-before.result c.args.due (sym c.eq.ensures ∙ c.if-eq.true) in
    rw (← c.self.view_is) (times-same flags rounds c.args.place c.args.due within (sym (rw (c.as_slice.ensures.value, c.as_slice-2.ensures.value) at c.time_at-before.ensures) ∙ same))

pub index_mut-requires : goal.index_mut-requires
index_mut-requires c =
    omega (arith, inside c.self.inside.flags.items c.self.inside.rounds.items c.args.place (rw (← c.self.view_is) at c.requires.place), c.self.inside.flags.ok.0)

pub overflow_sub-self : goal.overflow_sub-self
overflow_sub-self c =
    let flags : List Bool = c.self.inside.flags.items in
    let rounds : List ℕ = c.self.inside.rounds.items in
    let within = rw (← c.self.view_is) at c.requires.place in
    let before = rw (c.as_slice.ensures.value, c.as_slice-2.ensures.value) at c.time_at-before.ensures in
    let out = gone flags rounds c.args.place c.time_at-before.result c.from.result within before (c.from.ensures ∙ ap bool_byte c.is_some-2.ensures) in
    omega (arith, out, c.self.invariant.count, counted_due (times_by flags rounds) c.args.place within)

pub overflow_add-self : goal.overflow_add-self
overflow_add-self c =
    let flags : List Bool = c.self.inside.flags.items in
    let rounds : List ℕ = c.self.inside.rounds.items in
    omega (arith, c.self.invariant.few, c.self.invariant.count, few_due (times_by flags rounds), length_times flags rounds, c.from-2.ensures, at_most_one c.is_some-3.result)

pub renew-requires-clause-place : goal.renew-requires-clause-place
renew-requires-clause-place c =
    omega (arith, inside c.self.inside.flags.items c.self.inside.rounds.items c.args.place (rw (← c.self.view_is) at c.requires.place), c.self.inside.flags.ok.0, c.len-count.ensures)

pub invariant_of-self : goal.invariant_of-self
invariant_of-self c =
    let flags : List Bool = c.self.inside.flags.items in
    let rounds : List ℕ = c.self.inside.rounds.items in
    let rounds_then : List ℕ = c.renew.new.rounds in
    let times : List (Option ℕ) = times_by flags rounds in
    let within = rw (← c.self.view_is) at c.requires.place in
    let renewed = rw (c.as_mut_slice.ensures.value, c.unwrap_or.ensures, c.len-count.ensures, c.self.inside.flags.ok.0) at c.renew.ensures.renewed in
    let room = rw c.as_mut_slice.ensures.value at c.renew.ensures.room in
    let same : (with_items c.self.inside.rounds rounds_then).items ≡ rounds_then = with_items_is c.self.inside.rounds rounds_then (room ∙ sym c.self.inside.rounds.ok.0) in
    let before = rw (c.as_slice.ensures.value, c.as_slice-2.ensures.value) at c.time_at-before.ensures in
    let out = gone flags rounds c.args.place c.time_at-before.result c.from.result within before (c.from.ensures ∙ ap bool_byte c.is_some-2.ensures) in
    let come : c.from-2.result ≡ one_if_due c.args.due = c.from-2.ensures ∙ ap bool_byte c.is_some-3.ensures ∙ one-is (is_some c.args.due) in
    let all = renewed (number_at times) c.self.invariant.first in
    let set_there = times-set flags rounds rounds_then c.args.place c.args.due (inside flags rounds c.args.place within) all in
    let kept = kept-set flags rounds rounds_then c.args.place c.args.due (inside flags rounds c.args.place within) all in
    let flags_then : Bool → List Bool = λ b. set flags c.args.place b in
    record {
      few = omega (arith, length-set flags c.args.place c.is_some.result, c.self.invariant.few);
      first = subst (λ list. IsTournament min NEVER (length (flags_then c.is_some.result)) (number_at (times_by (flags_then c.is_some.result) list)) list 0) (sym same)
          (subst (λ b. IsTournament min NEVER (length (flags_then b)) (number_at (times_by (flags_then b) rounds_then)) rounds_then 0) (sym c.is_some.ensures) kept);
      count = subst (λ list. c.self.inside.due - c.from.result + c.from-2.result ≡ due_count (times_by (flags_then c.is_some.result) list)) (sym same)
          (subst (λ b. c.self.inside.due - c.from.result + c.from-2.result ≡ due_count (times_by (flags_then b) rounds_then)) (sym c.is_some.ensures)
          (subst (λ list. c.self.inside.due - c.from.result + c.from-2.result ≡ due_count list) (sym set_there)
          (omega (arith, out, come, c.self.invariant.count, counted_due times c.args.place within, count-set times c.args.place c.args.due within))));
    }

pub returns : goal.returns
returns c =
    let flags : List Bool = c.self.inside.flags.items in
    let rounds : List ℕ = c.self.inside.rounds.items in
    let rounds_then : List ℕ = c.renew.new.rounds in
    let within = rw (← c.self.view_is) at c.requires.place in
    let renewed = rw (c.as_mut_slice.ensures.value, c.unwrap_or.ensures, c.len-count.ensures, c.self.inside.flags.ok.0) at c.renew.ensures.renewed in
    let room = rw c.as_mut_slice.ensures.value at c.renew.ensures.room in
    let same : (with_items c.self.inside.rounds rounds_then).items ≡ rounds_then = with_items_is c.self.inside.rounds rounds_then (room ∙ sym c.self.inside.rounds.ok.0) in
    let set_there = times-set flags rounds rounds_then c.args.place c.args.due (inside flags rounds c.args.place within) (renewed (number_at (times_by flags rounds)) c.self.invariant.first) in
    ap (λ b. times_by (set flags c.args.place b) (with_items c.self.inside.rounds rounds_then).items) c.is_some.ensures
    ∙ ap (times_by (set flags c.args.place (is_some c.args.due))) same ∙ set_there
    ∙ ap (λ times. set times c.args.place c.args.due) c.self.view_is
