use Rattle.std.proofs.Common.{◌≡◌, ◌<◌, [], length, sym, ◌∙◌, arith, IfSome, subst}
use Rattle.smallvec.specs.SmallVec.{with_items}
use Rattle.smallvec.proofs.SmallVecLemmas.{items-with_items}
use Rattle.sync_element.specs.StandsFor.{StandsFor}
use Rattle.sync_element.specs.ElementState.{ElementState, inputs_of, IsInTime}
use Rattle.sync_element.specs.private.Telling.{IsToldSoFar}
use Rattle.sync_element.specs.private.Renewing.{AreTaken}
use Rattle.sync_element.specs.Whole.{element_state, inputs_kept}
use Rattle.sync_element.proofs.Answering.{candidate_option}
use Rattle.sync_element.proofs.Taking.{Taken, IsTaken, IsTakenWhole, all_pending, can_first, IsAfter-after, IsWhole-after}
use Rattle.sync_element.proofs.element.Element.advance.Goals as goal

-- what is told can be renewed
told_first : (c : goal.After-renew_told-arg-3-1) → IsToldSoFar c.args.told.now [] (record { watched = c.self.inside.inputs.watched.items; switches = c.self.inside.commands }) (record { watched = c.tell_all.new.watched; switches = c.tell_all.new.commands })
told_first c = rw c.as_mut_slice.ensures.value at c.tell_all.ensures

pub renew_told-requires-clause-can : goal.renew_told-requires-clause-can
renew_told-requires-clause-can c =
    let e = element_state c.self.inside in
    let are : (with_items c.self.inside.inputs.watched c.tell_all.new.watched).items ≡ c.tell_all.new.watched = items-with_items c.self.inside.inputs.watched c.tell_all.new.watched (told_first c).count in
    rw are
    (can_first e c.args.now c.args.told.now c.tell_all.new.watched c.tell_all.new.commands c.self.invariant (rw (← c.self.view_is) at c.requires.in_time) (rw (← c.self.view_is) at c.requires.fits) (told_first c) (candidate_option e c.self.invariant))

-- as many inputs are left as there were
told_before : (c : goal.After-evaluate-arg-3-1) → IsToldSoFar c.args.told.now [] (record { watched = c.self.inside.inputs.watched.items; switches = c.self.inside.commands }) (record { watched = c.tell_all.new.watched; switches = c.tell_all.new.commands })
told_before c = rw c.as_mut_slice.ensures.value at c.tell_all.ensures

count_before : (c : goal.After-evaluate-arg-3-1) → length c.renew_due.new.inputs.table ≡ inputs_of (element_state c.self.inside)
count_before c =
    let are : (with_items c.self.inside.inputs.watched c.tell_all.new.watched).items ≡ c.tell_all.new.watched = items-with_items c.self.inside.inputs.watched c.tell_all.new.watched (told_before c).count in
    let told : length c.renew_told.new.inputs.watched.items ≡ length c.tell_all.new.watched = rw are at c.renew_told.ensures.count in
    c.renew_due.ensures.can.candidates_length ∙ c.renew_due.ensures.count ∙ told ∙ (told_before c).count ∙ c.self.invariant.watched_length

pub evaluate-self-inside-requires-clause-locked_length : goal.evaluate-self-inside-requires-clause-locked_length
evaluate-self-inside-requires-clause-locked_length c =
    (told_before c).locked_count ∙ c.self.invariant.locked_length ∙ sym (count_before c)

pub evaluate-self-inside-requires-clause-taken_place : goal.evaluate-self-inside-requires-clause-taken_place
evaluate-self-inside-requires-clause-taken_place c =
    subst (λ n. IfSome c.self.inside.selected (λ i. i < n)) (sym (count_before c)) c.self.invariant.selection_within

-- the whole step
abbrev state : goal.After-self-5-1 → ElementState
state c = element_state c.self.inside

abbrev taken : goal.After-self-5-1 → Taken
taken c = record {
  told = c.tell_all.new.watched;
  commands = c.tell_all.new.commands;
  touched = inputs_kept c.renew_told.new.inputs;
  inputs = inputs_kept c.renew_due.new.inputs;
  switches = c.evaluate-self-inside.new.commands;
  selection = c.evaluate-self-inside.result;
  was_locked = c.was_ever_locked-self-inside.result;
  due = c.first_due-self-inside.result;
  later_steps = c.steps_after-self-inside.result;
}

is_told : (c : goal.After-self-5-1) → IsToldSoFar c.args.told.now [] (record { watched = c.self.inside.inputs.watched.items; switches = c.self.inside.commands }) (record { watched = c.tell_all.new.watched; switches = c.tell_all.new.commands })
is_told c = rw c.as_mut_slice.ensures.value at c.tell_all.ensures

are_taken : (c : goal.After-self-5-1) → AreTaken (record { now = c.args.now; switches = c.tell_all.new.commands; floor = c.self.inside.config.floor }) c.tell_all.new.watched c.self.inside.inputs.table c.args.told.now [] (inputs_kept c.renew_told.new.inputs)
are_taken c =
    let are : (with_items c.self.inside.inputs.watched c.tell_all.new.watched).items ≡ c.tell_all.new.watched = items-with_items c.self.inside.inputs.watched c.tell_all.new.watched (is_told c).count in
    let renewed = rw are at c.renew_told.ensures.taken in
    renewed c.tell_all.new.watched c.self.inside.inputs.table (all_pending (state c) c.args.now c.args.told.now c.tell_all.new.watched c.tell_all.new.commands c.self.invariant (is_told c))

is_taken : (c : goal.After-self-5-1) → IsTaken (state c) c.args.now c.args.told.now (taken c)
is_taken c = record {
  is_told = is_told c;
  taken = are_taken c;
  kept = c.renew_due.ensures.renewed c.tell_all.new.watched c.self.inside.inputs.table (are_taken c).renewed;
  later = c.renew_due.ensures.later;
  ended = c.evaluate-self-inside.ensures.switches;
  chosen = c.evaluate-self-inside.ensures.input;
  ever_locked = c.was_ever_locked-self-inside.ensures;
}

is_taken_whole : (c : goal.After-self-5-1) → IsTakenWhole (state c) c.args.now (taken c)
is_taken_whole c = record {
  can = c.renew_due.ensures.can;
  is_within = c.evaluate-self-inside.ensures.place;
  is_first = c.first_due-self-inside.ensures;
  steps_are = c.steps_after-self-inside.ensures;
}

in_time : (c : goal.After-self-5-1) → IsInTime (state c) c.args.now
in_time c = rw (← c.self.view_is) at c.requires.in_time

pub invariant_of-self : goal.invariant_of-self
invariant_of-self c = IsWhole-after (state c) c.args.now c.args.told.now (taken c) c.self.invariant (in_time c) (let limit = c.requires.in_range in omega arith) (is_taken c) (is_taken_whole c)

pub returns-clause-stands : goal.returns-clause-stands
unfolding StandsFor
returns-clause-stands c =
    rw (← c.self.view_is)
    (IsAfter-after (state c) c.args.now c.args.told.now (taken c) c.self.invariant (in_time c) (is_taken c))
