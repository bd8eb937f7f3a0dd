-- An element that was told nothing.
use Rattle.std.proofs.Common.{◌≡◌, ◌≤◌, ◌<◌, ℕ, Bool, false, not, ◌&&◌, List, [], map, length, get_or, All, Option, None, Some, refl, ap, sym, ◌∙◌, arith, subst}
use Rattle.std.specs.Prelude.{slice_index, slice_index_or}
use Rattle.std.proofs.Math.Decide.{dec_lt}
use Rattle.std.proofs.lemmas.List.{ext_get_or, length-map, length-replicate, get_or-replicate, get_or_past, get_or-map}
use Rattle.sync_element.proofs.Taking.{same_candidate}
use Rattle.sync_ql.specs.declared.levels.Level.{Level}
use Rattle.sync_ql.specs.declared.levels.NetOption.{NetOption}
use Rattle.sync_ql.specs.declared.rules.Candidate.{Candidate}
use Rattle.sync_ql.specs.Condition.{failed_at}
use Rattle.sync_ql.specs.Switches.{Switches, unswitched, is_locked}
use Rattle.sync_ql.specs.Selection.{candidate, is_better, SameOption}
use Rattle.sync_ql.specs.Moment.{Settings, switches_at, selection_at}
use Rattle.sync_ql.specs.Told.{IsOfOption}
use Rattle.sync_ql.proofs.Eligible.{nobody}
use Rattle.input_monitor.specs.Monitored.{up_of}
use Rattle.input_monitor.specs.Ending.{IsEnd}
use Rattle.sync_ql.specs.declared.limits.TheConstants.{LEAST_HOLDOFF, MOST_INPUTS}
use Rattle.sync_element.specs.declared.config.Config.{Config}
use Rattle.sync_element.specs.declared.config.InputConfig.{InputConfig}
use Rattle.sync_element.specs.declared.watched.Watched.{Watched}
use Rattle.sync_element.specs.Configured.{settings_of}
use Rattle.agenda.specs.DueTimes.{due_in}
use Rattle.sync_element.specs.Kept.{InputsKept, unused, watched_in}
use Rattle.sync_element.specs.private.Kept.{HasEnd}
use Rattle.sync_element.specs.ElementState.{ElementState}
use Rattle.sync_element.specs.private.Whole.{IsAtRest, IsWhole}
use Rattle.sync_element.specs.StandsFor.{IsAfter}
use Rattle.sync_element.specs.private.Starting.{HasFirst, AreNew, first_candidate}
use Rattle.sync_element.proofs.FirstTimes.{length_dues, due_there}

abbrev pub new_state : Config → InputsKept → Switches → ElementState
new_state config inputs switches = record {
  settings = settings_of config;
  next = 0;
  due = None;
  later_steps = 0;
  kept = record {
    inputs = inputs;
    switches = switches;
    selection = None;
    was_locked = false;
  };
}

-- what a new element is made of
pub record IsNewState (config : Config) (inputs : InputsKept) (switches : Switches) : Type 0 where
  pub holdoff : LEAST_HOLDOFF ≤ config.holdoff
  pub few : length config.inputs ≤ MOST_INPUTS
  pub floor : IsOfOption config.own.option config.floor
  pub first : All (λ input. IsOfOption config.own.option input.first) config.inputs
  pub new : AreNew config inputs
  pub switches_are : switches ≡ unswitched (length config.inputs)

pub no_input : InputConfig
no_input = record { priority = 0; first = None; bundle = 0 }

length-priorities : (config : Config) → length (settings_of config).priorities ≡ length config.inputs
length-priorities config = length-map config.inputs (λ input. input.priority)

first_of : (config : Config) (i : ℕ) → i < length config.inputs → slice_index_or (settings_of config).first_levels i None ≡ (get_or config.inputs i no_input).first
first_of config i within = get_or-map (λ input. input.first) config.inputs i no_input None within

priority_of : (config : Config) (i : ℕ) → i < length config.inputs → slice_index (settings_of config).priorities i ≡ (get_or config.inputs i no_input).priority
priority_of config i within = get_or-map (λ input. input.priority) config.inputs i no_input 0 within

-- the first levels are of one option
pub input_option : (config : Config) → All (λ input. IsOfOption config.own.option input.first) config.inputs → (i : ℕ) → IsOfOption config.own.option (get_or config.inputs i no_input).first
unfolding no_input
input_option config first i =
    elim (dec_lt i (length config.inputs)) [
      | yes within ↦ first i no_input within
      | no beyond ↦ subst (λ input. IsOfOption config.own.option input.first) (sym (get_or_past config.inputs i no_input (omega arith))) tt
    ]

pub same_option : (option : NetOption) (a b : Option Level) → IsOfOption option a → IsOfOption option b → SameOption a b
same_option option None b first second = tt
same_option option (Some a) None first second = tt
same_option option (Some a) (Some b) first second = first ∙ sym second

-- candidates that are right place by place
pub candidates_first : (config : Config) (candidates : List Candidate) → length candidates ≡ length config.inputs → ((k : ℕ) → k < length config.inputs → candidate candidates k ≡ first_candidate config.floor (get_or config.inputs k no_input)) → candidates ≡ map (first_candidate config.floor) config.inputs
candidates_first config candidates count each =
    ext_get_or nobody candidates (map (first_candidate config.floor) config.inputs) (count ∙ sym (length-map config.inputs (first_candidate config.floor)))
    (λ k inside.
    let within : k < length config.inputs = omega (arith, inside, count) in
    each k within ∙ sym (get_or-map (first_candidate config.floor) config.inputs k no_input nobody within))

-- a monitor that was told nothing has no condition that ends
HasEnd-new : (config : Config) (first : Option Level) (w : Watched) → HasFirst config first w → HasEnd w.monitor
HasEnd-new config first w new = record {
  ends = subst (λ condition. IsEnd w.monitor.next condition w.monitor.due) (sym new.condition) new.due;
  soon = rw new.due tt;
}

not_failed : (config : Config) (first : Option Level) (w : Watched) → HasFirst config first w → w.monitor.failed ≡ false
unfolding failed_at
not_failed config first w new = new.stands.failed

free : (locked failed below : Bool) → locked ≡ false → failed ≡ false → not below ≡ (not locked && not failed && not below)
free locked failed below first second = rw (first, second) refl

at_rest_new : (config : Config) (inputs : InputsKept) (switches : Switches) → IsNewState config inputs switches → (i : ℕ) → i < length config.inputs → IsAtRest (settings_of config) switches 0 i (watched_in inputs.watched i) (due_in inputs.dues i) (candidate inputs.candidates i)
at_rest_new config inputs switches new i within =
    let w = watched_in inputs.watched i in
    let first = slice_index_or (settings_of config).first_levels i None in
    let has = new.new.new i within in
    let input = get_or config.inputs i no_input in
    let level : input.first ≡ w.level = sym (first_of config i within) ∙ sym has.level in
    let locked : is_locked switches i ≡ false = rw new.switches_are (get_or-replicate (length config.inputs) i false false within) in
    record {
      timers = has.timers;
      not_later = rw has.next (omega arith);
      ends = HasEnd-new config first w has;
      up = has.up ∙ sym (ap up_of has.condition);
      cleared = has.cleared;
      due_is = ap (λ l. due_in l i) new.new.dues ∙ due_there inputs.watched i (omega (arith, within, new.new.count));
      due_later = rw has.due tt;
      candidate_is =
          ap (λ l. candidate l i) new.new.candidates
          ∙ get_or-map (first_candidate config.floor) config.inputs i no_input nobody within
          ∙ same_candidate input.first w.level input.priority (slice_index (settings_of config).priorities i) (not (is_better config.floor input.first)) (not (is_locked switches i) && not w.monitor.failed && not (is_better config.floor w.level)) level (sym (priority_of config i within))
          (ap (λ l. not (is_better config.floor l)) level ∙ free (is_locked switches i) w.monitor.failed (is_better config.floor w.level) locked (not_failed config first w has));
    }

option_new : (config : Config) (inputs : InputsKept) (switches : Switches) → IsNewState config inputs switches → (i : ℕ) → IsOfOption config.own.option (watched_in inputs.watched i).level
option_new config inputs switches new i =
    elim (dec_lt i (length config.inputs)) [
      | yes within ↦ subst (IsOfOption config.own.option) (sym (first_of config i within) ∙ sym (new.new.new i within).level) (input_option config new.first i)
      | no beyond ↦ subst (λ w. IsOfOption config.own.option w.level) (sym (get_or_past inputs.watched i unused (omega (arith, new.new.count)))) tt
    ]

pub IsWhole-new : (config : Config) (inputs : InputsKept) (switches : Switches) → IsNewState config inputs switches → IsWhole (new_state config inputs switches)
IsWhole-new config inputs switches new =
    let count = length-priorities config in
    record {
      holdoff = omega (arith, new.holdoff);
      few = omega (arith, count, new.few);
      watched_length = new.new.count ∙ sym count;
      dues_length = ap length new.new.dues ∙ length_dues inputs.watched ∙ new.new.count ∙ sym count;
      candidates_length = ap length new.new.candidates ∙ length-map config.inputs (first_candidate config.floor) ∙ sym count;
      locked_length = rw new.switches_are (length-replicate (length config.inputs) false ∙ sym count);
      at_rest = λ i within. at_rest_new config inputs switches new i (omega (arith, within, count));
      floor = new.floor;
      option = option_new config inputs switches new;
      selection_within = tt;
      first_due = λ i within. (new.new.new i (omega (arith, within, count))).due;
      in_range = omega arith;
      steps = omega arith;
    }

switches_first : (settings : Settings) (n : ℕ) → n ≡ length settings.priorities → unswitched n ≡ switches_at settings []
unfolding switches_at
switches_first settings n is = ap unswitched is

selection_first : (settings : Settings) → None ≡ selection_at settings []
unfolding selection_at
selection_first settings = refl

pub IsAfter-new : (config : Config) (inputs : InputsKept) (switches : Switches) → IsNewState config inputs switches → IsAfter (new_state config inputs switches) []
IsAfter-new config inputs switches new =
    let count = length-priorities config in
    record {
      next = refl;
      kept = record {
        monitors = λ i within. record { told = []; stands = (new.new.new i (omega (arith, within, count))).stands; later = omega arith; quiet = refl };
        levels = λ i within. (new.new.new i (omega (arith, within, count))).level;
        switches = new.switches_are ∙ switches_first (settings_of config) (length config.inputs) (sym count);
        selection = selection_first (settings_of config);
        was_locked = refl;
      };
    }
