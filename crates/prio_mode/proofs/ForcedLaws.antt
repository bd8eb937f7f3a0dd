-- Forced switches to the lines of the first cycle are a timing loop from 0 on.
use Rattle.std.proofs.Common.{◌≡◌, ◌≢◌, ◌<◌, ◌+◌, ℕ, zero, suc, Bool, true, false, List, [], ◌∷◌, map, filter, length, None, Some, slice_get, refl, sym, ap, subst, ◌∙◌, inl, inr, arith, zero-add}
use Rattle.std.specs.Prelude.{◌||◌, nat_lt, if◌then◌else◌, replicate, slice_index_or, unwrap_or, option_and_then}
use Rattle.std.specs.List.{filter_map, All}
use Rattle.std.specs.Cmp.Derive.{both_true}
use Rattle.std.proofs.lemmas.Bool.{le-ltb}
use Rattle.std.proofs.lemmas.List.{get_or-replicate}
use Rattle.std.proofs.lemmas.List.Elements.{All-nil, All-cons}
use Rattle.std.proofs.lemmas.List.FromFn.{get_or-map-range_with_len}
use Rattle.std.proofs.lemmas.Option.{slice_get_within}
use Rattle.sync_text.proofs.Tests.{if-same}
use Rattle.sync_text.proofs.Each.{Each-map, Each-unmade}
use Rattle.sync_text.specs.Each.{Each}
use Rattle.sync_ql.specs.declared.levels.NetOption.{NetOption}
use Rattle.sync_ql.specs.declared.levels.NetOption.TheVariants.{I, II}
use Rattle.sync_ql.specs.declared.rules.Cmd.{Cmd}
use Rattle.sync_ql.specs.declared.rules.Cmd.TheVariants as command
use Rattle.sync_ql.specs.Condition.{Signal, Timers, failed_at}
use Rattle.sync_ql.specs.Switches.{Switches, unswitched, is_locked, after_commands}
use Rattle.sync_ql.specs.Selection.{candidate, choice, is_eligible, is_above_do_not_use}
use Rattle.sync_ql.specs.Moment.{InputMoment, Moment, Settings, input_of, signals_of, level_now, usable_at, candidates_at, at_end, switches_at, selection_at}
use Rattle.sync_ql.proofs.Eligible.{nobody}
use Rattle.sync_ql.proofs.QuietMoments.{seen, commanded, switches_at-cons, selection_at-cons}
use Rattle.sync_topo.specs.declared.event.Event.{Event}
use Rattle.sync_topo.specs.declared.event.What.TheVariants.{Forced}
use Rattle.sync_topo.specs.declared.input.InputId.{InputId}
use Rattle.sync_topo.specs.Topology.{Topology}
use Rattle.sync_topo.specs.Lines.{line_input, receiver_of, inputs_of, IsNominated, place_at}
use Rattle.sync_topo.specs.Events.{IsEventList, Fits}
use Rattle.sync_topo.specs.Ranks.{IsFirstCycle}
use Rattle.sync_topo.proofs.LineLaws.{IsNominated-within}
use Rattle.net_rules.specs.Signals.{Signals, signals_by, events_at, last_word, says_up, up_at, command_to}
use Rattle.net_rules.specs.Settings.{input_by}
use Rattle.net_rules.specs.Walks.{AreApart, IsOneOf, IsTaken}
use Rattle.net_rules.proofs.SettingLaws.{input-by, priorities-by}
use Rattle.sync_topo.specs.declared.returns.ReturnRule.TheVariants.{Allowed}
use Rattle.sync_topo.specs.Hops.{hops_any}
use Rattle.sync_topo.proofs.HopLaws.{hop-meets}
use Rattle.closed_walks.proofs.Rings.{each-one}
use Rattle.prio_mode.specs.PriorityAlone.{priority_levels, priority_settings, priority_moment, priority_taken_at, priority_taken_in}
use Rattle.net_words.specs.NewElements.{one_level, by_priority}
use Rattle.prio_mode.specs.ForcedLoop.{forced_on, IsForcedLoop}
use Rattle.net_words.proofs.DistinctInputs.{place-at}
use Rattle.net_words.proofs.PlaceLemmas.{no-place-there, stands-there}
use Rattle.prio_mode.proofs.RingLaws.{IsFollowed, each_followed, receivers_apart, ring_apart, ring_joins}

-- up in its first millisecond, an input isn't failed
good-first : (timers : Timers) (now : Signal) → now.up ≡ true → failed_at timers (now ∷ []) ≡ false
unfolding failed_at
good-first timers now up =
    rw (up, le-ltb timers.holdoff 0 (omega arith)) (if-same (nat_lt timers.wtr 1 || now.clear) false)

-- a forced switch to an input that may be taken takes it
module _ (settings : Settings) (now : Moment) (place : ℕ) (within : place < length settings.priorities) where
  past : List Moment
  past = now ∷ []

  switched : Switches
  switched = record { locked = replicate (length settings.priorities) false; forced = Some place; manual = None }

  unlocked : is_locked (unswitched (length settings.priorities)) place ≡ false
  unlocked = get_or-replicate (length settings.priorities) place false false within

  forced-switch : after_commands (unswitched (length settings.priorities)) (command.Forced place ∷ []) ≡ switched
  unfolding switched
  forced-switch = rw unlocked refl

  commanded-is : now.commands ≡ command.Forced place ∷ [] → commanded settings now [] ≡ switched
  unfolding switches_at
  commanded-is told = ap (after_commands (switches_at settings [])) told ∙ forced-switch

  switches-are : now.commands ≡ command.Forced place ∷ [] → switches_at settings past ≡ switched
  unfolding switched past
  switches-are told =
      switches_at-cons settings now [] ∙ ap (λ t. at_end (candidates_at settings t (now ∷ [])) t) (commanded-is told)

  pub forced-taken : now.commands ≡ command.Forced place ∷ [] → failed_at settings.timers (signals_of place (now ∷ [])) ≡ false
      → settings.floor ≡ None → is_above_do_not_use (level_now place (now ∷ [])) ≡ true → selection_at settings (now ∷ []) ≡ Some place
  unfolding switched past
  forced-taken told good none above =
      let at : candidate (candidates_at settings switched past) place ≡ seen settings switched past place =
      get_or-map-range_with_len (seen settings switched past) 0 (length settings.priorities) place place nobody within (zero-add place) in
      let usable : usable_at settings switched past place ≡ true = rw (unlocked, good, none) refl in
      let eligible : is_eligible (candidate (candidates_at settings switched past) place) ≡ true =
      rw at (both_true {s = usable_at settings switched past place} {t = is_above_do_not_use (level_now place past)} usable above) in
      selection_at-cons settings now []
      ∙ ap (λ t. choice (candidates_at settings t (now ∷ [])) t.forced t.manual (selection_at settings [])) (switches-are told)
      ∙ ap (λ b. if b then Some place else None) eligible

-- the forced switches are all at 0
abbrev forced_event : ℕ → Event
forced_event line = record { at = 0; what = Forced (line_input line) }

all-at-0 : (lines : List ℕ) → events_at 0 (forced_on lines) ≡ forced_on lines
all-at-0 [] = refl
all-at-0 (line ∷ rest) = ap (λ events. forced_event line ∷ events) (all-at-0 rest)

abbrev told : Topology → ℕ → List ℕ → List Cmd
told plan element lines = filter_map (λ (event : Event). command_to plan element event.what) (forced_on lines)

-- switches to lines into other elements are no commands to this one
none-told : (plan : Topology) (element : ℕ) (lines : List ℕ) → Each (λ line. receiver_of plan line ≢ element) lines → told plan element lines ≡ []
none-told plan element [] each = refl
none-told plan element (line ∷ rest) each =
    rw (no-place-there plan element (line_input line) (λ is. each.0 is.of_element)) (none-told plan element rest each.1)

one-told : (plan : Topology) (line place : ℕ) (lines : List ℕ) → place_at plan (receiver_of plan line) (line_input line) ≡ Some place
    → AreApart (map (receiver_of plan) lines) → IsOneOf line lines → told plan (receiver_of plan line) lines ≡ command.Forced place ∷ []
one-told plan line place [] at apart among = absurd among
one-told plan line place (next ∷ rest) at apart (inl same) =
    let differ : Each (λ other. receiver_of plan other ≢ receiver_of plan line) rest =
    Each-map (λ other. receiver_of plan next ≢ receiver_of plan other) (λ other. receiver_of plan other ≢ receiver_of plan line)
    (λ other apart_from also. apart_from (ap (receiver_of plan) (sym same) ∙ sym also)) rest
    (Each-unmade (λ receiver. receiver_of plan next ≢ receiver) (receiver_of plan) rest apart.0) in
    let here : place_at plan (receiver_of plan line) (line_input next) ≡ Some place =
    subst (λ l. place_at plan (receiver_of plan line) (line_input l) ≡ Some place) same at in
    rw (here, none-told plan (receiver_of plan line) rest differ) refl
one-told plan line place (next ∷ rest) at apart (inr more) =
    let differs = each-one (λ other. receiver_of plan next ≢ receiver_of plan other) rest line
    (Each-unmade (λ receiver. receiver_of plan next ≢ receiver) (receiver_of plan) rest apart.0)
    more in
    rw (no-place-there plan (receiver_of plan line) (line_input next) (λ is. differs is.of_element)) (one-told plan line place rest at apart.1 more)

-- no forced switch says that an input is up or down
silent : (input : InputId) (p : Event → Bool) (lines : List ℕ) → last_word (says_up input) (filter p (forced_on lines)) ≡ None
silent input p [] = refl
silent input p (line ∷ rest) = by (p (forced_event line)) (silent input p rest)
  where
    by : (b : Bool) → last_word (says_up input) (filter p (forced_on rest)) ≡ None
        → last_word (says_up input) (if b then forced_event line ∷ filter p (forced_on rest) else filter p (forced_on rest)) ≡ None
    by true none = rw none refl
    by false none = none

stays-up : (lines : List ℕ) (input : InputId) → up_at (forced_on lines) input 0 ≡ true
unfolding up_at
stays-up lines input = ap (λ o. unwrap_or o true) (silent input (λ event. nat_lt event.at 1) lines)

-- the one level is better than do-not-use
above : (option : NetOption) → is_above_do_not_use (Some (one_level option)) ≡ true
above I = refl
above II = refl

settings-length : (plan : Topology) (element : ℕ) → length (priority_settings plan element).priorities ≡ length (inputs_of plan element)
unfolding priority_settings
settings-length plan element = priorities-by (by_priority plan) plan element

no-floor : (plan : Topology) (element : ℕ) → (priority_settings plan element).floor ≡ None
unfolding priority_settings
no-floor plan element = refl

priority-input-at : (plan : Topology) (signals : Signals) (element t i : ℕ) (input : InputId) → slice_get (inputs_of plan element) i ≡ Some input
    → input_of i (priority_moment plan signals element t) ≡ input_by signals (priority_levels plan) t input
unfolding priority_moment
priority-input-at plan signals element t i input at = input-by plan signals (priority_levels plan) element t i input at

moment-commands : (plan : Topology) (signals : Signals) (element t : ℕ) → (priority_moment plan signals element t).commands ≡ signals.commands element t
unfolding priority_moment
moment-commands plan signals element t = refl

-- each line of the list is taken by its receiver
line-taken : (plan : Topology) (lines : List ℕ) (line : ℕ) → AreApart (map (receiver_of plan) lines) → IsOneOf line lines → IsNominated plan line
    → IsTaken plan (priority_taken_in plan (signals_by plan (forced_on lines)) 0) line
unfolding priority_taken_at
line-taken plan lines line apart among nominated =
    let element : ℕ = receiver_of plan line in
    let signals : Signals = signals_by plan (forced_on lines) in
    let stands = stands-there plan element (line_input line) (record { has = IsNominated-within plan line nominated; nominated = nominated; of_element = refl }) in
    let place : ℕ = stands.0 in
    let now : Moment = priority_moment plan signals element 0 in
    let is_input = priority-input-at plan signals element 0 place (line_input line) stands.1 in
    let commands_are : now.commands ≡ command.Forced place ∷ [] =
    moment-commands plan signals element 0
    ∙ ap (λ events. filter_map (λ (event : Event). command_to plan element event.what) events) (all-at-0 lines)
    ∙ one-told plan line place lines (place-at plan element place (line_input line) stands.1) apart among in
    let good : failed_at (priority_settings plan element).timers (signals_of place (now ∷ [])) ≡ false =
    ap (λ (input : InputMoment). failed_at (priority_settings plan element).timers (input.signal ∷ [])) is_input
    ∙ good-first (priority_settings plan element).timers _ (stays-up lines (line_input line)) in
    let level : is_above_do_not_use (level_now place (now ∷ [])) ≡ true =
    ap (λ (input : InputMoment). is_above_do_not_use input.level) is_input ∙ above plan.option in
    let within : place < length (priority_settings plan element).priorities =
    rw (settings-length plan element) (slice_get_within (inputs_of plan element) place (line_input line) stands.1) in
    let selected = forced-taken (priority_settings plan element) now place within commands_are good (no-floor plan element) level in
    ap (option_and_then (slice_get (inputs_of plan element))) selected ∙ stands.1

each-taken : (plan : Topology) (lines some : List ℕ) → AreApart (map (receiver_of plan) lines) → Each (λ line. IsOneOf line lines) some
    → Each (IsFollowed (hops_any plan)) some → Each (IsTaken plan (priority_taken_in plan (signals_by plan (forced_on lines)) 0)) some
each-taken plan lines [] apart among followed = tt
each-taken plan lines (line ∷ rest) apart among followed = (
  line-taken plan lines line apart among.0 (hop-meets Allowed plan line followed.0.0 followed.0.1.hops).from,
  each-taken plan lines rest apart among.1 followed.1,
)

among-all : (lines : List ℕ) → Each (λ line. IsOneOf line lines) lines
among-all [] = tt
among-all (line ∷ rest) = (inl refl, Each-map (λ l. IsOneOf l rest) (λ l. IsOneOf l (line ∷ rest)) (λ l more. inr more) rest (among-all rest))

-- the forced switches are a list of events of the plan
all-fit : (plan : Topology) (lines : List ℕ) → Each (IsFollowed (hops_any plan)) lines → All (Fits plan) (forced_on lines)
all-fit plan [] followed = All-nil (Fits plan)
all-fit plan (line ∷ rest) followed =
    All-cons (Fits plan) (forced_event line) (forced_on rest)
    (IsNominated-within plan line (hop-meets Allowed plan line followed.0.0 followed.0.1.hops).from) (all-fit plan rest followed.1)

all-0 : (lines : List ℕ) (k : ℕ) (d : Event) → k < length (forced_on lines) → (slice_index_or (forced_on lines) k d).at ≡ 0
all-0 [] k d within = absurd (omega (arith, within))
all-0 (line ∷ rest) zero d within = refl
all-0 (line ∷ rest) (suc k) d within = all-0 rest k d (omega (arith, within))

forced-valid : (plan : Topology) (lines : List ℕ) → Each (IsFollowed (hops_any plan)) lines → IsEventList plan (forced_on lines)
forced-valid plan lines followed = record {
  fit = all-fit plan lines followed;
  in_order = λ k d within. omega (arith, all-0 lines k d (omega (arith, within)), all-0 lines (k + 1) d within);
}

pub first_is_forced_loop : (plan : Topology) (lines : List ℕ) → IsFirstCycle (hops_any plan) lines → IsForcedLoop plan lines
first_is_forced_loop plan [] cycle = absurd cycle
first_is_forced_loop plan (line ∷ rest) cycle =
    let followed = each_followed (hops_any plan) line rest line cycle.closes in
    let apart = ring_apart (hops_any plan) line rest cycle in
    let receivers = receivers_apart plan (line ∷ rest) followed apart in
    record {
      receivers_apart = receivers;
      valid = forced-valid plan (line ∷ rest) followed;
      closed = record {
        joined = ring_joins plan line rest line cycle.closes;
        each_taken = each-taken plan (line ∷ rest) (line ∷ rest) receivers (among-all (line ∷ rest)) followed;
        apart = apart;
      };
    }
