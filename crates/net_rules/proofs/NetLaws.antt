-- What an element takes, by its lines and sources.
use Rattle.std.proofs.Common.{◌≡◌, ◌<◌, ℕ, suc, Bool, true, false, List, length, Option, None, Some, IfSome, slice_get, refl, ap, sym, subst, ◌∙◌, inl, inr, arith}
use Rattle.std.specs.Prelude.{unwrap_or, option_and_then, if◌then◌else◌}
use Rattle.std.proofs.lemmas.Option.{slice_get_cases, none-some}
use Rattle.sync_text.proofs.Each.{each-at}
use Rattle.sync_ql.specs.declared.levels.NetOption.{NetOption}
use Rattle.sync_ql.specs.declared.levels.NetOption.TheVariants.{I, II}
use Rattle.sync_ql.specs.declared.levels.Level.{Level}
use Rattle.sync_ql.specs.Level.{do_not_use_of, IsBetter}
use Rattle.sync_ql.specs.Pasts.{past_of}
use Rattle.sync_ql.specs.Condition.{failed_at}
use Rattle.sync_ql.specs.Moment.{Moment, input_of, signals_of, level_now, selection_at}
use Rattle.sync_ql.specs.Output.{clock_level_at}
use Rattle.sync_ql.specs.Taken.{MayBeTaken}
use Rattle.sync_ql.proofs.TakenInputs.{taken_may_be_taken}
use Rattle.sync_topo.specs.declared.input.InputId.{InputId}
use Rattle.sync_topo.specs.Topology.{Topology}
use Rattle.sync_topo.specs.Lines.{line_input, sender_of, receiver_of, inputs_of, IsNominated, element_of}
use Rattle.net_rules.specs.Signals.{Signals}
use Rattle.net_rules.specs.Inputs.{IsInputOf}
use Rattle.net_rules.specs.History.{Levels, by_levels, settings_of, heard, input_level, moment_at, element_past, taken_by, taken_at, level_at, failed_by, is_way_back, sent_level}
use Rattle.net_rules.specs.Settings.{timers_of, signal_at, input_by}
use Rattle.net_rules.specs.Walks.{IsTaken}
use Rattle.net_rules.specs.Safety.{taken_in}
use Rattle.net_rules.proofs.InputLaws.{inputs-are}
use Rattle.net_rules.proofs.SettingLaws.{input-by, signals-by, priorities-by}

-- an input of an element in a millisecond, and its signals up to one
pub input-at : (plan : Topology) (signals : Signals) (hears : ℕ → ℕ → Option Level) (element t i : ℕ) (input : InputId)
    → slice_get (inputs_of plan element) i ≡ Some input
    → input_of i (moment_at plan signals hears element t) ≡ input_by signals (input_level signals hears) t input
unfolding moment_at
input-at plan signals hears element t i input at = input-by plan signals (input_level signals hears) element t i input at

pub signals-at : (plan : Topology) (signals : Signals) (hears : ℕ → ℕ → Option Level) (element n i : ℕ) (input : InputId)
    → slice_get (inputs_of plan element) i ≡ Some input
    → signals_of i (past_of (moment_at plan signals hears element) n) ≡ past_of (signal_at signals input) n
unfolding moment_at
signals-at plan signals hears element n i input at = signals-by plan signals (input_level signals hears) element n i input at

-- an element has a priority for each input
pub many-inputs : (plan : Topology) (element : ℕ) → length (settings_of plan element).priorities ≡ length (inputs_of plan element)
unfolding settings_of
many-inputs plan element = priorities-by (by_levels plan) plan element

settings-timers : (plan : Topology) (element : ℕ) → (settings_of plan element).timers ≡ timers_of plan element
unfolding settings_of
settings-timers plan element = refl

pub failed-at : (plan : Topology) (signals : Signals) (out : Levels) (element t i : ℕ) (input : InputId)
    → slice_get (inputs_of plan element) i ≡ Some input → element_of plan input ≡ element
    → failed_at (settings_of plan element).timers (signals_of i (element_past plan signals out element (suc t))) ≡ failed_by plan signals input t
unfolding failed_by
failed-at plan signals out element t i input at of_element =
    ap (λ timers. failed_at timers (signals_of i (element_past plan signals out element (suc t)))) (settings-timers plan element)
    ∙ ap (failed_at (timers_of plan element)) (signals-at plan signals (heard plan signals out) element (suc t) i input at)
    ∙ ap (λ e. failed_at (timers_of plan e) (past_of (signal_at signals input) (suc t))) (sym of_element)

pub level-at : (plan : Topology) (signals : Signals) (out : Levels) (element t i : ℕ) (input : InputId)
    → slice_get (inputs_of plan element) i ≡ Some input
    → level_now i (element_past plan signals out element (suc t)) ≡ input_level signals (heard plan signals out) input t
level-at plan signals out element t i input at =
    ap (λ told. told.level) (input-at plan signals (heard plan signals out) element t i input at)

-- what an element takes: a nominated input of its own, not failed, of a level better than do-not-use, which
-- is the level of the element
pub record IsTakenAt (plan : Topology) (signals : Signals) (out : Levels) (element t : ℕ) (input : InputId) : Type 0 where
  pub of : IsInputOf plan element input
  pub good : failed_by plan signals input t ≡ false
  pub has_level : input_level signals (heard plan signals out) input t ≡ Some (level_at plan signals out element t)
  pub above_do_not_use : IsBetter (level_at plan signals out element t) (do_not_use_of (level_at plan signals out element t).option)

-- the place that is selected, and the input there
pub record IsSelected (plan : Topology) (signals : Signals) (out : Levels) (element t : ℕ) (input : InputId) : Type 0 where
  pub place : ℕ
  pub selected : selection_at (settings_of plan element) (element_past plan signals out element (suc t)) ≡ Some place
  pub there : slice_get (inputs_of plan element) place ≡ Some input

pub selected-taken : (plan : Topology) (signals : Signals) (out : Levels) (element t : ℕ) (input : InputId)
    → taken_at plan signals out element t ≡ Some input → IsSelected plan signals out element t input
unfolding taken_at
selected-taken plan signals out element t input taken =
    by (selection_at (settings_of plan element) (element_past plan signals out element (suc t))) refl taken
  where
    by : (o : Option ℕ) → selection_at (settings_of plan element) (element_past plan signals out element (suc t)) ≡ o
        → option_and_then (slice_get (inputs_of plan element)) o ≡ Some input → IsSelected plan signals out element t input
    by None is none = absurd (none-some input none)
    by (Some place) is there = record { place = place; selected = is; there = there }

may-be-taken : (plan : Topology) (signals : Signals) (out : Levels) (element t place : ℕ)
    → selection_at (settings_of plan element) (element_past plan signals out element (suc t)) ≡ Some place
    → MayBeTaken (settings_of plan element) (element_past plan signals out element (suc t)) place
may-be-taken plan signals out element t place selected =
    subst (λ o. IfSome o (MayBeTaken (settings_of plan element) (element_past plan signals out element (suc t)))) selected
    (taken_may_be_taken (settings_of plan element) (moment_at plan signals (heard plan signals out) element t) (element_past plan signals out element t))

level-selected : (plan : Topology) (signals : Signals) (out : Levels) (element t place : ℕ) (level : Level)
    → selection_at (settings_of plan element) (element_past plan signals out element (suc t)) ≡ Some place
    → level_now place (element_past plan signals out element (suc t)) ≡ Some level
    → level_at plan signals out element t ≡ level
unfolding level_at clock_level_at
level-selected plan signals out element t place level selected is =
    ap (λ o. unwrap_or (option_and_then (λ i. level_now i (element_past plan signals out element (suc t))) o) (settings_of plan element).own) selected
    ∙ ap (λ o. unwrap_or o (settings_of plan element).own) is

pub taken-is : (plan : Topology) (signals : Signals) (out : Levels) (element t : ℕ) (input : InputId)
    → taken_at plan signals out element t ≡ Some input → IsTakenAt plan signals out element t input
taken-is plan signals out element t input taken =
    let s = selected-taken plan signals out element t input taken in
    let may = may-be-taken plan signals out element t s.place s.selected in
    let of = each-at (IsInputOf plan element) (inputs_of plan element) s.place input (inputs-are plan element) s.there in
    let level = level-selected plan signals out element t s.place may.level s.selected may.level_is in
    record {
      of = of;
      good = sym (failed-at plan signals out element t s.place input s.there of.of_element) ∙ may.not_failed;
      has_level = sym (level-at plan signals out element t s.place input s.there) ∙ may.level_is ∙ ap Some (sym level);
      above_do_not_use = subst (λ l. IsBetter l (do_not_use_of l.option)) (sym level) may.above_do_not_use;
    }

has_input : (plan : Topology) (element place : ℕ) → place < length (settings_of plan element).priorities → slice_get (inputs_of plan element) place ≡ None → ⊥
has_input plan element place within none = elim (slice_get_cases (inputs_of plan element) place).1 [
  | inl there ↦ none-some there.0 (sym none ∙ there.2)
  | inr past ↦ omega (arith, within, past.0, many-inputs plan element)
]

-- an element that takes nothing has its own clock's level
pub not-taken : (plan : Topology) (signals : Signals) (out : Levels) (element t : ℕ) → taken_at plan signals out element t ≡ None
    → level_at plan signals out element t ≡ (settings_of plan element).own
unfolding taken_at level_at clock_level_at
not-taken plan signals out element t none =
    by (selection_at (settings_of plan element) (element_past plan signals out element (suc t))) refl none
  where
    past : List Moment
    past = element_past plan signals out element (suc t)

    by : (o : Option ℕ) → selection_at (settings_of plan element) past ≡ o → option_and_then (slice_get (inputs_of plan element)) o ≡ None
        → unwrap_or (option_and_then (λ i. level_now i past) (selection_at (settings_of plan element) past)) (settings_of plan element).own ≡ (settings_of plan element).own
    by None is nothing = rw is refl
    by (Some place) is nothing =
        absurd (has_input plan element place (may-be-taken plan signals out element t place is).within nothing)

-- a line that is taken is nominated
pub taken-nominated : (plan : Topology) (signals : Signals) (out : Levels) (t line : ℕ) → IsTaken plan (taken_in plan signals out t) line
    → IsNominated plan line
taken-nominated plan signals out t line taken = (taken-is plan signals out (receiver_of plan line) t (line_input line) taken).of.nominated

pub not_above : (option : NetOption) → IsBetter (do_not_use_of option) (do_not_use_of (do_not_use_of option).option) → ⊥
not_above I above = absurd (omega (arith, above))
not_above II above = absurd (omega (arith, above))

-- a level sent that is better than do-not-use is its sender's, and the line doesn't lead back
pub record IsSentOn (plan : Topology) (signals : Signals) (out : Levels) (line t : ℕ) : Type 0 where
  pub not_back : is_way_back plan (taken_at plan signals out (sender_of plan line) t) line ≡ false
  pub level : sent_level plan signals out line t ≡ level_at plan signals out (sender_of plan line) t

pub sent-on : (plan : Topology) (signals : Signals) (out : Levels) (line t : ℕ)
    → IsBetter (sent_level plan signals out line t) (do_not_use_of (sent_level plan signals out line t).option)
    → IsSentOn plan signals out line t
unfolding sent_level taken_at level_at
sent-on plan signals out line t above =
    by (is_way_back plan (taken_by plan (sender_of plan line) (element_past plan signals out (sender_of plan line) (suc t))) line) refl above
  where
    level : Level
    level = clock_level_at (settings_of plan (sender_of plan line)) (element_past plan signals out (sender_of plan line) (suc t))

    by : (back : Bool) → is_way_back plan (taken_by plan (sender_of plan line) (element_past plan signals out (sender_of plan line) (suc t))) line ≡ back
        → IsBetter (if back then do_not_use_of plan.option else level) (do_not_use_of (if back then do_not_use_of plan.option else level).option)
        → IsSentOn plan signals out line t
    by true is good = absurd (not_above plan.option good)
    by false is good = record { not_back = is; level = rw is refl }
