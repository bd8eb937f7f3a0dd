-- The levels that a network sends are of its plan's option.
use Rattle.std.proofs.Common.{◌≡◌, ◌<◌, ℕ, zero, suc, Bool, true, false, ◌&&◌, List, [], ◌∷◌, map, get_or, Option, None, Some, refl, ap, sym, ◌∙◌, arith}
use Rattle.std.specs.Prelude.{if◌then◌else◌, slice_get, unwrap_or, option_and_then, nat_lt, nat_eq}
use Rattle.std.specs.Option.{option_map_or, option_or}
use Rattle.sync_text.proofs.Each.{Each-map, Each-filter, each-all}
use Rattle.sync_text.specs.Each.{Each}
use Rattle.sync_ql.specs.declared.levels.NetOption.{NetOption}
use Rattle.sync_ql.specs.declared.levels.Level.{Level}
use Rattle.sync_ql.specs.Level.{do_not_use_of}
use Rattle.sync_ql.specs.Pasts.{past_of}
use Rattle.sync_ql.specs.Messages.{said_in, heard_at}
use Rattle.sync_ql.specs.Moment.{InputMoment, Moment, Settings, level_now, selection_at}
use Rattle.sync_ql.specs.Output.{clock_level_at}
use Rattle.sync_ql.specs.Told.{IsOfOption}
use Rattle.sync_ql.proofs.DoNotUse.{do_not_use-option}
use Rattle.sync_topo.specs.declared.element.Element.{Element}
use Rattle.sync_topo.specs.declared.source.Source as declared
use Rattle.sync_topo.specs.declared.input.InputId.{InputId}
use Rattle.sync_topo.specs.declared.input.InputId.TheVariants.{Line, Source}
use Rattle.sync_topo.specs.declared.event.What.{What}
use Rattle.sync_topo.specs.declared.event.What.TheVariants.{Down, Up, EsmcOff, EsmcOn, SourceLevel, Lockout, Unlock, Forced, Manual, Clear, ClearWtr}
use Rattle.sync_topo.specs.declared.event.Event.{Event}
use Rattle.sync_topo.specs.Topology.{Topology}
use Rattle.sync_topo.specs.Lines.{sender_of, delay_of, inputs_of, IsNominated}
use Rattle.sync_topo.specs.Events.{Fits, MayHappen, IsEventList}
use Rattle.sync_topo.specs.WellFormed.{IsWellFormed}
use Rattle.net_rules.specs.Signals.{Signals, signals_by, events_before, last_word, says_level, up_at, said_at, planned_level, source_level_before, source_level_at}
use Rattle.net_rules.specs.Inputs.{IsInputOf}
use Rattle.net_rules.specs.History.{settings_of, line_moment_at, heard, input_level, moment_at, element_past, taken_by, is_way_back, sent_level, out_at}
use Rattle.net_rules.specs.Settings.{input_by}
use Rattle.net_rules.proofs.InputLaws.{inputs-are}
use Rattle.net_rules.proofs.Arrivals.{heard-said}
use Rattle.net_rules.proofs.HistoryLaws.{out_at-sent}
use Rattle.net_rules.proofs.PlanLaws.{IsDelayed-well}

-- ---- plans

own-option : (plan : Topology) (element : ℕ) → IsWellFormed plan → (settings_of plan element).own.option ≡ plan.option
unfolding settings_of
own-option plan element well = of (slice_get plan.elements element) refl
  where
    of : (o : Option Element) → slice_get plan.elements element ≡ o → (option_map_or (λ (e : Element). e.own) o (do_not_use_of plan.option)).option ≡ plan.option
    of None is = do_not_use-option plan.option
    of (Some e) is = (well.elements_fit element e is).own_is_clock_level.of_option

pub planned-option : (plan : Topology) (source : ℕ) → IsWellFormed plan → (planned_level plan source).option ≡ plan.option
planned-option plan source well = of (slice_get plan.sources source) refl
  where
    of : (o : Option declared.Source) → slice_get plan.sources source ≡ o → (option_map_or (λ (s : declared.Source). s.level) o (do_not_use_of plan.option)).option ≡ plan.option
    of None is = do_not_use-option plan.option
    of (Some s) is = (well.sources_fit source s is).of_option

-- ---- sources

last-option : (option : NetOption) (says : What → Option Level) (events : List Event) → Each (λ event. IsOfOption option (says event.what)) events → IsOfOption option (last_word says events)
last-option option says [] each = tt
last-option option says (event ∷ events) each = of (last_word says events) (last-option option says events each.1)
  where
    of : (o : Option Level) → IsOfOption option o → IsOfOption option (option_or o (says event.what))
    of None is = each.0
    of (Some level) is = is

said-option : (plan : Topology) (source : ℕ) (event : Event) → Fits plan event → IsOfOption plan.option (says_level source event.what)
said-option plan source event fits = of event.what fits
  where
    of : (what : What) → MayHappen plan what → IsOfOption plan.option (says_level source what)
    of (SourceLevel other level) may = by (nat_eq source other)
      where
        by : (b : Bool) → IsOfOption plan.option (if b then Some level else None)
        by true = may.1
        by false = tt
    of (Down part) may = tt
    of (Up part) may = tt
    of (EsmcOff line) may = tt
    of (EsmcOn line) may = tt
    of (Lockout input) may = tt
    of (Unlock input) may = tt
    of (Forced input) may = tt
    of (Manual input) may = tt
    of (Clear element) may = tt
    of (ClearWtr input) may = tt

-- ---- elements

unwrapped-option : (option : NetOption) (o : Option Level) (other : Level) → IsOfOption option o → other.option ≡ option → (unwrap_or o other).option ≡ option
unwrapped-option option None other is same = same
unwrapped-option option (Some level) other is same = is

-- what is kept of the inputs' levels
at-place : {A : Type 0} (option : NetOption) (f : A → InputMoment) (beyond : InputMoment) (xs : List A) (i : ℕ) → IsOfOption option beyond.level → Each (λ x. IsOfOption option (f x).level) xs
    → IsOfOption option (get_or (map f xs) i beyond).level
at-place option f beyond [] i none each = none
at-place option f beyond (x ∷ xs) zero none each = each.0
at-place option f beyond (x ∷ xs) (suc i) none each = at-place option f beyond xs i none each.1

clock-option : (option : NetOption) (settings : Settings) (past : List Moment) → settings.own.option ≡ option → ((i : ℕ) → IsOfOption option (level_now i past)) → (clock_level_at settings past).option ≡ option
unfolding clock_level_at
clock-option option settings past own levels = unwrapped-option option (option_and_then (λ i. level_now i past) (selection_at settings past)) settings.own (of (selection_at settings past)) own
  where
    of : (o : Option ℕ) → IsOfOption option (option_and_then (λ i. level_now i past) o)
    of None = tt
    of (Some i) = levels i

module _ (plan : Topology) (events : List Event) (well : IsWellFormed plan) (are : IsEventList plan events) where
  abbrev signals : Signals
  signals = signals_by plan events

  told-option : (source n : ℕ) → IsOfOption plan.option (last_word (says_level source) (events_before n events))
  told-option source n =
      last-option plan.option (says_level source) (events_before n events)
      (Each-map _ (λ event. IsOfOption plan.option (says_level source event.what)) (λ event both. said-option plan source event both.0) (events_before n events)
      (Each-filter (Fits plan) (λ event. nat_lt event.at n) events (each-all (Fits plan) events are.fit)))

  source-option : (source n : ℕ) → (source_level_before plan events source n).option ≡ plan.option
  unfolding said_at
  source-option source zero = planned-option plan source well
  source-option source (suc n) =
      by (up_at events (Source source) n) (source-option source n)
    where
      by : (b : Bool) → (source_level_before plan events source n).option ≡ plan.option
          → (if b then unwrap_or (last_word (says_level source) (events_before (suc n) events)) (planned_level plan source) else source_level_before plan events source n).option ≡ plan.option
      by true earlier = unwrapped-option plan.option (last_word (says_level source) (events_before (suc n) events)) (planned_level plan source) (told-option source (suc n)) (planned-option plan source well)
      by false earlier = earlier

  carried-level : (line from : ℕ) (level : Level) → said_in (line_moment_at signals (out_at plan signals) line from) ≡ Some level → out_at plan signals line from ≡ level
  carried-level line from level says = of ((line_moment_at signals (out_at plan signals) line from).up) ((line_moment_at signals (out_at plan signals) line from).esmc) says
    where
      of : (up esmc : Bool) → (if up && esmc then Some (out_at plan signals line from) else None) ≡ Some level → out_at plan signals line from ≡ level
      of true true is = ap (λ o. unwrap_or o level) is
      of true false is = cc
      of false esmc is = cc

  -- a level that is heard was sent before
  heard-option : (line t : ℕ) → IsNominated plan line → ((from : ℕ) → from < t → (out_at plan signals line from).option ≡ plan.option)
      → IsOfOption plan.option (heard plan signals (out_at plan signals) line t)
  unfolding heard
  heard-option line t nominated earlier = of (heard_at (delay_of plan line) (past_of (line_moment_at signals (out_at plan signals) line) (suc t))) refl
    where
      of : (o : Option Level) → heard_at (delay_of plan line) (past_of (line_moment_at signals (out_at plan signals) line) (suc t)) ≡ o → IsOfOption plan.option o
      of None is = tt
      of (Some level) is =
          let said = heard-said (line_moment_at signals (out_at plan signals) line) level (delay_of plan line) t is in
          let delayed = IsDelayed-well plan well line nominated in
          ap (λ (l : Level). l.option) (sym (carried-level line said.0 level said.3)) ∙ earlier said.0 (omega (arith, said.1, delayed))

  input-option : (t : ℕ) → ((line from : ℕ) → from < t → (out_at plan signals line from).option ≡ plan.option)
      → (element : ℕ) (input : InputId) → IsInputOf plan element input → IsOfOption plan.option (input_level signals (heard plan signals (out_at plan signals)) input t)
  unfolding source_level_at
  input-option t earlier element (Line line) is = heard-option line.0 t is.nominated (earlier line.0)
  input-option t earlier element (Source source) is = source-option source (suc t)

  level-option : (t : ℕ) → ((line from : ℕ) → from < t → (out_at plan signals line from).option ≡ plan.option)
      → (element i : ℕ) → IsOfOption plan.option (level_now i (element_past plan signals (out_at plan signals) element (suc t)))
  unfolding moment_at
  level-option t earlier element i =
      at-place plan.option (input_by signals (input_level signals (heard plan signals (out_at plan signals))) t)
      (record { signal = record { up = true; clear = false }; level = None }) (inputs_of plan element) i tt
      (Each-map (IsInputOf plan element) _ (input-option t earlier element) (inputs_of plan element) (inputs-are plan element))

  sent-option : (line t : ℕ) → ((other from : ℕ) → from < t → (out_at plan signals other from).option ≡ plan.option)
      → (sent_level plan signals (out_at plan signals) line t).option ≡ plan.option
  unfolding sent_level
  sent-option line t earlier = of (is_way_back plan (taken_by plan (sender_of plan line) (element_past plan signals (out_at plan signals) (sender_of plan line) (suc t))) line)
    where
      of : (b : Bool) → (if b then do_not_use_of plan.option else clock_level_at (settings_of plan (sender_of plan line)) (element_past plan signals (out_at plan signals) (sender_of plan line) (suc t))).option ≡ plan.option
      of true = do_not_use-option plan.option
      of false =
          clock-option plan.option (settings_of plan (sender_of plan line)) (element_past plan signals (out_at plan signals) (sender_of plan line) (suc t))
          (own-option plan (sender_of plan line) well) (level-option t earlier (sender_of plan line))

  option-before : (n line t : ℕ) → t < n → (out_at plan signals line t).option ≡ plan.option
  option-before zero line t early = absurd (omega (arith, early))
  option-before (suc n) line t early =
      ap (λ (l : Level). l.option) (out_at-sent plan (IsDelayed-well plan well) signals line t)
      ∙ sent-option line t (λ other from before. option-before n other from (omega (arith, early, before)))

  pub out-option : (line t : ℕ) → (out_at plan (signals_by plan events) line t).option ≡ plan.option
  out-option line t = option-before (suc t) line t (omega arith)
