-- Private to this crate: what an element is told of its inputs in a millisecond.
use Rattle.std.specs.Prelude.{◌≡◌, ℕ, List, slice_get, Some, unwrap_or, All}
use Rattle.std.specs.List.{list_any, filter_map}
use Rattle.sync_ql.specs.declared.rules.InputEvent.{InputEvent}
use Rattle.sync_ql.specs.Told.{last_said, says_up, says_level, clears, commands_in, FitsElement}
use Rattle.sync_topo.specs.declared.input.InputId.{InputId}
use Rattle.sync_topo.specs.declared.event.Event.{Event}
use Rattle.sync_topo.specs.Topology.{Topology}
use Rattle.sync_topo.specs.Lines.{inputs_of}
use Rattle.net_rules.specs.Signals.{clears as clears_input, command_to}
use Rattle.net_rules.specs.History.{settings_of}
use Rattle.sync_net.specs.Kept.{Kept}
use Rattle.sync_net.specs.private.Kept.{kept_up, kept_level}

-- an element is told all that is otherwise of its inputs than before, which of them are cleared,
-- and its commands, by the events of a millisecond: what was kept with what it is told is what is
-- kept now
pub record IsTold (plan : Topology) (was now : Kept) (events : List Event) (element : ℕ) (changes : List InputEvent) : Type 0 where
  pub fits : All (FitsElement (settings_of plan element)) changes
  pub up : (i : ℕ) (input : InputId) → slice_get (inputs_of plan element) i ≡ Some input →
      unwrap_or (last_said (says_up i) changes) (kept_up was input) ≡ kept_up now input
  pub level : (i : ℕ) (input : InputId) → slice_get (inputs_of plan element) i ≡ Some input →
      unwrap_or (last_said (says_level i) changes) (kept_level was input) ≡ kept_level now input
  pub clear : (i : ℕ) (input : InputId) → slice_get (inputs_of plan element) i ≡ Some input →
      list_any (clears i) changes ≡ list_any (λ event. clears_input input event.what) events
  pub commands : commands_in changes ≡ filter_map (λ event. command_to plan element event.what) events
