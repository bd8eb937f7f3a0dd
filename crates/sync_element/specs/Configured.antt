-- What an element is set to, as the rules see it.
use Rattle.std.specs.Prelude.{map}
use Rattle.sync_ql.specs.Moment.{Settings}
use Rattle.sync_element.specs.declared.config.Config.{Config}

abbrev pub settings_of : Config → Settings
settings_of config = record {
  own = config.own;
  timers = record { holdoff = config.holdoff; wtr = config.wtr };
  floor = config.floor;
  priorities = map (λ input. input.priority) config.inputs;
  first_levels = map (λ input. input.first) config.inputs;
  bundles = map (λ input. input.bundle) config.inputs;
}
