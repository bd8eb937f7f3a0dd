-- Beside specs/NewElements.antt, under no public clause: the elements of a plan that were told nothing, whatever they
-- choose by.
use Rattle.sync_element.specs.declared.config.InputConfig.{InputConfig}
use Rattle.sync_topo.specs.declared.input.InputId.{InputId}
use Rattle.sync_topo.specs.Topology.{Topology}
use Rattle.sync_topo.specs.Lines.{input_priority}
use Rattle.net_rules.specs.Settings.{Setting}

-- what an element is set to for an input
abbrev pub config_by : Setting → Topology → InputId → InputConfig
config_by setting plan input = record {
  priority = input_priority plan input;
  first = setting.first input;
  bundle = setting.bundle input;
}
