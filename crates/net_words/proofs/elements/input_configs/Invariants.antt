use Rattle.std.proofs.Common.{◌≡◌, map, take}
use Rattle.net_words.specs.NewElements.{setting_of}
use Rattle.net_words.specs.private.NewElements.{config_by}
use Rattle.net_words.proofs.elements.input_configs.Given as goal

-- what the element is set to for the inputs so far
abbrev pub invariant-loop-input : goal.invariant-loop-input
invariant-loop-input l = l.inputs ≡ map (config_by (setting_of l.chooses l.plan) l.plan) (take l.input-index l.input-items)
