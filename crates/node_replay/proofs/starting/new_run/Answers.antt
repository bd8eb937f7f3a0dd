use Rattle.std.proofs.Common.{refl, ◌∙◌}
use Rattle.net_rules.specs.History.{settings_of}
use Rattle.node_replay.proofs.Begun.{begun, begun-stands}
use Rattle.node_replay.proofs.starting.new_run.Goals as goal

pub returns-clause-run : goal.returns-clause-run
returns-clause-run c =
    begun c.args.plan.now c.args.number _ c.elements-elements.ensures.well_formed c.in_ok-element.ensures c.shown_of-shown.ensures
    (c.into_vec.ensures ∙ c.in_ok-inputs.ensures) (c.into_vec-2.ensures ∙ c.in_ok-lines.ensures) refl refl refl

pub returns-clause-stands : goal.returns-clause-stands
returns-clause-stands c =
    begun-stands c.args.plan.now c.args.number _ c.in_ok-element.ensures
    (c.into_vec.ensures ∙ c.in_ok-inputs.ensures) (c.into_vec-2.ensures ∙ c.in_ok-lines.ensures) c.new-2.ensures refl

pub shown_of-shown-requires-clause-settings : goal.shown_of-shown-requires-clause-settings
unfolding settings_of
shown_of-shown-requires-clause-settings c = c.in_ok-element.ensures.settings
