use Rattle.prio_mode.specs.PriorityAlone.{priority_settings}
use Rattle.prio_mode.proofs.starting.new_seen.Goals as goal

pub shown_of-shown-requires-clause-settings : goal.shown_of-shown-requires-clause-settings
unfolding priority_settings
shown_of-shown-requires-clause-settings c = c.in_ok-element.ensures.settings
