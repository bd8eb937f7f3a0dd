-- What contracts see of a network, and what is true of each that isn't
-- spent.
use Rattle.sync_net.specs.declared.net.Net.TheInside.{Inside}
use Rattle.sync_net.specs.NetState.{NetState}
use Rattle.sync_net.specs.Whole.{state_of}

abbrev pub net_state : Inside → NetState
net_state net = state_of net.plan.now net.spent net.parts
