-- Beside specs/NetKept.antt, under no public clause: what contracts see of a network, and what is true of each that
-- isn't spent.
use Rattle.std.specs.Prelude.{◌≡◌, false}
use Rattle.sync_net.specs.declared.net.Net.TheInside.{Inside}
use Rattle.sync_net.specs.private.Whole.{IsWhole}

abbrev pub IsKept : Inside → Type 0
IsKept net = net.spent ≡ false → IsWhole net.plan.now net.parts
