-- Beside specs/ReplayKept.antt, under no public clause: how a replay is seen, and what is true of every one.
use Rattle.std.specs.Prelude.{◌≡◌, false}
use Rattle.node_replay.specs.declared.replaying.Replay.TheInside.{Inside}
use Rattle.node_replay.specs.private.Collecting.{IsWhole}

-- its parts are whole, if memory didn't run out
abbrev pub IsKept : Inside → Type 0
IsKept r = r.spent ≡ false → IsWhole r.plan.now r.parts
