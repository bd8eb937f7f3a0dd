-- Beside specs/NodeKept.antt, under no public clause: how an element that is replayed is seen, and what is true of
-- every one that isn't spent.
use Rattle.std.specs.Prelude.{◌≡◌, false}
use Rattle.node_replay.specs.declared.node.Node.TheInside.{Inside}

pub record IsSameElement (n : Inside) : Type 0 where
  pub plan : n.replay.plan ≡ n.lines.plan
  pub element : n.replay.element ≡ n.lines.element
  pub live : n.replay.spent ≡ false

abbrev pub IsKept : Inside → Type 0
IsKept n = n.spent ≡ false → IsSameElement n
