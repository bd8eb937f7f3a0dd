-- Beside specs/Topic.antt, under no public clause: what the word of a line says of its target.
use Rattle.std.specs.Prelude.{◌≡◌, ℕ, true}
use Rattle.sync_topo.specs.Topology.{Topology}
use Rattle.event_file.specs.Words.{IsSaid}
use Rattle.node_file.specs.declared.topic.Topic.{Topic}
use Rattle.node_file.specs.declared.topic.Topic.TheVariants.{Comes, Says}
use Rattle.node_file.specs.NodeRow.{is_frame_line}
use Rattle.node_file.specs.Topic.{is_there}

-- a topic of an element of a plan
abbrev pub IsTopic : Topology → ℕ → Topic → Type 0
IsTopic plan element (Comes line) = is_frame_line plan element line.0 ≡ true
IsTopic plan element (Says told) = (is_there plan element told ≡ true) × IsSaid plan told
