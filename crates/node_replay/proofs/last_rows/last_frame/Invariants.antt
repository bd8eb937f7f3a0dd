use Rattle.std.proofs.Common.{◌≡◌, drop}
use Rattle.std.specs.Option.{option_or}
use Rattle.node_file.specs.NodeRow.{frames_on}
use Rattle.node_rules.specs.Replay.{last_of}
use Rattle.node_replay.proofs.last_rows.last_frame.Given as goal

-- the last frame that is left, or else the last of those before, is the last of all
abbrev pub invariant-loop-row : goal.invariant-loop-row
invariant-loop-row l = option_or (last_of (frames_on l.line.0 (drop l.row-index l.here))) l.found ≡ last_of (frames_on l.line.0 l.here)
