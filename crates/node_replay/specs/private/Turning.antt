-- Private to this crate: what one millisecond makes of a run.
use Rattle.std.specs.Prelude.{◌≡◌, ◌≤◌, ◌<◌, ◌+◌, ◌-◌, ◌%◌, ℕ, false, nat_eq, List, ◌++◌, length, map, Option, Some, IfSome}
use Rattle.std.specs.List.{All, concat}
use Rattle.sync_ql.specs.Messages.{second}
use Rattle.sync_element.specs.StandsAfter.{IsStepped}
use Rattle.sync_topo.specs.Topology.{Topology}
use Rattle.sync_topo.specs.Sizes.{most_rows}
use Rattle.sync_topo.specs.Lines.{inputs_of}
use Rattle.node_file.specs.declared.row.NodeRow.{NodeRow}
use Rattle.node_replay.specs.declared.inputs.InputNow.{InputNow}
use Rattle.node_replay.specs.declared.frames.Sent.{Sent}
use Rattle.node_replay.specs.declared.running.NodeRun.{NodeRun}
use Rattle.node_replay.specs.private.Keeping.{heard_of, input_after, out_after, sent_row}
use Rattle.node_replay.specs.private.Telling.{all_told}
use Rattle.node_replay.specs.private.Running.{Shows}

-- nothing is due, no level that is heard is lost and no second begins before a millisecond
pub record IsWake (now : ℕ) (due : Option ℕ) (inputs : List InputNow) (wake : ℕ) : Type 0 where
  pub later : now < wake
  pub due_is : IfSome due (λ d. wake ≤ d)
  pub heard : (m : ℕ) → now ≤ m → m < wake → All (λ input. heard_of input.last m ≡ heard_of input.last now) inputs
  pub seconds : (m : ℕ) → now < m → m < wake → nat_eq (m % second) 0 ≡ false

-- the rows of the next millisecond are taken in, and the element has made its step
pub record IsTaken (plan : Topology) (number : ℕ) (here : List NodeRow) (before after : NodeRun) : Type 0 where
  pub inputs : after.inputs.items ≡ map (input_after here before.next) before.inputs.items
  pub stepped : IsStepped before.next (all_told (inputs_of plan number) number here after.inputs.items) before.element after.element
  pub shows : Shows plan number after.element after.shown
  pub lines_out : after.lines_out.items ≡ map (out_after plan here after.shown) before.lines_out.items
  pub wake : IsWake before.next after.element.due after.inputs.items after.wake
  pub next : after.next ≡ before.next + 1
  pub text : after.text ≡ before.text
  pub rows : after.rows ≡ before.rows
  pub stopped : after.stopped ≡ before.stopped

-- the frames of a millisecond are written, or the run stops before it
pub record IsWritten (plan : Topology) (number now : ℕ) (frames : List Sent) (before after : NodeRun) : Type 0 where
  pub element : after.element ≡ before.element
  pub shown : after.shown ≡ before.shown
  pub inputs : after.inputs.items ≡ before.inputs.items
  pub lines_out : after.lines_out.items ≡ before.lines_out.items
  pub next : after.next ≡ before.next
  pub wake : after.wake ≡ before.wake
  pub fits : before.rows + length frames ≤ most_rows plan
      → (after.rows ≡ before.rows + length frames) × (after.text ≡ before.text ++ concat (map (sent_row plan number now) frames))
      × (after.stopped ≡ before.stopped)
  pub full : most_rows plan < before.rows + length frames
      → (after.rows ≡ before.rows) × (after.text ≡ before.text) × (after.stopped ≡ Some (now - 1))
