-- The answer to `node`: what one element of a plan sends, by a file of what it received.
use Rattle.std.specs.Prelude.{◌≡◌, ℕ, List, codes, Option, Some, None, Result, Ok, Err}
use Rattle.sync_edge.specs.Contents.{Contents}
use Rattle.sync_text.specs.Chain.{◌>>=◌}
use Rattle.sync_topo.specs.Topology.{Topology}
use Rattle.sync_topo.specs.Sizes.{size_of}
use Rattle.sync_topo.specs.Names.{place_of, element_names}
use Rattle.node_file.specs.declared.error.NodeErr.{NodeErr}
use Rattle.node_file.specs.declared.row.NodeRow.{NodeRow}
use Rattle.node_file.specs.Refusal.{numbers_of}
use Rattle.sync_top.specs.declared.node.TheConstants.{UNKNOWN_ELEMENT}
use Rattle.node_file.specs.NodeFile.{rows_of}
use Rattle.node_rules.specs.NodeText.{AllFit, IsLastFit, whole_text, stopped_text}
use Rattle.plan_texts.specs.Lines.{text_line}
use Rattle.sync_top.specs.declared.status.Status.{Status}
use Rattle.sync_top.specs.declared.status.Status.TheVariants.{BadFrames}
use Rattle.sync_top.specs.Status.{OnDoneOrStopped}
use Rattle.sync_top.specs.Form.{PlanName}
use Rattle.sync_top.specs.Reading.{End, answered, OrRefused, file, numbered_refusal, plan_in}

-- the line on a file that is refused
abbrev pub node_refusal : NodeErr → List ℕ
node_refusal refused = numbered_refusal (codes "bad node ") (numbers_of refused).0 (Some (numbers_of refused).1) (numbers_of refused).2

-- the element of a name
abbrev pub element_there : Option ℕ → Result ℕ End
element_there None = Err (answered BadFrames (text_line (numbered_refusal (codes "bad node ") UNKNOWN_ELEMENT None None)))
element_there (Some element) = Ok element

abbrev pub element_in : Topology → List ℕ → Result ℕ End
element_in plan name = element_there (place_of (element_names plan.elements) name)

-- an element of the plan of a file
abbrev pub element_of_plan : PlanName → List ℕ → Contents → Result ℕ End
element_of_plan plan_name element_name files = do
  plan ← plan_in plan_name files
  element_in plan element_name

-- an element of a plan, and then the bytes of the file
abbrev pub received_in : Topology → List ℕ → List ℕ → Contents → Result (ℕ × List ℕ) End
received_in plan element_name file_name files = do
  element ← element_in plan element_name
  bytes ← file (size_of plan) file_name files
  Ok (element, bytes)

-- the plan first, then its element, and then the bytes of the file
abbrev pub node_bytes : PlanName → List ℕ → List ℕ → Contents → Result (Topology × ℕ × List ℕ) End
node_bytes plan_name element_name file_name files = do
  plan ← plan_in plan_name files
  received ← received_in plan element_name file_name files
  Ok (plan, received.0, received.1)

-- all frames where their rows fit, and else those up to the last millisecond up to which all fit
abbrev pub AreAllFrames : Topology → ℕ → List NodeRow → ℕ → List ℕ → Type 0
AreAllFrames plan element rows until text = AllFit plan rows element until × (text ≡ whole_text plan rows element until)

abbrev pub AreFirstFrames : Topology → ℕ → List NodeRow → ℕ → List ℕ → Type 0
AreFirstFrames plan element rows until text = (t : ℕ) × IsLastFit plan rows element t until × (text ≡ stopped_text plan rows element t)

abbrev pub AreFramesSent : Topology → ℕ → List NodeRow → ℕ → Status → List ℕ → Type 0
AreFramesSent plan element rows until status text =
    OnDoneOrStopped status (AreAllFrames plan element rows until text) (AreFirstFrames plan element rows until text)

-- the answer to the bytes of the file: these rows, or the line on the row that is refused
abbrev pub IsNodeReply : Topology → ℕ → List ℕ → ℕ → Status → List ℕ → Type 0
IsNodeReply plan element bytes until status text =
    OrRefused (λ rows. AreFramesSent plan element rows until) BadFrames node_refusal (rows_of plan element bytes) status text
