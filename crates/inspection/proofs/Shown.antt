-- The rows of elements and inputs.
use Rattle.std.proofs.Common.{◌≡◌, ℕ, suc, [], Some, slice_get, sym, ap, ◌∙◌}
use Rattle.std.specs.Option.{option_map_or}
use Rattle.sync_topo.specs.declared.input.InputId.{InputId}
use Rattle.sync_topo.specs.Topology.{Topology}
use Rattle.sync_topo.specs.Lines.{inputs_of}
use Rattle.net_rules.specs.Signals.{Signals}
use Rattle.net_rules.specs.History.{Levels, settings_of, heard, input_level, element_past, condition_by}
use Rattle.inspection.specs.declared.inputs.InspectedInput.{InspectedInput}
use Rattle.inspection.specs.Verdict.{verdict_at}
use Rattle.inspection.specs.Inspection.{inspected_row, input_in, row_in}

-- the row of an input of which all is as the rules have it
pub input-shown : (plan : Topology) (signals : Signals) (out : Levels) (t element place : ℕ) (input : InputId) (it : InspectedInput) → slice_get (inputs_of plan element) place ≡ Some input
    → it.condition ≡ condition_by plan signals input t → it.level ≡ input_level signals (heard plan signals out) input t
    → it.verdict ≡ verdict_at (settings_of plan element) (element_past plan signals out element (suc t)) place
    → inspected_row plan element input it ≡ row_in plan signals out t element place
input-shown plan signals out t element place input it at condition level verdict =
    ap (λ c. inspected_row plan element input (record { condition = c; level = it.level; verdict = it.verdict })) condition
    ∙ ap (λ l. inspected_row plan element input (record { condition = condition_by plan signals input t; level = l; verdict = it.verdict })) level
    ∙ ap (λ v. inspected_row plan element input (record { condition = condition_by plan signals input t; level = input_level signals (heard plan signals out) input t; verdict = v })) verdict
    ∙ ap (λ o. option_map_or (λ other. inspected_row plan element other (input_in plan signals out t element place other)) o []) (sym at)
