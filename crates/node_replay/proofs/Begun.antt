-- A run before its first millisecond.
use Rattle.std.proofs.Common.{◌≡◌, ◌≤◌, ℕ, true, List, [], ◌∷◌, map, Some, IfSome, refl, ap, sym, subst, ◌∙◌, arith}
use Rattle.std.specs.Prelude.{unwrap_or}
use Rattle.sync_text.specs.Each.{Each}
use Rattle.node_rules.proofs.OptionLaws.{planned-option}
use Rattle.sync_text.proofs.Each.{Each-any, Each-made}
use Rattle.sync_element.specs.ElementState.{ElementState}
use Rattle.sync_element.proofs.ElementSteps.{stands-new}
use Rattle.sync_topo.specs.declared.source.Source as sources
use Rattle.sync_topo.specs.declared.input.InputId.{InputId}
use Rattle.sync_topo.specs.declared.input.InputId.TheVariants.{Line, Source}
use Rattle.sync_topo.specs.Topology.{Topology}
use Rattle.sync_topo.specs.Lines.{inputs_of}
use Rattle.sync_topo.specs.WellFormed.{IsWellFormed}
use Rattle.net_rules.specs.Signals.{planned_level, last_word, says_up, says_esmc, says_level}
use Rattle.net_rules.specs.History.{by_levels, settings_of, moment_at}
use Rattle.net_words.proofs.SplitWords.{none-before-0}
use Rattle.node_file.specs.declared.row.NodeRow.{NodeRow}
use Rattle.node_file.specs.NodeRow.{events_in}
use Rattle.node_replay.specs.declared.inputs.InputNow.{InputNow}
use Rattle.node_replay.specs.declared.lines_out.LineOut.{LineOut}
use Rattle.node_replay.specs.declared.running.NodeRun.{NodeRun}
use Rattle.node_rules.specs.Replay.{signals_in, heard_in}
use Rattle.node_rules.specs.NodeText.{lines_out}
use Rattle.node_replay.specs.private.Starting.{new_input, new_out}
use Rattle.net_words.specs.NewElements.{IsNewElement}
use Rattle.node_replay.specs.Running.{IsOfPast, IsInputAt, IsOutAt, RunStands}
use Rattle.node_replay.specs.private.Running.{Shows, IsKeptOf, IsRun}

ids-same : (plan : Topology) (xs : List InputId) → map (λ (input : InputNow). input.id) (map (new_input plan) xs) ≡ xs
ids-same plan [] = refl
ids-same plan (x ∷ xs) = ap (λ ys. x ∷ ys) (ids-same plan xs)

lines-same : (xs : List ℕ) → map (λ (out : LineOut). out.line.0) (map new_out xs) ≡ xs
lines-same [] = refl
lines-same (x ∷ xs) = ap (λ ys. x ∷ ys) (lines-same xs)

new-kept : (plan : Topology) (input : InputId) → IsWellFormed plan → IsKeptOf plan.option (new_input plan input)
new-kept plan (Line line) well = record { level = tt; last = tt }
new-kept plan (Source source) well = record { level = planned-option plan source well; last = planned-option plan source well }

pub begun : (plan : Topology) (place : ℕ) (run : NodeRun) → IsWellFormed plan → IsNewElement (by_levels plan) plan place run.element → Shows plan place run.element run.shown
    → run.inputs.items ≡ map (new_input plan) (inputs_of plan place) → run.lines_out.items ≡ map new_out (lines_out plan place)
    → run.next ≡ 0 → run.wake ≡ 0 → run.rows ≡ 0 → IsRun plan place run
unfolding settings_of
begun plan place run well new shows inputs outs next wake rows = record {
  well_formed = well;
  settings = new.settings;
  ids = ap (map (λ (input : InputNow). input.id)) inputs ∙ ids-same plan (inputs_of plan place);
  options = subst (Each (IsKeptOf plan.option)) (sym inputs)
      (Each-made (IsKeptOf plan.option) (new_input plan) (inputs_of plan place) (Each-any (λ input. IsKeptOf plan.option (new_input plan input)) (λ input. new-kept plan input well) (inputs_of plan place)));
  lines = ap (map (λ (out : LineOut). out.line.0)) outs ∙ lines-same (lines_out plan place);
  shows = shows;
  rows = omega (arith, rows);
  in_range = omega (arith, next);
  first = λ never. next;
  wakes_first = λ never. wake;
  later = (let at = new.next in omega (arith, at, next));
  awake = omega (arith, next, wake);
  due = subst (λ d. IfSome d (λ due. run.wake ≤ due)) (sym new.due) tt;
  steady = λ m low high. absurd (omega (arith, low, high, next, wake));
  seconds = λ m low high. absurd (omega (arith, low, high, next, wake));
  given = λ some. absurd (omega (arith, some, next));
}

new-input-at : (plan : Topology) (rows : List NodeRow) (input : InputId) → IsInputAt plan rows 0 (new_input plan input)
new-input-at plan rows (Line line) = record {
  up = sym (ap (λ es. unwrap_or (last_word (says_up (Line line)) es) true) (none-before-0 (events_in rows)));
  level = refl;
  last = refl;
}
new-input-at plan rows (Source source) = record {
  up = sym (ap (λ es. unwrap_or (last_word (says_up (Source source)) es) true) (none-before-0 (events_in rows)));
  level = refl;
  last = sym (ap (λ es. Some (unwrap_or (last_word (says_level source) es) (planned_level plan source))) (none-before-0 (events_in rows)));
}

new-out-at : (plan : Topology) (rows : List NodeRow) (place line : ℕ) → IsOutAt plan rows place 0 (new_out line)
new-out-at plan rows place line = record {
  up = sym (ap (λ es. unwrap_or (last_word (says_up (Line (record { 0 = line }))) es) true) (none-before-0 (events_in rows)));
  esmc = sym (ap (λ es. unwrap_or (last_word (says_esmc line) es) true) (none-before-0 (events_in rows)));
  said = refl;
}

new-past : (plan : Topology) (place : ℕ) (rows : List NodeRow) (element : ElementState) → IsNewElement (by_levels plan) plan place element → IsOfPast plan rows place 0 element
unfolding settings_of
new-past plan place rows element new =
    stands-new (settings_of plan place) (moment_at plan (signals_in plan rows) (heard_in plan rows) place) element new.settings new.next new.due new.stands

pub begun-stands : (plan : Topology) (place : ℕ) (run : NodeRun) → IsNewElement (by_levels plan) plan place run.element
    → run.inputs.items ≡ map (new_input plan) (inputs_of plan place) → run.lines_out.items ≡ map new_out (lines_out plan place)
    → run.text ≡ [] → run.rows ≡ 0 → (rows : List NodeRow) → RunStands plan rows place 0 run
begun-stands plan place run new inputs outs text count rows = record {
  element = new-past plan place rows run.element new;
  inputs = subst (Each (IsInputAt plan rows 0)) (sym inputs)
      (Each-made (IsInputAt plan rows 0) (new_input plan) (inputs_of plan place) (Each-any (λ input. IsInputAt plan rows 0 (new_input plan input)) (new-input-at plan rows) (inputs_of plan place)));
  lines_out = subst (Each (IsOutAt plan rows place 0)) (sym outs)
      (Each-made (IsOutAt plan rows place 0) new_out (lines_out plan place) (Each-any (λ line. IsOutAt plan rows place 0 (new_out line)) (new-out-at plan rows place) (lines_out plan place)));
  text = text;
  count = count;
}
