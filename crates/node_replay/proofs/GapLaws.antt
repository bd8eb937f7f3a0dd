-- Milliseconds in which nothing happens.
use Rattle.std.proofs.Common.{◌≡◌, ◌≤◌, ◌<◌, ◌+◌, ◌-◌, ◌%◌, ℕ, zero, suc, Bool, true, false, ◌&&◌, not, List, [], ◌∷◌, ◌++◌, map, length, Option, None, Some, IfSome, refl, ap, sym, subst, ◌∙◌, arith, append-nil}
use Rattle.std.specs.Prelude.{nat_eq}
use Rattle.std.specs.List.{filter_map, cons_option, concat}
use Rattle.std.proofs.lemmas.Bool.{eq-eqb}
use Rattle.sync_text.proofs.Each.{Each-map}
use Rattle.sync_text.specs.Each.{Each}
use Rattle.sync_ql.proofs.SameMoments.{same_option}
use Rattle.sync_ql.specs.declared.levels.Level.{Level}
use Rattle.sync_ql.specs.Messages.{second, is_same_level}
use Rattle.sync_element.specs.ElementState.{IsInTime}
use Rattle.sync_topo.specs.declared.input.LineId.{LineId}
use Rattle.sync_topo.specs.declared.input.InputId.{InputId}
use Rattle.sync_topo.specs.declared.input.InputId.TheVariants.{Line, Source}
use Rattle.sync_topo.specs.Topology.{Topology}
use Rattle.node_file.specs.declared.row.NodeRow.{NodeRow}
use Rattle.node_file.specs.NodeRow.{rows_at}
use Rattle.node_replay.specs.declared.inputs.LastLevel.{LastLevel}
use Rattle.node_replay.specs.declared.inputs.InputNow.{InputNow}
use Rattle.node_replay.specs.declared.lines_out.LineOut.{LineOut}
use Rattle.node_replay.specs.declared.shown.InputAndLevel.{InputAndLevel}
use Rattle.node_replay.specs.declared.running.NodeRun.{NodeRun}
use Rattle.node_rules.specs.NodeText.{frame_row, sending_at, rows_before}
use Rattle.node_replay.specs.Rows.{IsRowList}
use Rattle.node_replay.specs.private.Keeping.{last_after, level_after, input_after, said_by, out_after, frame_for, frame_of, sent_row}
use Rattle.node_replay.specs.Running.{IsOfPast, IsInputAt, IsOutAt, RunStands}
use Rattle.node_replay.specs.private.Running.{AreSteady, AreGiven, IsRun, AreAway}
use Rattle.node_replay.proofs.KeptLevels.{outs-lines}
use Rattle.node_replay.proofs.InputSteps.{inputs-step, events-here}
use Rattle.node_replay.proofs.MomentLaws.{moment-quiet}
use Rattle.node_replay.proofs.ElementPasts.{quiet-past, gives}
use Rattle.node_replay.proofs.OutSteps.{IsSaid, outs-step}
use Rattle.node_replay.proofs.FrameRows.{sent-rows}
use Rattle.node_replay.proofs.TurnLaws.{lines-after}

-- no rows leave an input as it is, where its level stays
last-same : (id : InputId) (up : Bool) (last : Option LastLevel) (m : ℕ) → last_after id up last [] m ≡ last
last-same (Line line) true last m = refl
last-same (Line line) false last m = refl
last-same (Source source) up last m = refl

input-same : (m : ℕ) (input : InputNow) → level_after input.id input.up input.last input.level m ≡ input.level → input_after [] m input ≡ input
unfolding input_after
input-same m input steady =
    ap (λ last. record { id = input.id; up = input.up; level = level_after input.id input.up last input.level m; last = last }) (last-same input.id input.up input.last m)
    ∙ ap (λ level. record { id = input.id; up = input.up; level = level; last = input.last }) steady

inputs-same : (m : ℕ) (inputs : List InputNow) → AreSteady inputs m → map (input_after [] m) inputs ≡ inputs
inputs-same m [] steady = refl
inputs-same m (input ∷ inputs) steady = rw (input-same m input steady.0, inputs-same m inputs steady.1) refl

same-level : (level : Option Level) → is_same_level level level ≡ true
same-level None = refl
same-level (Some level) = rw (same_option level.option, eq-eqb level.place level.place refl) refl

-- and no line has news
no-frame : (t : ℕ) (line : LineId) (said : Option Level) → nat_eq (t % second) 0 ≡ false → frame_for t line said (not (is_same_level said said)) ≡ None
no-frame t line None rest = refl
no-frame t line (Some level) rest = rw (same-level (Some level), rest) refl

no-frame-of : (plan : Topology) (shown : InputAndLevel) (t : ℕ) (out : LineOut) → nat_eq (t % second) 0 ≡ false
    → out.said ≡ said_by plan shown out.line.0 (out.up && out.esmc) → frame_of t (out_after plan [] shown out) ≡ None
unfolding frame_of out_after
no-frame-of plan shown t out rest given =
    ap (λ was. frame_for t out.line (said_by plan shown out.line.0 (out.up && out.esmc)) (not (is_same_level (said_by plan shown out.line.0 (out.up && out.esmc)) was))) given
    ∙ no-frame t out.line (said_by plan shown out.line.0 (out.up && out.esmc)) rest

no-frames : (plan : Topology) (shown : InputAndLevel) (t : ℕ) (outs : List LineOut) → nat_eq (t % second) 0 ≡ false → AreGiven plan shown outs
    → filter_map (frame_of t) (map (out_after plan [] shown) outs) ≡ []
no-frames plan shown t [] rest given = refl
no-frames plan shown t (out ∷ outs) rest given =
    ap (λ o. cons_option o (filter_map (frame_of t) (map (out_after plan [] shown) outs))) (no-frame-of plan shown t out rest given.0) ∙ no-frames plan shown t outs rest given.1

-- the lines are as they were
out-same : (plan : Topology) (rows : List NodeRow) (place n : ℕ) (shown : InputAndLevel) (out : LineOut) → out.said ≡ said_by plan shown out.line.0 (out.up && out.esmc)
    → IsOutAt plan rows place n (out_after plan [] shown out) → IsOutAt plan rows place n out
unfolding out_after
out-same plan rows place n shown out given is = record { up = is.up; esmc = is.esmc; said = given ∙ is.said }

outs-same : (plan : Topology) (rows : List NodeRow) (place n t : ℕ) (shown : InputAndLevel) (outs : List LineOut) → AreGiven plan shown outs
    → Each (λ out. IsOutAt plan rows place n out × IsSaid plan rows place t out) (map (out_after plan [] shown) outs) → Each (IsOutAt plan rows place n) outs
outs-same plan rows place n t shown [] given is = tt
outs-same plan rows place n t shown (out ∷ outs) given is =
    (out-same plan rows place n shown out given.0 is.0.0, outs-same plan rows place n t shown outs given.1 is.1)

-- one quiet millisecond, which is not the first
module _ (plan : Topology) (place : ℕ) (rows : List NodeRow) (run : NodeRun) (is : IsRun plan place run) (list : IsRowList plan place rows) where
  -- where the run goes on quietly, it has begun
  begun : (m : ℕ) → run.next ≤ m → m < run.wake → 0 < run.next
  begun m low high = by run.next refl
    where
      by : (n : ℕ) → run.next ≡ n → 0 < run.next
      by zero first = let wakes = is.wakes_first first in absurd (omega (arith, wakes, high))
      by (suc n) later = omega (arith, later)

  on_time : (m : ℕ) → run.next ≤ m → m ≤ run.wake → 0 < run.next → IsInTime run.element m
  on_time m low high some = record {
    first = λ never. (let first = is.first never in absurd (omega (arith, first, some)));
    later = (let later = is.later in omega (arith, later, low));
    until_due = until run.element.due is.due;
  }
    where
      until : (due : Option ℕ) → IfSome due (λ d. run.wake ≤ d) → IfSome due (λ d. m ≤ d)
      until None late = tt
      until (Some d) late = omega (arith, late, high)

  inputs-quiet : (m : ℕ) → run.next ≤ m → m < run.wake → rows_at m rows ≡ [] → RunStands plan rows place m run → Each (IsInputAt plan rows (suc m)) run.inputs.items
  inputs-quiet m low high none stands =
      subst (Each (IsInputAt plan rows (suc m))) (inputs-same m run.inputs.items (is.steady m low high))
      (inputs-step plan rows [] m list.in_order none run.inputs.items stands.inputs)

  element-quiet : (k : ℕ) → run.next ≤ suc k → suc k < run.wake → rows_at (suc k) rows ≡ [] → RunStands plan rows place (suc k) run
      → IsOfPast plan rows place (suc (suc k)) run.element
  element-quiet k low high none stands =
      quiet-past plan rows place (suc k) run.element
      (on_time (suc (suc k)) (omega (arith, low)) (omega (arith, high)) (begun (suc k) low high))
      (moment-quiet plan rows place k run.inputs.items is.ids stands.inputs (inputs-quiet (suc k) low high none stands)
      (events-here plan rows [] (suc k) list.in_order none))
      stands.element

  outs-quiet : (k : ℕ) → run.next ≤ suc k → suc k < run.wake → rows_at (suc k) rows ≡ [] → RunStands plan rows place (suc k) run
      → Each (λ out. IsOutAt plan rows place (suc (suc k)) out × IsSaid plan rows place (suc k) out) (map (out_after plan [] run.shown) run.lines_out.items)
  outs-quiet k low high none stands =
      outs-step plan rows [] place (suc k) run.shown list.in_order none
      (gives plan rows place (suc (suc k)) run.element run.shown is.shows (element-quiet k low high none stands))
      run.lines_out.items stands.lines_out (outs-lines plan place run.lines_out.items is.lines)

  rows-quiet : (k : ℕ) → run.next ≤ suc k → suc k < run.wake → rows_at (suc k) rows ≡ [] → RunStands plan rows place (suc k) run
      → rows_before plan rows place (suc (suc k)) ≡ rows_before plan rows place (suc k)
  rows-quiet k low high none stands =
      let given = is.given (begun (suc k) low high) in
      let sent : map (sent_row plan place (suc k)) (filter_map (frame_of (suc k)) (map (out_after plan [] run.shown) run.lines_out.items)) ≡ map (frame_row plan rows place (suc k)) (sending_at plan rows place (suc k)) =
      sent-rows plan rows place (suc k) (map (out_after plan [] run.shown) run.lines_out.items) (lines-after plan [] run.shown run.lines_out.items ∙ is.lines)
      (Each-map (λ out. IsOutAt plan rows place (suc (suc k)) out × IsSaid plan rows place (suc k) out) (IsSaid plan rows place (suc k)) (λ out both. both.1)
      (map (out_after plan [] run.shown) run.lines_out.items) (outs-quiet k low high none stands)) in
      ap (λ more. rows_before plan rows place (suc k) ++ more)
      (sym sent ∙ ap (map (sent_row plan place (suc k))) (no-frames plan run.shown (suc k) run.lines_out.items (is.seconds (suc k) low high) given))
      ∙ append-nil (rows_before plan rows place (suc k))

  quiet-one : (k : ℕ) → run.next ≤ suc k → suc k < run.wake → rows_at (suc k) rows ≡ [] → RunStands plan rows place (suc k) run
      → RunStands plan rows place (suc (suc k)) run
  quiet-one k low high none stands = record {
    element = element-quiet k low high none stands;
    inputs = inputs-quiet (suc k) low high none stands;
    lines_out = outs-same plan rows place (suc (suc k)) (suc k) run.shown run.lines_out.items (is.given (begun (suc k) low high)) (outs-quiet k low high none stands);
    text = stands.text ∙ sym (ap concat (rows-quiet k low high none stands));
    count = stands.count ∙ sym (ap length (rows-quiet k low high none stands));
  }

  quiet-next : (m : ℕ) → run.next ≤ m → m < run.wake → rows_at m rows ≡ [] → RunStands plan rows place m run → RunStands plan rows place (suc m) run
  quiet-next zero low high none stands = let some = begun zero low high in absurd (omega (arith, some, low))
  quiet-next (suc k) low high none stands = quiet-one k low high none stands

  -- and as many as there are
  quiet-gap : (k : ℕ) → run.next + k ≤ run.wake → ((t : ℕ) → run.next ≤ t → t < run.next + k → rows_at t rows ≡ [])
      → RunStands plan rows place run.next run → RunStands plan rows place (run.next + k) run
  quiet-gap zero room away stands = let same : run.next ≡ run.next + zero = omega arith in subst (λ n. RunStands plan rows place n run) same stands
  quiet-gap (suc k) room away stands =
      let before = quiet-gap k (omega (arith, room)) (λ t low high. away t low (omega (arith, high))) stands in
      let same : suc (run.next + k) ≡ run.next + suc k = omega arith in
      subst (λ n. RunStands plan rows place n run) same
      (quiet-next (run.next + k) (omega arith) (omega (arith, room)) (away (run.next + k) (omega arith) (omega arith)) before)

-- a run that passes over quiet milliseconds
pub passed-stands : (plan : Topology) (place to next : ℕ) (rows : List NodeRow) (run after : NodeRun) → IsRun plan place run → AreAway plan place run.next to rows
    → run.next ≤ next → next ≤ to → next ≤ run.wake
    → after.element ≡ run.element → after.inputs.items ≡ run.inputs.items → after.lines_out.items ≡ run.lines_out.items → after.text ≡ run.text → after.rows ≡ run.rows
    → RunStands plan rows place run.next run → RunStands plan rows place next after
passed-stands plan place to next rows run after is away low until high element inputs outs text count stands =
    let same : run.next + (next - run.next) ≡ next = omega (arith, low) in
    let gap = subst (λ n. RunStands plan rows place n run) same
    (quiet-gap plan place rows run is away.list (next - run.next) (omega (arith, same, high)) (λ t later earlier. away.away t later (omega (arith, earlier, same, until))) stands) in
    record {
      element = subst (IsOfPast plan rows place next) (sym element) gap.element;
      inputs = subst (Each (IsInputAt plan rows next)) (sym inputs) gap.inputs;
      lines_out = subst (Each (IsOutAt plan rows place next)) (sym outs) gap.lines_out;
      text = text ∙ gap.text;
      count = count ∙ gap.count;
    }

-- a run that goes on quietly has begun
pub has-begun : (plan : Topology) (place : ℕ) (run : NodeRun) → IsRun plan place run → run.next < run.wake → 0 < run.next
has-begun plan place run is quiet = by run.next refl
  where
    by : (n : ℕ) → run.next ≡ n → 0 < run.next
    by zero first = let wakes = is.wakes_first first in absurd (omega (arith, wakes, quiet))
    by (suc n) later = omega (arith, later)
