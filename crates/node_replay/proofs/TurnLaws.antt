-- What one millisecond makes of a run.
use Rattle.std.proofs.Common.{◌≡◌, ◌≤◌, ◌<◌, ◌+◌, ◌-◌, ◌%◌, ℕ, zero, suc, Bool, true, false, ◌&&◌, List, [], ◌∷◌, ◌++◌, map, filter, length, Option, None, Some, IfSome, refl, ap, sym, subst, ◌∙◌, inl, inr, ◌⊎◌, arith}
use Rattle.std.specs.Prelude.{nat_eq, nat_lt, not, ◌||◌, ◌==◌, if◌then◌else◌}
use Rattle.std.specs.List.{All, filter_map, cons_option, concat, range_with_len}
use Rattle.std.proofs.Math.Decide.{dec_lt}
use Rattle.std.proofs.lemmas.List.{length-map, length-append}
use Rattle.std.proofs.lemmas.List.Folds.{concat-append}
use Rattle.sync_text.proofs.Each.{Each-map, all-each, each-all}
use Rattle.sync_text.specs.Each.{Each}
use Rattle.sync_ql.specs.declared.levels.Level.{Level}
use Rattle.sync_ql.specs.declared.limits.TheConstants.{LAST_MILLISECOND}
use Rattle.sync_ql.specs.Messages.{second, is_same_level}
use Rattle.sync_element.specs.ElementState.{ElementState}
use Rattle.sync_topo.specs.declared.input.InputId.{InputId}
use Rattle.sync_topo.specs.declared.input.InputId.TheVariants.{Line, Source}
use Rattle.sync_topo.specs.Topology.{Topology}
use Rattle.sync_topo.specs.WellFormed.{IsWellFormed}
use Rattle.sync_topo.specs.Lines.{line_count, sender_of}
use Rattle.node_file.specs.declared.row.NodeRow.{NodeRow}
use Rattle.node_file.specs.NodeRow.{IsRowOf}
use Rattle.node_replay.specs.declared.inputs.LastLevel.{LastLevel}
use Rattle.node_replay.specs.declared.inputs.InputNow.{InputNow}
use Rattle.node_replay.specs.declared.lines_out.LineOut.{LineOut}
use Rattle.node_replay.specs.declared.shown.InputAndLevel.{InputAndLevel}
use Rattle.node_replay.specs.declared.frames.Sent.{Sent}
use Rattle.node_replay.specs.declared.running.NodeRun.{NodeRun}
use Rattle.sync_topo.specs.Sizes.{most_rows}
use Rattle.node_rules.specs.NodeText.{lines_out, frame_row, sending_at, rows_before}
use Rattle.node_replay.specs.private.Keeping.{heard_of, level_after, up_then, last_then, input_after, out_after, frame_for, frame_of, sent_row}
use Rattle.node_replay.specs.Running.{IsOfPast, IsInputAt, IsOutAt, RunStands, RunHolds}
use Rattle.node_replay.specs.private.Running.{Shows, IsKeptOf, AreSteady, AreGiven, IsRun, AreHere}
use Rattle.node_replay.specs.private.Turning.{IsTaken, IsWritten}
use Rattle.node_replay.proofs.KeptLevels.{kept-all, ids-after, outs-lines}
use Rattle.node_replay.proofs.InputSteps.{inputs-step, events-here}
use Rattle.node_replay.proofs.MomentLaws.{moment-told}
use Rattle.node_replay.proofs.ElementPasts.{stepped-past, gives}
use Rattle.node_replay.proofs.OutSteps.{IsSaid, IsFrom, outs-step}
use Rattle.node_replay.proofs.FrameRows.{sent-rows}

-- the lines stay those that they are
pub lines-after : (plan : Topology) (here : List NodeRow) (shown : InputAndLevel) (outs : List LineOut)
    → map (λ out. out.line.0) (map (out_after plan here shown) outs) ≡ map (λ out. out.line.0) outs
unfolding out_after
lines-after plan here shown [] = refl
lines-after plan here shown (out ∷ outs) = ap (λ ls. out.line.0 ∷ ls) (lines-after plan here shown outs)

-- the level of an input stays while what is heard does
level-stays : (id : InputId) (up : Bool) (last : Option LastLevel) (level : Option Level) (now m : ℕ) → heard_of last m ≡ heard_of last now
    → level_after id up last (level_after id up last level now) m ≡ level_after id up last level now
level-stays (Line line) up last level now m same = same
level-stays (Source source) true last level now m same = refl
level-stays (Source source) false last level now m same = refl

steady-one : (here : List NodeRow) (now m : ℕ) (input : InputNow) → heard_of (input_after here now input).last m ≡ heard_of (input_after here now input).last now
    → level_after (input_after here now input).id (input_after here now input).up (input_after here now input).last (input_after here now input).level m ≡ (input_after here now input).level
unfolding input_after
steady-one here now m input same = level-stays input.id (up_then here input) (last_then here now input) input.level now m same

steady-after : (here : List NodeRow) (now m : ℕ) (inputs : List InputNow)
    → Each (λ input. heard_of input.last m ≡ heard_of input.last now) (map (input_after here now) inputs) → AreSteady (map (input_after here now) inputs) m
steady-after here now m [] same = tt
steady-after here now m (input ∷ inputs) same = (steady-one here now m input same.0, steady-after here now m inputs same.1)

given-after : (plan : Topology) (here : List NodeRow) (shown : InputAndLevel) (outs : List LineOut) → AreGiven plan shown (map (out_after plan here shown) outs)
unfolding out_after
given-after plan here shown [] = tt
given-after plan here shown (out ∷ outs) = (refl, given-after plan here shown outs)

-- a run after the rows of a millisecond
pub taken-run : (plan : Topology) (place : ℕ) (here : List NodeRow) (before after : NodeRun) → IsRun plan place before → before.next ≤ 86400000
    → Each (IsRowOf plan place) here → IsTaken plan place here before after → IsRun plan place after
taken-run plan place here before after run in_range rows taken = record {
  well_formed = run.well_formed;
  settings = taken.stepped.settings ∙ run.settings;
  ids = ap (map (λ (input : InputNow). input.id)) taken.inputs ∙ ids-after here before.next before.inputs.items ∙ run.ids;
  options = subst (Each (IsKeptOf plan.option)) (sym taken.inputs) (kept-all plan place here before.next before.inputs.items rows run.options);
  lines = ap (map (λ (out : LineOut). out.line.0)) taken.lines_out ∙ lines-after plan here after.shown before.lines_out.items ∙ run.lines;
  shows = taken.shows;
  rows = subst (λ n. n ≤ most_rows plan) (sym taken.rows) run.rows;
  in_range = (let next = taken.next in omega (arith, next, in_range));
  first = λ never. (let next = taken.stepped.next in absurd (omega (arith, next, never)));
  wakes_first = λ never. (let next = taken.next in absurd (omega (arith, next, never)));
  later = (let next = taken.next in let made = taken.stepped.next in omega (arith, next, made));
  awake = (let next = taken.next in let later = taken.wake.later in omega (arith, next, later));
  due = taken.wake.due_is;
  steady = λ m low high.
      let next = taken.next in
      subst (λ inputs. AreSteady inputs m) (sym taken.inputs)
      (steady-after here before.next m before.inputs.items
      (subst (Each (λ (input : InputNow). heard_of input.last m ≡ heard_of input.last before.next)) taken.inputs
      (each-all (λ (input : InputNow). heard_of input.last m ≡ heard_of input.last before.next) after.inputs.items
      (taken.wake.heard m (omega (arith, next, low)) high))));
  seconds = λ m low high. (let next = taken.next in taken.wake.seconds m (omega (arith, next, low)) high);
  given = λ some. subst (AreGiven plan after.shown) (sym taken.lines_out) (given-after plan here after.shown before.lines_out.items);
}

-- and after its frames are written
fits-or-not : (n m : ℕ) → (n ≤ m) ⊎ (m < n)
fits-or-not n m = elim (dec_lt m n) [
  | yes full ↦ inr full
  | no fits ↦ inl (omega (arith, fits))
]

pub written-run : (plan : Topology) (place now : ℕ) (frames : List Sent) (before after : NodeRun) → IsRun plan place before
    → IsWritten plan place now frames before after → IsRun plan place after
written-run plan place now frames before after run written = record {
  well_formed = run.well_formed;
  settings = ap (λ (e : ElementState). e.settings) written.element ∙ run.settings;
  ids = ap (map (λ (input : InputNow). input.id)) written.inputs ∙ run.ids;
  options = subst (Each (IsKeptOf plan.option)) (sym written.inputs) run.options;
  lines = ap (map (λ (out : LineOut). out.line.0)) written.lines_out ∙ run.lines;
  shows = subst (λ e. Shows plan place e after.shown) (sym written.element) (subst (Shows plan place before.element) (sym written.shown) run.shows);
  rows = elim (fits-or-not (before.rows + length frames) (most_rows plan)) [
    | inl fits ↦ (let is = (written.fits fits).0 in omega (arith, is, fits))
    | inr full ↦ (let is = (written.full full).0 in let few = run.rows in omega (arith, is, few))
  ];
  in_range = subst (λ n. n ≤ LAST_MILLISECOND + 1) (sym written.next) run.in_range;
  first = λ never. written.next ∙ run.first (sym (ap (λ (e : ElementState). e.next) written.element) ∙ never);
  wakes_first = λ never. written.wake ∙ run.wakes_first (sym written.next ∙ never);
  later = (let next = written.next in let made = ap (λ (e : ElementState). e.next) written.element in let was = run.later in omega (arith, next, made, was));
  awake = (let next = written.next in let wake = written.wake in let was = run.awake in omega (arith, next, wake, was));
  due = subst (λ w. IfSome after.element.due (λ due. w ≤ due)) (sym written.wake)
      (subst (λ (e : ElementState). IfSome e.due (λ due. before.wake ≤ due)) (sym written.element) run.due);
  steady = λ m low high. (let next = written.next in let wake = written.wake in
      subst (λ inputs. AreSteady inputs m) (sym written.inputs) (run.steady m (omega (arith, next, low)) (omega (arith, wake, high))));
  seconds = λ m low high. (let next = written.next in let wake = written.wake in run.seconds m (omega (arith, next, low)) (omega (arith, wake, high)));
  given = λ some. (let next = written.next in
      subst (AreGiven plan after.shown) (sym written.lines_out) (subst (λ s. AreGiven plan s before.lines_out.items) (sym written.shown) (run.given (omega (arith, next, some)))));
}

-- the frames of one millisecond are few
filter-few : (p : ℕ → Bool) (from n : ℕ) → length (filter p (range_with_len from n)) ≤ n
filter-few p from zero = omega arith
filter-few p from (suc n) = by (p from) (filter-few p (from + 1) n)
  where
    by : (b : Bool) → length (filter p (range_with_len (from + 1) n)) ≤ n
        → length (if b then from ∷ filter p (range_with_len (from + 1) n) else filter p (range_with_len (from + 1) n)) ≤ suc n
    by true rest = omega (arith, rest)
    by false rest = omega (arith, rest)

made-few : {A B : Type 0} (f : A → Option B) (xs : List A) → length (filter_map f xs) ≤ length xs
made-few f [] = omega arith
made-few {A = A} {B = B} f (x ∷ xs) = by (f x) (made-few f xs)
  where
    by : (o : Option B) → length (filter_map f xs) ≤ length xs → length (cons_option o (filter_map f xs)) ≤ suc (length xs)
    by None rest = omega (arith, rest)
    by (Some y) rest = omega (arith, rest)

few-frames : (plan : Topology) (place t : ℕ) (outs : List LineOut) → IsWellFormed plan → map (λ out. out.line.0) outs ≡ lines_out plan place
    → line_count plan ≤ most_rows plan → length (filter_map (frame_of t) outs) ≤ most_rows plan
few-frames plan place t outs well lines enough =
    let made = made-few (frame_of t) outs in
    let count : length outs ≡ length (lines_out plan place) = sym (length-map outs (λ out. out.line.0)) ∙ ap length lines in
    let few = filter-few (λ line. sender_of plan line == place) 0 (line_count plan) in
    omega (arith, made, count, few, enough)

-- each frame is on one of the lines
frames-lines : (P : ℕ → Type 0) (t : ℕ) (outs : List LineOut) → Each (λ (out : LineOut). P out.line.0) outs → Each (λ (sent : Sent). P sent.line.0) (filter_map (frame_of t) outs)
unfolding frame_of
frames-lines P t [] each = tt
frames-lines P t (out ∷ outs) each = by out.said (not (is_same_level out.said out.was)) (frames-lines P t outs each.1)
  where
    one : (b : Bool) (level : Level) (event : Bool) → Each (λ (sent : Sent). P sent.line.0) (filter_map (frame_of t) outs)
        → Each (λ (sent : Sent). P sent.line.0) (cons_option (if b then Some (record { line = out.line; level = level; event = event }) else None) (filter_map (frame_of t) outs))
    one true level event rest = (each.0, rest)
    one false level event rest = rest

    by : (said : Option Level) (news : Bool) → Each (λ (sent : Sent). P sent.line.0) (filter_map (frame_of t) outs)
        → Each (λ (sent : Sent). P sent.line.0) (cons_option (frame_for t out.line said news) (filter_map (frame_of t) outs))
    by None news rest = rest
    by (Some level) news rest = one (news || nat_eq (t % second) 0) level (news && nat_lt 0 t) rest

pub frames-within : (plan : Topology) (place t : ℕ) (outs : List LineOut) → map (λ out. out.line.0) outs ≡ lines_out plan place
    → All (λ (sent : Sent). sent.line.0 < line_count plan) (filter_map (frame_of t) outs)
frames-within plan place t outs lines =
    all-each (λ (sent : Sent). sent.line.0 < line_count plan) (filter_map (frame_of t) outs)
    (frames-lines (λ line. line < line_count plan) t outs
    (Each-map (IsFrom plan place) (λ (out : LineOut). out.line.0 < line_count plan) (λ out from. from.0) outs (outs-lines plan place outs lines)))

-- a run stands for one millisecond more, or stops before it
module _ (plan : Topology) (place : ℕ) (here rows : List NodeRow) (before mid after : NodeRun) (run : IsRun plan place before) (taken : IsTaken plan place here before mid)
    (run_mid : IsRun plan place mid) (is_here : AreHere plan place before.next here rows) (stands : RunStands plan rows place before.next before) where
  now : ℕ
  now = before.next

  inputs-then : Each (IsInputAt plan rows (suc now)) mid.inputs.items
  unfolding now
  inputs-then = subst (Each (IsInputAt plan rows (suc before.next))) (sym taken.inputs)
      (inputs-step plan rows here before.next is_here.list.in_order is_here.stand before.inputs.items stands.inputs)

  element-then : IsOfPast plan rows place (suc now) mid.element
  unfolding now
  element-then =
      stepped-past plan rows place before.next _ before.element mid.element taken.stepped stands.element
      (moment-told plan rows here place before.next mid.inputs.items run_mid.ids inputs-then
      (events-here plan rows here before.next is_here.list.in_order is_here.stand))

  outs-then : Each (λ out. IsOutAt plan rows place (suc now) out × IsSaid plan rows place now out) mid.lines_out.items
  unfolding now
  outs-then = subst (Each (λ out. IsOutAt plan rows place (suc before.next) out × IsSaid plan rows place before.next out)) (sym taken.lines_out)
      (outs-step plan rows here place before.next mid.shown is_here.list.in_order is_here.stand
      (gives plan rows place (suc before.next) mid.element mid.shown taken.shows element-then)
      before.lines_out.items stands.lines_out (outs-lines plan place before.lines_out.items run.lines))

  rows-then : map (sent_row plan place now) (filter_map (frame_of now) mid.lines_out.items) ≡ map (frame_row plan rows place now) (sending_at plan rows place now)
  unfolding now
  rows-then = sent-rows plan rows place before.next mid.lines_out.items run_mid.lines
      (Each-map (λ out. IsOutAt plan rows place (suc before.next) out × IsSaid plan rows place before.next out) (IsSaid plan rows place before.next) (λ out both. both.1) mid.lines_out.items outs-then)

  count-then : length (rows_before plan rows place (suc now)) ≡ mid.rows + length (filter_map (frame_of now) mid.lines_out.items)
  unfolding now
  count-then =
      length-append (rows_before plan rows place before.next) (map (frame_row plan rows place before.next) (sending_at plan rows place before.next))
      ∙ ap (λ n. n + length (map (frame_row plan rows place before.next) (sending_at plan rows place before.next))) (sym (taken.rows ∙ stands.count))
      ∙ ap (λ xs. mid.rows + length xs) (sym rows-then)
      ∙ ap (λ n. mid.rows + n) (length-map (filter_map (frame_of before.next) mid.lines_out.items) (sent_row plan place before.next))

  text-then : concat (rows_before plan rows place (suc now)) ≡ mid.text ++ concat (map (sent_row plan place now) (filter_map (frame_of now) mid.lines_out.items))
  unfolding now
  text-then =
      concat-append (rows_before plan rows place before.next) (map (frame_row plan rows place before.next) (sending_at plan rows place before.next))
      ∙ ap (λ front. front ++ concat (map (frame_row plan rows place before.next) (sending_at plan rows place before.next))) (sym (taken.text ∙ stands.text))
      ∙ ap (λ xs. mid.text ++ concat xs) (sym rows-then)

  pub turn-holds : (until : ℕ) → before.next ≤ until → before.stopped ≡ None → line_count plan ≤ most_rows plan → IsWritten plan place before.next (filter_map (frame_of before.next) mid.lines_out.items) mid after
      → RunHolds plan rows place until (suc before.next) after after.stopped
  unfolding now
  turn-holds until early going enough written = elim (fits-or-not (mid.rows + length (filter_map (frame_of before.next) mid.lines_out.items)) (most_rows plan)) [
    | inl fits ↦
        let fitted = written.fits fits in
        subst (RunHolds plan rows place until (suc before.next) after) (sym (fitted.2 ∙ taken.stopped ∙ going)) (record {
          element = subst (IsOfPast plan rows place (suc before.next)) (sym written.element) element-then;
          inputs = subst (Each (IsInputAt plan rows (suc before.next))) (sym written.inputs) inputs-then;
          lines_out = subst (Each (IsOutAt plan rows place (suc before.next))) (sym written.lines_out)
              (Each-map (λ out. IsOutAt plan rows place (suc before.next) out × IsSaid plan rows place before.next out) (IsOutAt plan rows place (suc before.next)) (λ out both. both.0) mid.lines_out.items outs-then);
          text = fitted.1 ∙ sym text-then;
          count = fitted.0 ∙ sym count-then;
        })
    | inr full ↦
        let is_full = written.full full in
        let few = few-frames plan place before.next mid.lines_out.items run.well_formed run_mid.lines enough in
        let begun : 0 < before.next = later (cases before.next refl) few full in
        let same : suc (before.next - 1) ≡ before.next = omega (arith, begun) in
        subst (RunHolds plan rows place until (suc before.next) after) (sym is_full.2) (record {
          fit = record {
            before = omega (arith, begun, early);
            fit = subst (λ n. length (rows_before plan rows place n) ≤ most_rows plan) (sym same) (subst (λ n. n ≤ most_rows plan) stands.count run.rows);
            full = subst (λ n. most_rows plan < length (rows_before plan rows place (suc n))) (sym same) (subst (λ n. most_rows plan < n) (sym count-then) full);
          };
          text = is_full.1 ∙ taken.text ∙ stands.text ∙ sym (ap (λ n. concat (rows_before plan rows place n)) same);
        })
  ]
    where
      cases : (n : ℕ) → before.next ≡ n → (0 < n) ⊎ (mid.rows ≡ 0)
      cases zero is = inr (taken.rows ∙ stands.count ∙ ap (λ n. length (rows_before plan rows place n)) is)
      cases (suc n) is = inl (omega arith)

      later : (0 < before.next) ⊎ (mid.rows ≡ 0) → length (filter_map (frame_of before.next) mid.lines_out.items) ≤ most_rows plan
          → most_rows plan < mid.rows + length (filter_map (frame_of before.next) mid.lines_out.items) → 0 < before.next
      later (inl some) few full = some
      later (inr none) few full = absurd (omega (arith, none, few, full))
