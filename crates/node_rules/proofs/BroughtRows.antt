-- The rows that a network brings to an element stand in order of time, and each may stand in a file of the element.
use Rattle.std.proofs.Common.{◌≡◌, ◌≤◌, ◌<◌, ◌+◌, ℕ, zero, suc, Bool, true, false, ◌&&◌, ◌||◌, List, [], ◌∷◌, ◌++◌, map, length, get_or, drop, take, Option, None, Some, refl, arith}
use Rattle.std.specs.Prelude.{if◌then◌else◌, nat_lt, nat_eq, ◌==◌}
use Rattle.std.specs.List.{All, range_with_len}
use Rattle.std.proofs.lemmas.Bool.{and_parts, eqb-true}
use Rattle.sync_text.specs.Each.{Each}
use Rattle.sync_text.proofs.Each.{all-each, Each-map, Each-both, Each-append, Each-made, Each-filter, each-all, Each-any}
use Rattle.sync_ql.specs.declared.levels.NetOption.{NetOption}
use Rattle.sync_ql.specs.declared.levels.Level.{Level}
use Rattle.sync_ql.specs.declared.limits.TheConstants.{LAST_MILLISECOND}
use Rattle.sync_ql.specs.Pasts.{past_of}
use Rattle.sync_ql.specs.Messages.{LineMoment, said_in, said, is_sent, was_up, came}
use Rattle.sync_ql.specs.Told.{IsOfOption}
use Rattle.sync_topo.specs.declared.input.InputId.{InputId}
use Rattle.sync_topo.specs.declared.input.InputId.TheVariants.{Line, Source}
use Rattle.sync_topo.specs.declared.event.Part.TheVariants as part
use Rattle.sync_topo.specs.declared.event.What.{What}
use Rattle.sync_topo.specs.declared.event.What.TheVariants.{Down, Up, EsmcOff, EsmcOn, SourceLevel, Lockout, Unlock, Forced, Manual, Clear, ClearWtr}
use Rattle.sync_topo.specs.declared.event.Event.{Event}
use Rattle.sync_topo.specs.Topology.{Topology}
use Rattle.sync_topo.specs.Lines.{line_count, is_nominated, receiver_of, delay_of, source_priority, element_of_source, is_nominated_input, lines_into}
use Rattle.sync_topo.specs.Events.{Fits, MayHappen, IsEventList}
use Rattle.sync_topo.specs.WellFormed.{IsWellFormed}
use Rattle.net_rules.specs.Signals.{signals_by, events_at}
use Rattle.net_rules.specs.History.{line_moment_at, out_at}
use Rattle.net_rules.specs.Activity.{is_at}
use Rattle.node_file.specs.declared.row.NodeRow.{NodeRow}
use Rattle.node_file.specs.NodeRow.{is_at as is_at_input, is_of_element, IsRowOf}
use Rattle.node_rules.specs.FromNetwork.{is_input_at, is_told_to, given_as, on_lines, told_to, frame_of, arriving}
use Rattle.node_rules.specs.Brought.{event_row, arrival_row, told_rows, arrival_rows, brought_in, brought, AreInOrder}
use Rattle.node_rules.proofs.ToldLaws.{even-told, odd-told}
use Rattle.node_rules.proofs.OptionLaws.{out-option}
use Rattle.node_rules.proofs.BroughtLaws.{Each-flat, given-at, one-at}

-- ---- order

-- no row is earlier than one before it
abbrev RowsRise : List NodeRow → Type 0
RowsRise [] = Unit {0}
RowsRise (row ∷ rows) = Each (λ (later : NodeRow). row.at ≤ later.at) rows × RowsRise rows

rise-append : (t : ℕ) (xs ys : List NodeRow) → RowsRise xs → RowsRise ys → Each (λ (row : NodeRow). row.at ≤ t) xs → Each (λ (row : NodeRow). t ≤ row.at) ys → RowsRise (xs ++ ys)
rise-append t [] ys first second early late = second
rise-append t (row ∷ rows) ys first second early late = (
  Each-append (λ (later : NodeRow). row.at ≤ later.at) rows ys first.0
      (Each-map (λ (later : NodeRow). t ≤ later.at) (λ later. row.at ≤ later.at) (λ later after. omega (arith, early.0, after)) ys late),
  rise-append t rows ys first.1 second early.1 late,
)

rise-one : (t : ℕ) (rows : List NodeRow) → Each (λ (row : NodeRow). row.at ≡ t) rows → RowsRise rows
rise-one t [] each = tt
rise-one t (row ∷ rows) each = (
  Each-map (λ (later : NodeRow). later.at ≡ t) (λ later. row.at ≤ later.at) (λ later same. omega (arith, each.0, same)) rows each.1,
  rise-one t rows each.1,
)

in-order : (rows : List NodeRow) → RowsRise rows → (k : ℕ) (d : NodeRow) → k + 1 < length rows → (get_or rows k d).at ≤ (get_or rows (k + 1) d).at
in-order [] rises k d within = absurd (omega (arith, within))
in-order (row ∷ []) rises k d within = absurd (omega (arith, within))
in-order (row ∷ next ∷ rows) rises zero d within = rises.0.0
in-order (row ∷ next ∷ rows) rises (suc k) d within =
    let more : suc k + 1 ≡ suc (k + 1) = omega arith in
    rw more (in-order (next ∷ rows) rises.1 k d (omega (arith, within)))

-- ---- what is told is of the element

or_alone : (a : Bool) → (a || false) ≡ true → a ≡ true
or_alone true is = refl
or_alone false is = is

input-there : (plan : Topology) (element : ℕ) (input : InputId) → is_at plan element input ≡ true → is_at_input plan element input ≡ true
input-there plan element (Line line) is = is
input-there plan element (Source source) is = (and_parts (nat_lt 0 (source_priority plan source)) (nat_eq (element_of_source plan source) element) is).1

command-there : (plan : Topology) (element : ℕ) (input : InputId) → is_input_at plan element input ≡ true → is_at_input plan element input ≡ true
command-there plan element input is = input-there plan element input (and_parts (is_nominated_input plan input) (is_at plan element input) is).1

abbrev IsWordThere : Topology → ℕ → Event → Type 0
IsWordThere plan element event = (is_of_element plan element event.what ≡ true) × MayHappen plan event.what

given-there : (plan : Topology) (element at : ℕ) (what : What) → MayHappen plan what → is_told_to plan element what ≡ true
    → Each (IsWordThere plan element) (given_as (record { at = at; what = what }))
given-there plan element at (Down (part.Link link)) may is = ((even-told plan element link is, omega (arith, may)), ((odd-told plan element link is, omega (arith, may)), tt))
given-there plan element at (Up (part.Link link)) may is = ((even-told plan element link is, omega (arith, may)), ((odd-told plan element link is, omega (arith, may)), tt))
given-there plan element at (Down (part.Line line)) may is = ((is, may), tt)
given-there plan element at (Up (part.Line line)) may is = ((is, may), tt)
given-there plan element at (Down (part.Source source)) may is = ((input-there plan element (Source source) (or_alone (is_at plan element (Source source)) is), may), tt)
given-there plan element at (Up (part.Source source)) may is = ((input-there plan element (Source source) (or_alone (is_at plan element (Source source)) is), may), tt)
given-there plan element at (EsmcOff line) may is = ((is, may), tt)
given-there plan element at (EsmcOn line) may is = ((is, may), tt)
given-there plan element at (SourceLevel source level) may is = ((input-there plan element (Source source) is, may), tt)
given-there plan element at (Lockout input) may is = ((command-there plan element input is, may), tt)
given-there plan element at (Unlock input) may is = ((command-there plan element input is, may), tt)
given-there plan element at (Forced input) may is = ((command-there plan element input is, may), tt)
given-there plan element at (Manual input) may is = ((command-there plan element input is, may), tt)
given-there plan element at (Clear other) may is = ((is, may), tt)
given-there plan element at (ClearWtr input) may is = ((command-there plan element input is, may), tt)

-- ---- what arrives is of the plan's option

said-option : (option : NetOption) (f : ℕ → LineMoment) (d n : ℕ) → ((s : ℕ) → IsOfOption option (said_in (f s))) → IsOfOption option (said (drop d (past_of f n)))
said-option option f zero zero each = tt
said-option option f (suc d) zero each = tt
said-option option f zero (suc n) each = each n
said-option option f (suc d) (suc n) each = said-option option f d n each

came-option : (option : NetOption) (f : ℕ → LineMoment) (d n : ℕ) → ((s : ℕ) → IsOfOption option (said_in (f s))) → IsOfOption option (came d (past_of f n))
unfolding came
came-option option f d n each = of (is_sent (drop d (past_of f n)) && was_up (take (suc d) (past_of f n)))
  where
    of : (b : Bool) → IsOfOption option (if b then said (drop d (past_of f n)) else None)
    of true = said-option option f d n each
    of false = tt

module _ (plan : Topology) (events : List Event) (element : ℕ) (well : IsWellFormed plan) (are : IsEventList plan events) where
  arriving-option : (line t : ℕ) → IsOfOption plan.option (arriving plan events line t)
  arriving-option line t =
      came-option plan.option (line_moment_at (signals_by plan events) (out_at plan (signals_by plan events)) line) (delay_of plan line) (suc t) says
    where
      says : (s : ℕ) → IsOfOption plan.option (said_in (line_moment_at (signals_by plan events) (out_at plan (signals_by plan events)) line s))
      says s = of (line_moment_at (signals_by plan events) (out_at plan (signals_by plan events)) line s).up (line_moment_at (signals_by plan events) (out_at plan (signals_by plan events)) line s).esmc
        where
          of : (up esmc : Bool) → IsOfOption plan.option (if up && esmc then Some (out_at plan (signals_by plan events) line s) else None)
          of true true = out-option plan events well are line s
          of true false = tt
          of false esmc = tt

  event-there : (t : ℕ) → t ≤ LAST_MILLISECOND → (event : Event) → (Fits plan event × (nat_eq event.at t ≡ true)) × (is_told_to plan element event.what ≡ true)
      → Each (λ one. IsRowOf plan element (event_row one)) (given_as event)
  event-there t early event facts =
      Each-map _ (λ one. IsRowOf plan element (event_row one))
      (λ one both. (let here : event.at ≡ t = eqb-true event.at t facts.0.1 in omega (arith, early, here, both.0), both.1)) (given_as event)
      (Each-both (λ (one : Event). one.at ≡ event.at) (IsWordThere plan element) (given_as event) (given-at event.at event.what) (given-there plan element event.at event.what facts.0.0 facts.1))

  told-there : (t : ℕ) → t ≤ LAST_MILLISECOND → Each (IsRowOf plan element) (told_rows plan events element t)
  told-there t early =
      Each-made (IsRowOf plan element) event_row (on_lines (told_to plan element (events_at t events)))
      (Each-flat (λ one. IsRowOf plan element (event_row one)) given_as (told_to plan element (events_at t events))
      (Each-map _ (λ event. Each (λ one. IsRowOf plan element (event_row one)) (given_as event)) (event-there t early) (told_to plan element (events_at t events))
      (Each-filter (λ event. Fits plan event × (nat_eq event.at t ≡ true)) (λ event. is_told_to plan element event.what) (events_at t events)
      (Each-filter (Fits plan) (λ event. nat_eq event.at t) events (each-all (Fits plan) events are.fit)))))

  frame-there : (t line : ℕ) → t ≤ LAST_MILLISECOND → (is_nominated plan line && receiver_of plan line == element) ≡ true
      → Each (IsRowOf plan element) (map (arrival_row t line) (frame_of (arriving plan events line t)))
  frame-there t line early is = of (arriving plan events line t) (arriving-option line t)
    where
      of : (o : Option Level) → IsOfOption plan.option o → Each (IsRowOf plan element) (map (arrival_row t line) (frame_of o))
      of None fits = tt
      of (Some level) fits = ((early, (is, fits)), tt)

  arrivals-there : (t : ℕ) → t ≤ LAST_MILLISECOND → Each (IsRowOf plan element) (arrival_rows plan events element t)
  arrivals-there t early =
      Each-flat (IsRowOf plan element) (λ line. map (arrival_row t line) (frame_of (arriving plan events line t))) (lines_into plan element)
      (Each-map _ (λ line. Each (IsRowOf plan element) (map (arrival_row t line) (frame_of (arriving plan events line t)))) (λ line both. frame-there t line early both.1) (lines_into plan element)
      (Each-filter (λ (line : ℕ). Unit {0}) (λ line. is_nominated plan line && receiver_of plan line == element) (range_with_len 0 (line_count plan))
      (Each-any (λ (line : ℕ). Unit {0}) (λ line. tt) (range_with_len 0 (line_count plan)))))

  brought-there : (n : ℕ) → n ≤ LAST_MILLISECOND + 1 → Each (IsRowOf plan element) (brought plan events element n)
  brought-there zero early = tt
  brought-there (suc n) early =
      Each-append (IsRowOf plan element) (brought plan events element n) (brought_in plan events element n) (brought-there n (omega (arith, early)))
      (Each-append (IsRowOf plan element) (told_rows plan events element n) (arrival_rows plan events element n) (told-there n (omega (arith, early))) (arrivals-there n (omega (arith, early))))

  pub brought-rows : (until : ℕ) → until ≤ LAST_MILLISECOND → All (IsRowOf plan element) (brought plan events element (suc until))
  brought-rows until early = all-each (IsRowOf plan element) (brought plan events element (suc until)) (brought-there (suc until) (omega (arith, early)))

-- ---- the order of all rows

module _ (plan : Topology) (events : List Event) (element : ℕ) where
  brought-early : (n : ℕ) → Each (λ (row : NodeRow). row.at ≤ n) (brought plan events element n)
  brought-early zero = tt
  brought-early (suc n) =
      Each-append (λ (row : NodeRow). row.at ≤ suc n) (brought plan events element n) (brought_in plan events element n)
      (Each-map (λ (row : NodeRow). row.at ≤ n) (λ row. row.at ≤ suc n) (λ row early. omega (arith, early)) (brought plan events element n) (brought-early n))
      (Each-map (λ (row : NodeRow). row.at ≡ n) (λ row. row.at ≤ suc n) (λ row here. omega (arith, here)) (brought_in plan events element n) (one-at plan events element n))

  brought-rise : (n : ℕ) → RowsRise (brought plan events element n)
  brought-rise zero = tt
  brought-rise (suc n) =
      rise-append n (brought plan events element n) (brought_in plan events element n) (brought-rise n)
      (rise-one n (brought_in plan events element n) (one-at plan events element n)) (brought-early n)
      (Each-map (λ (row : NodeRow). row.at ≡ n) (λ row. n ≤ row.at) (λ row here. omega (arith, here)) (brought_in plan events element n) (one-at plan events element n))

  pub brought-in_order : (n : ℕ) → AreInOrder (brought plan events element n)
  brought-in_order n = in-order (brought plan events element n) (brought-rise n)
