-- An element does over the rows that its network brings it what it does in the network.
use Rattle.std.proofs.Common.{◌≡◌, ◌≤◌, ℕ, zero, suc, Bool, true, false, ◌&&◌, List, ◌∷◌, drop, take, Option, None, Some, option_map, refl, ap, sym, ◌∙◌, arith}
use Rattle.std.specs.Prelude.{if◌then◌else◌, option_and_then}
use Rattle.std.proofs.Math.Bool.{and-false}
use Rattle.sync_text.proofs.Each.{Each-map}
use Rattle.sync_ql.proofs.SameMoments.{line_moment, input_moment, moment}
use Rattle.sync_ql.specs.declared.levels.Level.{Level}
use Rattle.sync_ql.specs.Pasts.{past_of, first_within}
use Rattle.sync_ql.specs.Messages.{LineMoment, hearing_time, is_sent, was_up, said, came, arrivals, heard_at}
use Rattle.sync_ql.specs.Output.{clock_level_at}
use Rattle.sync_topo.specs.declared.input.InputId.{InputId}
use Rattle.sync_topo.specs.declared.input.InputId.TheVariants.{Line, Source}
use Rattle.sync_topo.specs.declared.event.Event.{Event}
use Rattle.sync_topo.specs.Topology.{Topology}
use Rattle.sync_topo.specs.Lines.{line_input, sender_of, receiver_of, delay_of, inputs_of, IsNominated}
use Rattle.sync_topo.specs.WellFormed.{IsWellFormed}
use Rattle.net_rules.specs.Signals.{Signals, signals_by}
use Rattle.net_rules.specs.Inputs.{IsInputOf}
use Rattle.net_rules.specs.History.{Levels, settings_of, line_moment_at, heard, input_level, moment_at, element_past, taken_by, taken_at, level_at, sent_by, sent_level, out_at}
use Rattle.net_rules.specs.Settings.{input_by}
use Rattle.net_rules.proofs.Lists.{map-same, past-same}
use Rattle.net_rules.proofs.InputLaws.{inputs-are}
use Rattle.net_rules.proofs.HistoryLaws.{line-input_of, out_at-sent}
use Rattle.net_rules.proofs.PlanLaws.{IsDelayed-well}
use Rattle.node_file.specs.declared.row.NodeRow.{NodeRow}
use Rattle.node_file.specs.NodeRow.{events_in, rows_at, frames_on}
use Rattle.node_rules.specs.Replay.{last_of, signals_in, counted, heard_in, node_past, node_taken, node_level, node_out, out_moment, out_past}
use Rattle.node_rules.specs.FromNetwork.{frame_of, IsNodeFile, IsReplayed}
use Rattle.node_rules.proofs.SameSignals.{AreSameTo, same-signals}

-- ---- what is heard

-- what arrives in each millisecond, as a past
arrivals-past : (d : ℕ) (f : ℕ → LineMoment) (n : ℕ) → arrivals d (past_of f n) ≡ past_of (λ s. came d (past_of f (suc s))) n
arrivals-past d f zero = refl
arrivals-past d f (suc n) = ap (λ rest. came d (past_of f (suc n)) ∷ rest) (arrivals-past d f n)

-- nothing arrives on a line that is down
down-none : (d : ℕ) (now : LineMoment) (before : List LineMoment) → now.up ≡ false → came d (now ∷ before) ≡ None
unfolding came
down-none d now before down =
    ap (λ up. if is_sent (drop d (now ∷ before)) && (up && was_up (take d before)) then said (drop d (now ∷ before)) else None) down
    ∙ ap (λ b. if b then said (drop d (now ∷ before)) else None) (and-false (is_sent (drop d (now ∷ before))))

-- the last frame of those of one message, or of none
last-frame : (o : Option Level) → last_of (frame_of o) ≡ option_map Some o
last-frame None = refl
last-frame (Some level) = refl

-- frames that all name a level say what the levels do
joined : (c : ℕ → Option Level) (n m : ℕ) → option_and_then (λ level. level) (first_within n (past_of (λ s. option_map Some (c s)) m)) ≡ first_within n (past_of c m)
joined c zero m = refl
joined c (suc n) zero = refl
joined c (suc n) (suc m) = of (c m) (joined c n m)
  where
    of : (o : Option Level) → option_and_then (λ level. level) (first_within n (past_of (λ s. option_map Some (c s)) m)) ≡ first_within n (past_of c m)
        → option_and_then (λ level. level) (first_within (suc n) (option_map Some o ∷ past_of (λ s. option_map Some (c s)) m)) ≡ first_within (suc n) (o ∷ past_of c m)
    of None earlier = earlier
    of (Some level) earlier = refl

-- ---- moments

module _ (plan : Topology) (events : List Event) (element until : ℕ) (rows : List NodeRow) (well : IsWellFormed plan) (is : IsNodeFile plan events element until rows) where
  -- the network's signals, and the levels that it sends
  abbrev signals : Signals
  signals = signals_by plan events

  abbrev out : Levels
  out = out_at plan signals

  same : AreSameTo plan element until (signals_in plan rows) signals
  same = same-signals plan events (events_in rows) element until is.events_told

  abbrev comes_at : ℕ → ℕ → Option Level
  comes_at line s = came (delay_of plan line) (past_of (line_moment_at signals out line) (suc s))

  -- the frame that counts is the message that arrives
  counts : (line s : ℕ) → IsNominated plan line → receiver_of plan line ≡ element → s ≤ until → counted plan rows line s ≡ option_map Some (comes_at line s)
  counts line s nominated to early = of ((signals_in plan rows).up (line_input line) s) refl
    where
      here : IsInputOf plan element (line_input line)
      here = record { has = (line-input_of plan line nominated).has; nominated = nominated; of_element = to }

      of : (up : Bool) → (signals_in plan rows).up (line_input line) s ≡ up
          → (if up then last_of (frames_on line (rows_at s rows)) else None) ≡ option_map Some (comes_at line s)
      of true at = ap last_of (is.frames_told line s nominated to early) ∙ last-frame (comes_at line s)
      of false at =
          let down : signals.up (line_input line) s ≡ false = sym (same.up (line_input line) s here early) ∙ at in
          sym (ap (option_map Some) (down-none (delay_of plan line) (line_moment_at signals out line s) (past_of (line_moment_at signals out line) s) down))

  hears : (line s : ℕ) → IsNominated plan line → receiver_of plan line ≡ element → s ≤ until
      → heard_in plan rows line s ≡ heard plan signals out line s
  unfolding heard_in heard heard_at
  hears line s nominated to early =
      ap (λ past. option_and_then (λ level. level) (first_within hearing_time past))
      (past-same (counted plan rows line) (λ u. option_map Some (comes_at line u)) (suc s) (λ u before. counts line u nominated to (omega (arith, early, before))))
      ∙ joined (comes_at line) hearing_time (suc s)
      ∙ ap (first_within hearing_time) (sym (arrivals-past (delay_of plan line) (line_moment_at signals out line) (suc s)))

  same-input : (s : ℕ) → s ≤ until → (input : InputId) → IsInputOf plan element input
      → input_by (signals_in plan rows) (input_level (signals_in plan rows) (heard_in plan rows)) s input ≡ input_by signals (input_level signals (heard plan signals out)) s input
  same-input s early (Line line) of = input_moment _ _ _ _ _ _ (same.up (Line line) s of early) (same.clear (Line line) s of early) (hears line.0 s of.nominated of.of_element early)
  same-input s early (Source source) of = input_moment _ _ _ _ _ _ (same.up (Source source) s of early) (same.clear (Source source) s of early) (ap Some (same.source_level source s of early))

  same-moment : (s : ℕ) → s ≤ until
      → moment_at plan (signals_in plan rows) (heard_in plan rows) element s ≡ moment_at plan signals (heard plan signals out) element s
  unfolding moment_at
  same-moment s early =
      moment _ _ _ _
      (map-same (input_by (signals_in plan rows) (input_level (signals_in plan rows) (heard_in plan rows)) s) (input_by signals (input_level signals (heard plan signals out)) s) (inputs_of plan element)
      (Each-map (IsInputOf plan element) _ (same-input s early) (inputs_of plan element) (inputs-are plan element)))
      (same.commands s early)

  same-past : (n : ℕ) → n ≤ suc until → node_past plan rows element n ≡ element_past plan signals out element n
  same-past n early =
      past-same (moment_at plan (signals_in plan rows) (heard_in plan rows) element) (moment_at plan signals (heard plan signals out) element) n
      (λ s before. same-moment s (omega (arith, early, before)))

  gives : (line s : ℕ) → sender_of plan line ≡ element → s ≤ until → node_out plan rows element line s ≡ out line s
  unfolding node_out sent_level
  gives line s from early =
      ap (sent_by plan line) (same-past (suc s) (omega (arith, early)))
      ∙ ap (λ e. sent_by plan line (element_past plan signals out e (suc s))) (sym from)
      ∙ sym (out_at-sent plan (IsDelayed-well plan well) signals line s)

  carries : (line n : ℕ) → sender_of plan line ≡ element → n ≤ suc until
      → out_past plan rows element line n ≡ past_of (line_moment_at signals out line) n
  carries line n from early =
      past-same (out_moment plan rows element line) (line_moment_at signals out line) n
      (λ s before. line_moment _ _ _ _ _ _ (same.up_out line s from (omega (arith, early, before))) (same.esmc_out line s from (omega (arith, early, before))) (gives line s from (omega (arith, early, before))))

  pub replayed : (t : ℕ) → t ≤ until → IsReplayed plan events element rows t
  unfolding node_taken taken_at node_level level_at
  replayed t early = record {
    selection = ap (taken_by plan element) (same-past (suc t) (omega (arith, early)));
    level = ap (clock_level_at (settings_of plan element)) (same-past (suc t) (omega (arith, early)));
    lines_out = λ line from. gives line t from early;
    frames = λ line from. ap is_sent (carries line (suc t) from (omega (arith, early)));
    words = λ line from. carries line (suc t) from (omega (arith, early));
  }
