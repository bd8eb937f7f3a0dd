-- What is kept of an input, one millisecond later.
use Rattle.std.proofs.Common.{◌≡◌, ◌<◌, ◌-◌, ℕ, zero, suc, Bool, true, false, List, ◌∷◌, map, Option, None, Some, IfSome, refl, ap, sym, ◌∙◌, arith}
use Rattle.std.specs.Prelude.{unwrap_or, nat_lt, if◌then◌else◌, option_and_then}
use Rattle.std.proofs.Math.Decide.{dec_lt}
use Rattle.std.proofs.lemmas.Bool.{le-ltb, lt-ltb}
use Rattle.sync_text.proofs.Each.{Each-map, Each-made}
use Rattle.sync_text.specs.Each.{Each}
use Rattle.sync_ql.specs.declared.levels.Level.{Level}
use Rattle.sync_ql.specs.Pasts.{past_of, first_within}
use Rattle.sync_ql.specs.Messages.{hearing_time}
use Rattle.sync_topo.specs.declared.input.InputId.{InputId}
use Rattle.sync_topo.specs.declared.input.InputId.TheVariants.{Line, Source}
use Rattle.sync_topo.specs.Topology.{Topology}
use Rattle.sync_topo.specs.Events.{IsInOrder}
use Rattle.net_rules.specs.Signals.{events_at, last_word, says_up, says_level, planned_level, source_level_before, up_at, said_at}
use Rattle.net_words.specs.Before.{up_before, said_before}
use Rattle.net_words.proofs.SplitWords.{word-until}
use Rattle.node_file.specs.declared.row.NodeRow.{NodeRow}
use Rattle.node_file.specs.NodeRow.{events_in, rows_at, frames_on}
use Rattle.node_replay.specs.declared.inputs.LastLevel.{LastLevel}
use Rattle.node_replay.specs.declared.inputs.InputNow.{InputNow}
use Rattle.node_rules.specs.Replay.{last_of, counted}
use Rattle.node_replay.specs.Rows.{AreInOrder}
use Rattle.node_replay.specs.Keeping.{word_or, said_in}
use Rattle.node_replay.specs.private.Keeping.{heard_of, said_or, last_after, level_after, up_then, last_then, input_after}
use Rattle.node_replay.specs.Running.{last_counted, level_before, IsLast, IsInputAt}
use Rattle.node_replay.proofs.EventOrder.{events-at, events-in-order}

-- the last frame that counts came before
last-early : (plan : Topology) (rows : List NodeRow) (line n : ℕ) → IfSome (last_counted plan rows line n) (λ word. word.at < n)
last-early plan rows line zero = tt
last-early plan rows line (suc t) = by (counted plan rows line t) (last_counted plan rows line t) (last-early plan rows line t)
  where
    by : (o : Option (Option Level)) (last : Option LastLevel) → IfSome last (λ word. word.at < t) → IfSome (word_or o last t) (λ word. word.at < suc t)
    by None None early = tt
    by None (Some word) early = omega (arith, early)
    by (Some level) last early = omega arith

-- what a word says, if it is one of the last few milliseconds
in_window : ℕ → ℕ → Option LastLevel → Option (Option Level)
in_window w n None = None
in_window w n (Some word) = if nat_lt (n - suc word.at) w then Some word.level else None

none-in-none : (n : ℕ) (last : Option LastLevel) → None ≡ in_window 0 n last
unfolding in_window
none-in-none n None = refl
none-in-none n (Some word) = rw (le-ltb (n - suc word.at) 0 (omega arith)) refl

wider : (w t : ℕ) (last : Option LastLevel) → IfSome last (λ word. word.at < t) → in_window w t last ≡ in_window (suc w) (suc t) last
unfolding in_window
wider w t None early = refl
wider w t (Some word) early = elim (dec_lt (t - suc word.at) w) [
  | yes inside ↦ rw (lt-ltb (t - suc word.at) w inside, lt-ltb (suc t - suc word.at) (suc w) (omega (arith, inside, early))) refl
  | no beyond ↦ rw (le-ltb (t - suc word.at) w (omega (arith, beyond)), le-ltb (suc t - suc word.at) (suc w) (omega (arith, beyond, early))) refl
]

window : (plan : Topology) (rows : List NodeRow) (line w n : ℕ) → first_within w (past_of (counted plan rows line) n) ≡ in_window w n (last_counted plan rows line n)
unfolding in_window
window plan rows line zero n = none-in-none n (last_counted plan rows line n)
window plan rows line (suc w) zero = refl
window plan rows line (suc w) (suc t) =
    by (counted plan rows line t) (last_counted plan rows line t) (last-early plan rows line t) (window plan rows line w t)
  where
    by : (o : Option (Option Level)) (last : Option LastLevel) → IfSome last (λ word. word.at < t)
        → first_within w (past_of (counted plan rows line) t) ≡ in_window w t last
        → first_within (suc w) (o ∷ past_of (counted plan rows line) t) ≡ in_window (suc w) (suc t) (word_or o last t)
    by None last early rest = rest ∙ wider w t last early
    by (Some level) last early rest = rw (lt-ltb (suc t - suc t) (suc w) (omega arith)) refl

-- the level that is heard is that of the last frame, for its time
pub heard-last : (plan : Topology) (rows : List NodeRow) (line t : ℕ)
    → heard_of (last_counted plan rows line (suc t)) t ≡ option_and_then (λ level. level) (first_within hearing_time (past_of (counted plan rows line) (suc t)))
unfolding heard_of in_window
heard-last plan rows line t = by (last_counted plan rows line (suc t)) ∙ sym (ap (option_and_then (λ level. level)) (window plan rows line hearing_time (suc t)))
  where
    by : (last : Option LastLevel) → heard_of last t ≡ option_and_then (λ level. level) (in_window hearing_time (suc t) last)
    by None = refl
    by (Some word) =
        let age : suc t - suc word.at ≡ t - word.at = omega arith in
        same (nat_lt (t - word.at) hearing_time) ∙ sym (ap (λ n. option_and_then (λ level. level) (if nat_lt n hearing_time then Some word.level else None)) age)
      where
        same : (b : Bool) → (if b then word.level else None) ≡ option_and_then (λ level. level) (if b then Some word.level else None)
        same true = refl
        same false = refl

said-in-or : (o : Option Level) (last : Option LastLevel) (t : ℕ) (before : Level) → said_in last ≡ Some before → said_in (said_or o last t) ≡ Some (unwrap_or o before)
said-in-or None last t before is = is
said-in-or (Some level) last t before is = refl

-- the rows of a millisecond are taken in
module _ (plan : Topology) (rows here : List NodeRow) (t : ℕ) (ordered : AreInOrder rows) (at : rows_at t rows ≡ here) where
  pub events-here : events_at t (events_in rows) ≡ events_in here
  events-here = events-at t rows ∙ ap events_in at

  pub in-order : IsInOrder (events_in rows)
  in-order = events-in-order rows ordered

  pub up-step : (id : InputId) (up : Bool) → up ≡ up_before (events_in rows) id t
      → unwrap_or (last_word (says_up id) (events_in here)) up ≡ up_before (events_in rows) id (suc t)
  up-step id up is =
      ap (unwrap_or (last_word (says_up id) (events_in here))) is
      ∙ sym (word-until (says_up id) true (events_in rows) (events_in here) t in-order events-here)

  last-step : (id : InputId) (up : Bool) (last : Option LastLevel) → up ≡ up_before (events_in rows) id (suc t) → IsLast plan rows t id last
      → IsLast plan rows (suc t) id (last_after id up last here t)
  unfolding up_at
  last-step (Line line) up last up_is is =
      ap (λ b. word_or (if b then last_of (frames_on line.0 here) else None) last t) up_is
      ∙ ap (λ hs. word_or (if up_before (events_in rows) (Line line) (suc t) then last_of (frames_on line.0 hs) else None) last t) (sym at)
      ∙ ap (λ l. word_or (counted plan rows line.0 t) l t) is
  last-step (Source source) up last up_is is =
      said-in-or (last_word (says_level source) (events_in here)) last t (said_before plan (events_in rows) source t) is
      ∙ sym (ap Some (word-until (says_level source) (planned_level plan source) (events_in rows) (events_in here) t in-order events-here))

  level-step : (id : InputId) (up : Bool) (last : Option LastLevel) (level : Option Level) → up ≡ up_before (events_in rows) id (suc t)
      → IsLast plan rows (suc t) id last → level ≡ level_before plan rows id t → level_after id up last level t ≡ level_before plan rows id (suc t)
  unfolding up_at said_at
  level-step (Line line) up last level up_is last_is is = ap (λ l. heard_of l t) last_is ∙ heard-last plan rows line.0 t
  level-step (Source source) up last level up_is last_is is =
      ap (λ b. if b then said_in last else level) up_is ∙ by (up_before (events_in rows) (Source source) (suc t))
    where
      by : (b : Bool) → (if b then said_in last else level)
          ≡ Some (if b then said_before plan (events_in rows) source (suc t) else source_level_before plan (events_in rows) source t)
      by true = last_is
      by false = is

  pub input-step : (input : InputNow) → IsInputAt plan rows t input → IsInputAt plan rows (suc t) (input_after here t input)
  unfolding input_after
  input-step input is =
      let up : up_then here input ≡ up_before (events_in rows) input.id (suc t) = up-step input.id input.up is.up in
      let last : IsLast plan rows (suc t) input.id (last_then here t input) = last-step input.id (up_then here input) input.last up is.last in
      record {
        up = up;
        level = level-step input.id (up_then here input) (last_then here t input) input.level up last is.level;
        last = last;
      }

  pub inputs-step : (inputs : List InputNow) → Each (IsInputAt plan rows t) inputs → Each (IsInputAt plan rows (suc t)) (map (input_after here t) inputs)
  inputs-step inputs is =
      Each-made (IsInputAt plan rows (suc t)) (input_after here t) inputs
      (Each-map (IsInputAt plan rows t) (λ input. IsInputAt plan rows (suc t) (input_after here t input)) input-step inputs is)
