-- Of all rows only those up to the end count.
use Rattle.std.proofs.Common.{◌≡◌, ◌≤◌, ◌<◌, ℕ, zero, suc, Bool, true, List, [], ◌∷◌, ◌++◌, map, filter, length, Option, None, Some, refl, ap, sym, subst, ◌∙◌, arith}
use Rattle.std.specs.Prelude.{unwrap_or, codes, option_and_then, if◌then◌else◌}
use Rattle.std.specs.Fmt.{decimal}
use Rattle.std.specs.List.{list_any, filter_map, concat}
use Rattle.std.specs.Option.{option_or}
use Rattle.sync_text.proofs.Each.{Each-any}
use Rattle.hex.specs.Hex.{encode_lower}
use Rattle.sync_ql.specs.Pasts.{first_within}
use Rattle.sync_ql.specs.Messages.{hearing_time, is_sent}
use Rattle.sync_topo.specs.declared.input.InputId.{InputId}
use Rattle.sync_topo.specs.declared.input.InputId.TheVariants.{Line, Source}
use Rattle.sync_topo.specs.declared.event.What.{What}
use Rattle.sync_topo.specs.declared.event.Event.{Event}
use Rattle.sync_topo.specs.Topology.{Topology}
use Rattle.sync_topo.specs.Lines.{line_input, line_name, inputs_of}
use Rattle.net_rules.specs.Signals.{events_at, events_before, last_word, says_up, says_esmc, says_level, clears, command_to, planned_level, up_at, esmc_at, said_at, source_level_at, source_level_before}
use Rattle.net_rules.specs.History.{input_level, moment_at, sent_by}
use Rattle.net_rules.specs.Settings.{input_by}
use Rattle.net_rules.proofs.Lists.{map-same, past-same}
use Rattle.net_words.proofs.SplitWords.{none-before-0, until-split}
use Rattle.esmc_frame.specs.Frame.{written_frame}
use Rattle.node_file.specs.declared.row.NodeRow.{NodeRow}
use Rattle.node_file.specs.NodeRow.{events_in, rows_at, frames_on}
use Rattle.node_replay.specs.declared.replayed.Replayed.{Replayed}
use Rattle.node_replay.specs.declared.replayed.NodeEnd.{NodeEnd}
use Rattle.node_replay.specs.declared.replayed.NodeEnd.TheVariants.{Until, Stopped}
use Rattle.node_rules.specs.Replay.{signals_in, last_of, counted, heard_in, node_past, node_out, out_moment, out_past, sends_frame, is_event}
use Rattle.sync_topo.specs.Sizes.{most_rows}
use Rattle.node_rules.specs.NodeText.{carried, frame_row, lines_out, sending_at, rows_before}
use Rattle.node_replay.specs.Rows.{AreInOrder}
use Rattle.node_replay.specs.Replayed.{IsEnded, IsReplayed}
use Rattle.node_replay.proofs.EventOrder.{events-at, events-in-order}

filter-same : (p q : ℕ → Bool) → ((n : ℕ) → p n ≡ q n) → (xs : List ℕ) → filter p xs ≡ filter q xs
filter-same p q same [] = refl
filter-same p q same (x ∷ xs) = rw (same x, filter-same p q same xs) refl

-- two lists of rows that have the same in each millisecond up to one
module _ (plan : Topology) (rows others : List NodeRow) (element until : ℕ) (rows_order : AreInOrder rows) (others_order : AreInOrder others)
    (same : (t : ℕ) → t ≤ until → rows_at t rows ≡ rows_at t others) where
  events-same : (t : ℕ) → t ≤ until → events_at t (events_in rows) ≡ events_at t (events_in others)
  events-same t early = events-at t rows ∙ ap events_in (same t early) ∙ sym (events-at t others)

  before-same : {A : Type 0} (says : What → Option A) (n : ℕ) → n ≤ suc until
      → last_word says (events_before n (events_in rows)) ≡ last_word says (events_before n (events_in others))
  before-same says zero early = ap (last_word says) (none-before-0 (events_in rows)) ∙ sym (ap (last_word says) (none-before-0 (events_in others)))
  before-same says (suc t) early =
      until-split says t (events_in rows) (events-in-order rows rows_order)
      ∙ ap (λ es. option_or (last_word says es) (last_word says (events_before t (events_in rows)))) (events-same t (omega (arith, early)))
      ∙ ap (option_or (last_word says (events_at t (events_in others)))) (before-same says t (omega (arith, early)))
      ∙ sym (until-split says t (events_in others) (events-in-order others others_order))

  up-same : (input : InputId) (t : ℕ) → t ≤ until → up_at (events_in rows) input t ≡ up_at (events_in others) input t
  unfolding up_at
  up-same input t early = ap (λ o. unwrap_or o true) (before-same (says_up input) (suc t) (omega (arith, early)))

  esmc-same : (line t : ℕ) → t ≤ until → esmc_at (events_in rows) line t ≡ esmc_at (events_in others) line t
  unfolding esmc_at
  esmc-same line t early = ap (λ o. unwrap_or o true) (before-same (says_esmc line) (suc t) (omega (arith, early)))

  said-same : (source t : ℕ) → t ≤ until → said_at plan (events_in rows) source t ≡ said_at plan (events_in others) source t
  unfolding said_at
  said-same source t early = ap (λ o. unwrap_or o (planned_level plan source)) (before-same (says_level source) (suc t) (omega (arith, early)))

  source-same : (source n : ℕ) → n ≤ suc until → source_level_before plan (events_in rows) source n ≡ source_level_before plan (events_in others) source n
  source-same source zero early = refl
  source-same source (suc t) early =
      ap (λ b. if b then said_at plan (events_in rows) source t else source_level_before plan (events_in rows) source t) (up-same (Source source) t (omega (arith, early)))
      ∙ ap (λ level. if up_at (events_in others) (Source source) t then level else source_level_before plan (events_in rows) source t) (said-same source t (omega (arith, early)))
      ∙ ap (λ level. if up_at (events_in others) (Source source) t then said_at plan (events_in others) source t else level) (source-same source t (omega (arith, early)))

  counted-same : (line t : ℕ) → t ≤ until → counted plan rows line t ≡ counted plan others line t
  counted-same line t early =
      ap (λ b. if b then last_of (frames_on line (rows_at t rows)) else None) (up-same (line_input line) t early)
      ∙ ap (λ rs. if up_at (events_in others) (line_input line) t then last_of (frames_on line rs) else None) (same t early)

  heard-same : (line t : ℕ) → t ≤ until → heard_in plan rows line t ≡ heard_in plan others line t
  unfolding heard_in
  heard-same line t early =
      ap (λ past. option_and_then (λ level. level) (first_within hearing_time past))
      (past-same (counted plan rows line) (counted plan others line) (suc t) (λ s before. counted-same line s (omega (arith, before, early))))

  level-same : (input : InputId) (t : ℕ) → t ≤ until
      → input_level (signals_in plan rows) (heard_in plan rows) input t ≡ input_level (signals_in plan others) (heard_in plan others) input t
  unfolding source_level_at
  level-same (Line line) t early = heard-same line.0 t early
  level-same (Source source) t early = ap Some (source-same source (suc t) (omega (arith, early)))

  moment-same : (t : ℕ) → t ≤ until → moment_at plan (signals_in plan rows) (heard_in plan rows) element t ≡ moment_at plan (signals_in plan others) (heard_in plan others) element t
  unfolding moment_at
  moment-same t early =
      rw (
        map-same (input_by (signals_in plan rows) (input_level (signals_in plan rows) (heard_in plan rows)) t) (input_by (signals_in plan others) (input_level (signals_in plan others) (heard_in plan others)) t) (inputs_of plan element)
            (Each-any (λ input. input_by (signals_in plan rows) (input_level (signals_in plan rows) (heard_in plan rows)) t input ≡ input_by (signals_in plan others) (input_level (signals_in plan others) (heard_in plan others)) t input) one (inputs_of plan element)),
        ap (filter_map (λ (event : Event). command_to plan element event.what)) (events-same t early),
      ) refl
    where
      one : (input : InputId) → input_by (signals_in plan rows) (input_level (signals_in plan rows) (heard_in plan rows)) t input ≡ input_by (signals_in plan others) (input_level (signals_in plan others) (heard_in plan others)) t input
      one input = rw (up-same input t early, ap (list_any (λ (event : Event). clears input event.what)) (events-same t early), level-same input t early) refl

  past-is : (t : ℕ) → t ≤ until → node_past plan rows element (suc t) ≡ node_past plan others element (suc t)
  past-is t early =
      past-same (moment_at plan (signals_in plan rows) (heard_in plan rows) element) (moment_at plan (signals_in plan others) (heard_in plan others) element) (suc t)
      (λ s before. moment-same s (omega (arith, before, early)))

  out-same : (line t : ℕ) → t ≤ until → node_out plan rows element line t ≡ node_out plan others element line t
  unfolding node_out
  out-same line t early = ap (sent_by plan line) (past-is t early)

  lines-same : (line t : ℕ) → t ≤ until → out_past plan rows element line (suc t) ≡ out_past plan others element line (suc t)
  lines-same line t early =
      past-same (out_moment plan rows element line) (out_moment plan others element line) (suc t)
      (λ s before. let now : s ≤ until = omega (arith, before, early) in rw (up-same (line_input line) s now, esmc-same line s now, out-same line s now) refl)

  row-same : (t line : ℕ) → t ≤ until → frame_row plan rows element t line ≡ frame_row plan others element t line
  row-same t line early =
      ap (λ level. decimal t ++ codes "," ++ line_name plan line ++ codes ","
      ++ encode_lower (written_frame (carried element level (is_event (out_past plan rows element line (suc t))))) ++ codes "\n") (out-same line t early)
      ∙ ap (λ past. decimal t ++ codes "," ++ line_name plan line ++ codes ","
      ++ encode_lower (written_frame (carried element (node_out plan others element line t) (is_event past))) ++ codes "\n") (lines-same line t early)

  rows-same : (n : ℕ) → n ≤ suc until → rows_before plan rows element n ≡ rows_before plan others element n
  rows-same zero early = refl
  rows-same (suc t) early =
      let now : t ≤ until = omega (arith, early) in
      ap (λ front. front ++ map (frame_row plan rows element t) (sending_at plan rows element t)) (rows-same t (omega (arith, early)))
      ∙ ap (λ lines. rows_before plan others element t ++ map (frame_row plan rows element t) lines)
      (filter-same (λ line. sends_frame plan rows element line t) (λ line. sends_frame plan others element line t) (λ line. ap is_sent (lines-same line t now)) (lines_out plan element))
      ∙ ap (λ made. rows_before plan others element t ++ made)
      (map-same (frame_row plan rows element t) (frame_row plan others element t) (sending_at plan others element t)
      (Each-any (λ line. frame_row plan rows element t line ≡ frame_row plan others element t line) (λ line. row-same t line now) (sending_at plan others element t)))

  ended-same : (text : List ℕ) (end : NodeEnd) → IsEnded plan element until rows text end → IsEnded plan element until others text end
  ended-same text Until is =
      let all = rows-same (suc until) (omega arith) in
      (subst (λ made. length made ≤ most_rows plan) all is.0, is.1 ∙ ap concat all)
  ended-same text (Stopped last) is =
      let early = is.0.before in
      let fit = rows-same (suc last) (omega (arith, early)) in
      let full = rows-same (suc (suc last)) (omega (arith, early)) in (
        record {
          before = early;
          fit = subst (λ made. length made ≤ most_rows plan) fit is.0.fit;
          full = subst (λ made. most_rows plan < length made) full is.0.full;
        },
        is.1 ∙ ap (λ made. concat made ++ codes "stopped," ++ decimal last ++ codes "\n") fit,
      )

pub until-same : (plan : Topology) (rows others : List NodeRow) (element until : ℕ) (replayed : Replayed) → AreInOrder rows → AreInOrder others
    → ((t : ℕ) → t ≤ until → rows_at t rows ≡ rows_at t others) → IsReplayed plan element until rows replayed → IsReplayed plan element until others replayed
until-same plan rows others element until replayed rows_order others_order same is =
    ended-same plan rows others element until rows_order others_order same replayed.text replayed.end is
