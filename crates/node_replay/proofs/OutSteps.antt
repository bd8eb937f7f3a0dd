-- What is kept of the lines out of the element, one millisecond later.
use Rattle.std.proofs.Common.{◌≡◌, ◌<◌, ℕ, suc, Bool, true, ◌&&◌, List, map, None, Some, ap, sym, ◌∙◌}
use Rattle.std.specs.Prelude.{unwrap_or, ◌==◌, if◌then◌else◌}
use Rattle.std.proofs.lemmas.Bool.{eqb-true}
use Rattle.sync_text.proofs.Each.{Each-map, Each-made, Each-both}
use Rattle.sync_text.specs.Each.{Each}
use Rattle.sync_ql.specs.Level.{do_not_use_of}
use Rattle.sync_ql.specs.Messages.{said}
use Rattle.sync_ql.specs.Moment.{Moment}
use Rattle.sync_ql.specs.Output.{clock_level_at}
use Rattle.sync_topo.specs.declared.input.LineId.{LineId}
use Rattle.sync_topo.specs.declared.input.InputId.TheVariants.{Line}
use Rattle.sync_topo.specs.Topology.{Topology}
use Rattle.sync_topo.specs.Lines.{line_count, sender_of}
use Rattle.net_rules.specs.Signals.{last_word, says_esmc, up_at, esmc_at}
use Rattle.net_rules.specs.History.{settings_of, taken_by, is_way_back}
use Rattle.net_words.specs.Before.{up_before, esmc_before}
use Rattle.net_words.proofs.SplitWords.{word-until}
use Rattle.node_file.specs.declared.row.NodeRow.{NodeRow}
use Rattle.node_file.specs.NodeRow.{events_in, rows_at}
use Rattle.node_replay.specs.declared.lines_out.LineOut.{LineOut}
use Rattle.node_replay.specs.declared.shown.InputAndLevel.{InputAndLevel}
use Rattle.node_rules.specs.Replay.{node_past, node_out, out_past}
use Rattle.node_replay.specs.Rows.{AreInOrder}
use Rattle.node_replay.specs.private.Keeping.{level_out, said_by, out_up, out_esmc, out_after}
use Rattle.node_replay.specs.Running.{IsOutAt}
use Rattle.node_replay.proofs.ElementPasts.{Gives}
use Rattle.node_replay.proofs.InputSteps.{up-step, in-order, events-here}

-- what the lines say in a millisecond and said in the one before
pub record IsSaid (plan : Topology) (rows : List NodeRow) (place t : ℕ) (out : LineOut) : Type 0 where
  pub now_is : out.said ≡ said (out_past plan rows place out.line.0 (suc t))
  pub was_is : out.was ≡ said (out_past plan rows place out.line.0 t)

abbrev pub IsFrom : Topology → ℕ → LineOut → Type 0
IsFrom plan place out = (out.line.0 < line_count plan) × ((sender_of plan out.line.0 == place) ≡ true)

module _ (plan : Topology) (rows here : List NodeRow) (place t : ℕ) (shown : InputAndLevel) (ordered : AreInOrder rows) (at : rows_at t rows ≡ here)
    (gives : Gives plan rows place (suc t) shown) where
  sent : (line : ℕ) → sender_of plan line ≡ place → level_out plan shown line ≡ node_out plan rows place line t
  unfolding node_out
  sent line from =
      let past : List Moment = node_past plan rows place (suc t) in
      ap (λ taken. if is_way_back plan taken line then do_not_use_of plan.option else shown.level) gives.taken
      ∙ ap (λ level. if is_way_back plan (taken_by plan place past) line then do_not_use_of plan.option else level) gives.level
      ∙ ap (λ e. if is_way_back plan (taken_by plan e past) line then do_not_use_of plan.option else clock_level_at (settings_of plan e) past) (sym from)

  said-step : (line : LineId) (up esmc : Bool) → up ≡ up_before (events_in rows) (Line line) (suc t) → esmc ≡ esmc_before (events_in rows) line.0 (suc t)
      → sender_of plan line.0 ≡ place → said_by plan shown line.0 (up && esmc) ≡ said (out_past plan rows place line.0 (suc t))
  unfolding said_by up_at esmc_at
  said-step line up esmc up_is esmc_is from =
      ap (λ u. if u && esmc then Some (level_out plan shown line.0) else None) up_is
      ∙ ap (λ e. if up_before (events_in rows) (Line line) (suc t) && e then Some (level_out plan shown line.0) else None) esmc_is
      ∙ ap (λ l. if up_before (events_in rows) (Line line) (suc t) && esmc_before (events_in rows) line.0 (suc t) then Some l else None) (sent line.0 from)

  out-step : (out : LineOut) → IsOutAt plan rows place t out → IsFrom plan place out
      → IsOutAt plan rows place (suc t) (out_after plan here shown out) × IsSaid plan rows place t (out_after plan here shown out)
  unfolding out_after
  out-step out is from =
      let up : out_up here out ≡ up_before (events_in rows) (Line out.line) (suc t) = up-step plan rows here t ordered at (Line out.line) out.up is.up in
      let esmc : out_esmc here out ≡ esmc_before (events_in rows) out.line.0 (suc t) =
      ap (unwrap_or (last_word (says_esmc out.line.0) (events_in here))) is.esmc
      ∙ sym (word-until (says_esmc out.line.0) true (events_in rows) (events_in here) t (in-order plan rows here t ordered at) (events-here plan rows here t ordered at)) in
      let now : said_by plan shown out.line.0 (out_up here out && out_esmc here out) ≡ said (out_past plan rows place out.line.0 (suc t)) =
      said-step out.line (out_up here out) (out_esmc here out) up esmc (eqb-true (sender_of plan out.line.0) place from.1) in
      (record { up = up; esmc = esmc; said = now }, record { now_is = now; was_is = is.said })

  pub outs-step : (outs : List LineOut) → Each (IsOutAt plan rows place t) outs → Each (IsFrom plan place) outs
      → Each (λ out. IsOutAt plan rows place (suc t) out × IsSaid plan rows place t out) (map (out_after plan here shown) outs)
  outs-step outs is from =
      Each-made (λ out. IsOutAt plan rows place (suc t) out × IsSaid plan rows place t out) (out_after plan here shown) outs
      (Each-map (λ out. IsOutAt plan rows place t out × IsFrom plan place out)
      (λ out. IsOutAt plan rows place (suc t) (out_after plan here shown out) × IsSaid plan rows place t (out_after plan here shown out))
      (λ out both. out-step out both.0 both.1) outs
      (Each-both (IsOutAt plan rows place t) (IsFrom plan place) outs is from))
