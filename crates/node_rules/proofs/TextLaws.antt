-- The text of an element's frames is that of its frames in the network.
use Rattle.std.proofs.Common.{◌≡◌, ◌≤◌, ℕ, zero, suc, Bool, List, [], ◌∷◌, ◌++◌, map, filter, refl, ap, ◌∙◌, arith}
use Rattle.std.specs.Prelude.{codes, ◌==◌}
use Rattle.std.specs.Fmt.{decimal}
use Rattle.std.specs.List.{range_with_len}
use Rattle.std.proofs.lemmas.Bool.{eqb-true}
use Rattle.sync_text.proofs.Each.{Each-map, Each-range, Each-filter}
use Rattle.sync_text.specs.Each.{Each}
use Rattle.hex.specs.Hex.{encode_lower}
use Rattle.sync_ql.specs.declared.levels.Level.{Level}
use Rattle.sync_ql.specs.Messages.{LineMoment}
use Rattle.sync_topo.specs.declared.event.Event.{Event}
use Rattle.sync_topo.specs.Topology.{Topology}
use Rattle.sync_topo.specs.Lines.{line_count, line_name, sender_of}
use Rattle.sync_topo.specs.WellFormed.{IsWellFormed}
use Rattle.esmc_frame.specs.Frame.{written_frame}
use Rattle.net_rules.proofs.Lists.{map-same}
use Rattle.node_file.specs.declared.row.NodeRow.{NodeRow}
use Rattle.node_rules.specs.Replay.{is_event, sends_frame}
use Rattle.node_rules.specs.NodeText.{carried, frame_row, lines_out, sending_at, rows_before}
use Rattle.node_rules.specs.FromNetwork.{IsNodeFile, IsReplayed}
use Rattle.node_rules.specs.SentFrames.{network_row, network_sending, network_rows}
use Rattle.node_rules.proofs.ReplayLaws.{replayed}

filter-same : {A : Type 0} (p q : A → Bool) (xs : List A) → Each (λ x. p x ≡ q x) xs → filter p xs ≡ filter q xs
filter-same p q [] each = refl
filter-same p q (x ∷ xs) each = rw (each.0, filter-same p q xs each.1) refl

-- each line out of an element begins there
lines_out-begin : (plan : Topology) (element : ℕ) → Each (λ line. sender_of plan line ≡ element) (lines_out plan element)
lines_out-begin plan element =
    Each-map _ (λ line. sender_of plan line ≡ element) (λ line both. eqb-true (sender_of plan line) element both.1) (lines_out plan element)
    (Each-filter (λ line. Unit {0}) (λ line. sender_of plan line == element) (range_with_len 0 (line_count plan)) (Each-range (λ line. Unit {0}) 0 (line_count plan) (λ k low high. tt)))

module _ (plan : Topology) (events : List Event) (element until : ℕ) (rows : List NodeRow) (well : IsWellFormed plan) (is : IsNodeFile plan events element until rows) where
  row-same : (t line : ℕ) → IsReplayed plan events element rows t → sender_of plan line ≡ element
      → frame_row plan rows element t line ≡ network_row plan events element t line
  row-same t line here from = row-of _ _ _ _ (here.lines_out line from) (here.words line from)
    where
      row-of : (level other : Level) (past past_then : List LineMoment) → level ≡ other → past ≡ past_then
          → decimal t ++ codes "," ++ line_name plan line ++ codes "," ++ encode_lower (written_frame (carried element level (is_event past))) ++ codes "\n"
          ≡ decimal t ++ codes "," ++ line_name plan line ++ codes "," ++ encode_lower (written_frame (carried element other (is_event past_then))) ++ codes "\n"
      row-of level other past past_then same carried_alike =
          ap (λ l. decimal t ++ codes "," ++ line_name plan line ++ codes "," ++ encode_lower (written_frame (carried element l (is_event past))) ++ codes "\n") same
          ∙ ap (λ p. decimal t ++ codes "," ++ line_name plan line ++ codes "," ++ encode_lower (written_frame (carried element other (is_event p))) ++ codes "\n") carried_alike

  sending-same : (t : ℕ) → IsReplayed plan events element rows t → sending_at plan rows element t ≡ network_sending plan events element t
  sending-same t here =
      filter-same (λ line. sends_frame plan rows element line t) _ (lines_out plan element)
      (Each-map (λ line. sender_of plan line ≡ element) _ (λ line from. here.frames line from) (lines_out plan element) (lines_out-begin plan element))

  sending-begin : (t : ℕ) → Each (λ line. sender_of plan line ≡ element) (network_sending plan events element t)
  sending-begin t =
      Each-map _ (λ line. sender_of plan line ≡ element) (λ line both. both.0) (network_sending plan events element t)
      (Each-filter (λ line. sender_of plan line ≡ element) _ (lines_out plan element) (lines_out-begin plan element))

  pub rows-same : (n : ℕ) → n ≤ suc until → rows_before plan rows element n ≡ network_rows plan events element n
  rows-same zero early = refl
  rows-same (suc n) early =
      let here : IsReplayed plan events element rows n = replayed plan events element until rows well is n (omega (arith, early)) in
      ap (λ before. before ++ map (frame_row plan rows element n) (sending_at plan rows element n)) (rows-same n (omega (arith, early)))
      ∙ ap (λ lines. network_rows plan events element n ++ map (frame_row plan rows element n) lines) (sending-same n here)
      ∙ ap (λ made. network_rows plan events element n ++ made)
      (map-same (frame_row plan rows element n) (network_row plan events element n) (network_sending plan events element n)
      (Each-map (λ line. sender_of plan line ≡ element) _ (λ line from. row-same n line here from) (network_sending plan events element n) (sending-begin n)))
