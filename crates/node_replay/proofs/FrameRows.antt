-- The frames that go out in a millisecond are those of the rules.
use Rattle.std.proofs.Common.{◌≡◌, ℕ, zero, suc, Bool, true, false, ◌&&◌, ◌||◌, not, List, [], ◌∷◌, ◌++◌, map, filter, length, Option, None, Some, refl, ap, sym, ◌∙◌, arith}
use Rattle.std.specs.Prelude.{nat_eq, nat_lt, ◌%◌, is_some, codes, if◌then◌else◌}
use Rattle.std.specs.Fmt.{decimal}
use Rattle.std.specs.List.{filter_map, cons_option}
use Rattle.std.proofs.lemmas.Bool.{lt-ltb}
use Rattle.sync_text.specs.Each.{Each}
use Rattle.hex.specs.Hex.{encode_lower}
use Rattle.sync_ql.specs.declared.levels.Level.{Level}
use Rattle.sync_ql.specs.Messages.{said, second, is_same_level}
use Rattle.sync_ql.proofs.Delivered.{length-past_of}
use Rattle.sync_topo.specs.declared.input.LineId.{LineId}
use Rattle.sync_topo.specs.Topology.{Topology}
use Rattle.sync_topo.specs.Lines.{line_name}
use Rattle.esmc_frame.specs.Frame.{written_frame}
use Rattle.node_file.specs.declared.row.NodeRow.{NodeRow}
use Rattle.node_replay.specs.declared.lines_out.LineOut.{LineOut}
use Rattle.node_replay.specs.declared.frames.Sent.{Sent}
use Rattle.node_rules.specs.Replay.{node_out, out_moment, out_past, sends_frame}
use Rattle.node_rules.specs.NodeText.{carried, frame_row, sending_at, lines_out}
use Rattle.node_replay.specs.private.Keeping.{frame_for, frame_of, sent_row}
use Rattle.node_replay.proofs.OutSteps.{IsSaid}

first-or-later : (t : ℕ) → nat_lt 1 (suc t) ≡ nat_lt 0 t
first-or-later zero = refl
first-or-later (suc t) = rw (lt-ltb 1 (suc (suc t)) (omega arith), lt-ltb 0 (suc t) (omega arith)) refl

module _ (plan : Topology) (place t : ℕ) where
  row : LineId → Level → Bool → List ℕ
  row line level event =
      decimal t ++ codes "," ++ line_name plan line.0 ++ codes "," ++ encode_lower (written_frame (carried place level event)) ++ codes "\n"

  -- of a level that is said, with or without news
  said-row : (line : LineId) (level : Level) (news each : Bool)
      → map (sent_row plan place t) (cons_option (if news || each then Some (record { line = line; level = level; event = news && nat_lt 0 t }) else None) [])
      ≡ (if news || each then row line level (news && nat_lt 1 (suc t)) ∷ [] else [])
  unfolding row
  said-row line level news each =
      by (news || each) ∙ sym (ap (λ first. if news || each then row line level (news && first) ∷ [] else []) (first-or-later t))
    where
      by : (b : Bool) → map (sent_row plan place t) (cons_option (if b then Some (record { line = line; level = level; event = news && nat_lt 0 t }) else None) [])
          ≡ (if b then row line level (news && nat_lt 0 t) ∷ [] else [])
      by true = refl
      by false = refl

  -- of what a line says, and said before
  some-row : (line : LineId) (speaks : Bool) (level : Level) (was : Option Level) (n : ℕ) → n ≡ t
      → map (sent_row plan place t) (cons_option (frame_for t line (if speaks then Some level else None) (not (is_same_level (if speaks then Some level else None) was))) [])
      ≡ (if is_some (if speaks then Some level else None) && ((is_some (if speaks then Some level else None) && not (is_same_level (if speaks then Some level else None) was)) || nat_eq (n % second) 0)
      then row line level ((is_some (if speaks then Some level else None) && not (is_same_level (if speaks then Some level else None) was)) && nat_lt 1 (suc n)) ∷ []
      else [])
  some-row line false level was n same = refl
  some-row line true level was n same =
      said-row line level (not (is_same_level (Some level) was)) (nat_eq (t % second) 0)
      ∙ sym (ap (λ m. if not (is_same_level (Some level) was) || nat_eq (m % second) 0
      then row line level (not (is_same_level (Some level) was) && nat_lt 1 (suc m)) ∷ [] else []) same)

module _ (plan : Topology) (rows : List NodeRow) (place t : ℕ) where
  frame-one : (out : LineOut) → IsSaid plan rows place t out → map (sent_row plan place t) (cons_option (frame_of t out) [])
      ≡ (if sends_frame plan rows place out.line.0 t then frame_row plan rows place t out.line.0 ∷ [] else [])
  unfolding frame_of row
  frame-one out is =
      ap (λ said. map (sent_row plan place t) (cons_option (frame_for t out.line said (not (is_same_level said out.was))) [])) is.now_is
      ∙ ap (λ was. map (sent_row plan place t) (cons_option (frame_for t out.line (said (out_past plan rows place out.line.0 (suc t))) (not (is_same_level (said (out_past plan rows place out.line.0 (suc t))) was))) [])) is.was_is
      ∙ some-row plan place t out.line ((out_moment plan rows place out.line.0 t).up && (out_moment plan rows place out.line.0 t).esmc) (node_out plan rows place out.line.0 t)
      (said (out_past plan rows place out.line.0 t)) (length (out_past plan rows place out.line.0 t)) (length-past_of (out_moment plan rows place out.line.0) t)

  map-cons : (f : Sent → List ℕ) (o : Option Sent) (xs : List Sent) → map f (cons_option o xs) ≡ map f (cons_option o []) ++ map f xs
  map-cons f None xs = refl
  map-cons f (Some x) xs = refl

  pub frames-are : (outs : List LineOut) → Each (IsSaid plan rows place t) outs → map (sent_row plan place t) (filter_map (frame_of t) outs)
      ≡ map (frame_row plan rows place t) (filter (λ line. sends_frame plan rows place line t) (map (λ out. out.line.0) outs))
  frames-are [] is = refl
  frames-are (out ∷ outs) is =
      map-cons (sent_row plan place t) (frame_of t out) (filter_map (frame_of t) outs)
      ∙ ap (λ front. front ++ map (sent_row plan place t) (filter_map (frame_of t) outs)) (frame-one out is.0)
      ∙ ap (λ back. (if sends_frame plan rows place out.line.0 t then frame_row plan rows place t out.line.0 ∷ [] else []) ++ back) (frames-are outs is.1)
      ∙ by (sends_frame plan rows place out.line.0 t)
    where
      by : (b : Bool) → (if b then frame_row plan rows place t out.line.0 ∷ [] else [])
          ++ map (frame_row plan rows place t) (filter (λ line. sends_frame plan rows place line t) (map (λ out. out.line.0) outs))
          ≡ map (frame_row plan rows place t) (if b then out.line.0 ∷ filter (λ line. sends_frame plan rows place line t) (map (λ out. out.line.0) outs)
          else filter (λ line. sends_frame plan rows place line t) (map (λ out. out.line.0) outs))
      by true = refl
      by false = refl

  pub sent-rows : (outs : List LineOut) → map (λ out. out.line.0) outs ≡ lines_out plan place → Each (IsSaid plan rows place t) outs
      → map (sent_row plan place t) (filter_map (frame_of t) outs) ≡ map (frame_row plan rows place t) (sending_at plan rows place t)
  sent-rows outs lines is =
      frames-are outs is ∙ ap (λ ls. map (frame_row plan rows place t) (filter (λ line. sends_frame plan rows place line t) ls)) lines
