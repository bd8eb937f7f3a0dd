-- A network of which nothing is due is settled.
use Rattle.std.proofs.Common.{◌≡◌, ◌≤◌, ◌<◌, ◌+◌, ◌-◌, ℕ, suc, List, length, slice_index_or, true, false, Option, None, Some, IfSome, refl, ap, sym, subst, ◌∙◌, arith}
use Rattle.std.specs.Prelude.{IsSome}
use Rattle.std.proofs.lemmas.Option.{none-some}
use Rattle.sync_text.specs.Each.{Each}
use Rattle.sync_ql.specs.Pasts.{past_of}
use Rattle.sync_ql.specs.Messages.{LineMoment, heard_at, after_unchanged, IsLineDue}
use Rattle.sync_ql.specs.Quiet.{IsElementDue}
use Rattle.sync_ql.proofs.Delivered.{length-past_of}
use Rattle.link_model.specs.LineState.{LineState}
use Rattle.link_model.proofs.Pasts.{after-after}
use Rattle.sync_element.specs.ElementState.{ElementState}
use Rattle.sync_topo.specs.declared.event.Event.{Event}
use Rattle.sync_topo.specs.Lines.{line_input, delay_of, IsNominated, inputs_of}
use Rattle.sync_topo.specs.WellFormed.{IsWellFormed}
use Rattle.sync_topo.proofs.LineLaws.{IsNominated-within}
use Rattle.net_rules.specs.Signals.{Signals, signals_by, speaks_at}
use Rattle.net_rules.specs.History.{Levels, settings_of, line_moment_at, element_past, out_at}
use Rattle.net_rules.specs.Settled.{IsSteady, IsSettled}
use Rattle.sync_net.specs.NetState.{NetState, line_in, NoneDueBefore}
use Rattle.sync_net.specs.Sound.{IsSoundLine, AreSound}
use Rattle.sync_net.specs.Standing.{LineStands, IsOfPast}
use Rattle.sync_net.proofs.QuietObjects.{line-due, sound-due}
use Rattle.sync_net.proofs.QuietGap.{some_element}
use Rattle.sync_net.proofs.SteadyElements.{steady-idle, all-steady}
use Rattle.sync_net.proofs.IdleLines.{carried-idle, spoken-idle, silent-idle}

-- what is due at no millisecond is never due
never-due : (due : Option ℕ) → ((n : ℕ) → IfSome due (λ at. n ≤ at)) → due ≡ None
never-due None never = refl
never-due (Some at) never = let later : suc at ≤ at = never (suc at) in absurd (omega (arith, later))

module _ (net : NetState) (all : List Event) (t : ℕ) (well : IsWellFormed net.plan) (sound : AreSound net) (is : IsOfPast net all (suc t))
    (never : (n : ℕ) → NoneDueBefore net n) where
  abbrev pub signals : Signals
  signals = signals_by net.plan all

  abbrev pub out : Levels
  out = out_at net.plan signals

  -- the inputs of each element are steady
  element-idle : (place : ℕ) → place < length net.plan.elements → Each (λ input. IsSteady net.plan signals input t) (inputs_of net.plan place)
  element-idle place within =
      let element : ElementState = slice_index_or net.elements place (some_element net.plan) in
      let stands = is.elements place (some_element net.plan) within in
      let here = sound.elements place (some_element net.plan) within in
      steady-idle net.plan signals out place t element stands here.due
      (subst (λ due. IsElementDue (settings_of net.plan place) (element_past net.plan signals out place element.next) due)
      (never-due element.due (λ n. (never n).elements place (some_element net.plan) within))
      (sound-due net.plan signals out place (suc t) element here stands))

  -- the same is heard on a line for ever, if nothing is told
  line-idle : (line : ℕ) (state : LineState) → IsSoundLine net.plan line state → LineStands net.plan signals out line (suc t) state
      → ((n : ℕ) → IfSome state.due (λ due. n ≤ due)) → (k : ℕ)
      → heard_at (delay_of net.plan line) (after_unchanged k (past_of (line_moment_at signals out line) (suc t)))
      ≡ heard_at (delay_of net.plan line) (past_of (line_moment_at signals out line) (suc t))
  line-idle line state here stands none k =
      let f : ℕ → LineMoment = line_moment_at signals out line in
      let d : ℕ = delay_of net.plan line in
      let past : List LineMoment = past_of f stands.called in
      let long : length past ≤ suc t = let later = stands.later in omega (arith, later, length-past_of f stands.called) in
      let due = subst (λ o. IsLineDue d past o) (never-due state.due none) (line-due net.plan signals out line (suc t) state here stands) in
      ap (λ p. heard_at d (after_unchanged k p)) stands.unchanged
      ∙ ap (heard_at d) (after-after k (suc t - length past) (k + suc t - length past) past (omega (arith, long)))
      ∙ (due (k + suc t) (omega (arith, long))).heard
      ∙ sym (ap (heard_at d) stands.unchanged ∙ (due (suc t) long).heard)

  heard-idle : (line : ℕ) → IsNominated net.plan line → (k : ℕ)
      → heard_at (delay_of net.plan line) (after_unchanged k (past_of (line_moment_at signals out line) (suc t)))
      ≡ heard_at (delay_of net.plan line) (past_of (line_moment_at signals out line) (suc t))
  heard-idle line nominated =
      let within = IsNominated-within net.plan line nominated in
      by (line_in net.lines line) (sound.every line nominated) (sound.lines line within) (is.lines line within) (λ n. (never n).lines line within)
    where
      by : (o : Option LineState) → IsSome o → IfSome o (IsSoundLine net.plan line) → IfSome o (LineStands net.plan signals out line (suc t))
          → ((n : ℕ) → IfSome o (λ state. IfSome state.due (λ due. n ≤ due))) → (k : ℕ)
          → heard_at (delay_of net.plan line) (after_unchanged k (past_of (line_moment_at signals out line) (suc t)))
          ≡ heard_at (delay_of net.plan line) (past_of (line_moment_at signals out line) (suc t))
      by None some here stands none k = cc
      by (Some state) some here stands none k = line-idle line state here stands none k

  silent-by : (line : ℕ) → signals.up (line_input line) t ≡ true → signals.esmc line t ≡ false → speaks_at signals line t ≡ false
  silent-by line up off = rw (up, off) refl

  pub idle-settled : IsSettled net.plan signals out t
  idle-settled = record {
    steady = all-steady net.plan signals t well element-idle;
    carried = λ line nominated _ from sent way. carried-idle net.plan signals out line t (heard-idle line nominated) from sent way;
    spoken = λ line nominated speaks. spoken-idle net.plan signals out line t (heard-idle line nominated) speaks;
    silent = λ line nominated up off. silent-idle net.plan signals out line t (heard-idle line nominated) (silent-by line up off);
    nothing_on_way = λ line nominated up off from sent way.
        none-some (out line from) (sym (silent-idle net.plan signals out line t (heard-idle line nominated) (silent-by line up off))
        ∙ carried-idle net.plan signals out line t (heard-idle line nominated) from sent way);
  }

-- after a step
pub settled-idle : (net : NetState) (all : List Event) → IsWellFormed net.plan → AreSound net → 0 < net.next → IsOfPast net all net.next
    → ((n : ℕ) → NoneDueBefore net n) → IsSettled net.plan (signals_by net.plan all) (out_at net.plan (signals_by net.plan all)) (net.next - 1)
settled-idle net all well sound begun is never =
    let after : net.next ≡ suc (net.next - 1) = omega (arith, begun) in
    idle-settled net all (net.next - 1) well sound (subst (IsOfPast net all) after is) never
