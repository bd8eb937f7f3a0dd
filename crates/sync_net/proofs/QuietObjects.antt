-- One element and one line over a millisecond in which they aren't called.
use Rattle.std.proofs.Common.{◌≡◌, ◌≤◌, ◌<◌, ℕ, suc, List, ◌∷◌, length, Option, None, Some, IfSome, ap, sym, subst, ◌∙◌, arith}
use Rattle.sync_ql.proofs.Staying.{earlier_too, same_until_due}
use Rattle.sync_ql.specs.Pasts.{past_of}
use Rattle.sync_ql.specs.Moment.{signals_of}
use Rattle.sync_ql.specs.Condition.{failed_at}
use Rattle.sync_ql.specs.Messages.{LineMoment, heard_at, unchanged, line_until, IsSameOnLine, IsLineDue}
use Rattle.sync_ql.specs.Told.{quiet_moment}
use Rattle.sync_ql.specs.Quiet.{IsSameFailed, IsSameOutput, IsElementDue}
use Rattle.sync_ql.proofs.QuietMoments.{IsSameOutput-quiet}
use Rattle.sync_ql.proofs.Delivered.{length-past_of, heard_at-head}
use Rattle.sync_element.specs.ElementState.{ElementState}
use Rattle.sync_element.proofs.ElementSteps.{past-quiet, stands-quiet}
use Rattle.link_model.specs.LineState.{LineState}
use Rattle.link_model.proofs.Standing.{until-next}
use Rattle.sync_topo.specs.Topology.{Topology}
use Rattle.sync_topo.specs.Lines.{line_count, line_input, sender_of, delay_of}
use Rattle.net_rules.specs.Signals.{Signals}
use Rattle.net_rules.specs.History.{Levels, settings_of, line_moment_at, heard, moment_at, element_past, Obeys}
use Rattle.net_rules.proofs.QuietLaws.{sent-stays}
use Rattle.sync_net.specs.Standing.{ElementStands, LineStands, heard_before}
use Rattle.sync_net.specs.Sound.{IsSoundElement, IsSoundLine}

-- nothing is told of an element in the millisecond after t
abbrev pub HasNoNews : Topology → Signals → Levels → ℕ → ℕ → Type 0
HasNoNews plan signals out element t =
    moment_at plan signals (heard plan signals out) element (suc t)
    ≡ quiet_moment (settings_of plan element) (element_past plan signals out element (suc t))

-- before its due time a line has the same on its way, and the same is heard on it
pub line-until : (delay : ℕ) (past : List LineMoment) (due : Option ℕ) (n : ℕ) → IsLineDue delay past due → length past ≤ n
    → IfSome due (λ d. n ≤ d) → IsSameOnLine delay past (line_until n past)
line-until delay past None n never later in_time = never n later
line-until delay past (Some due) n first later in_time = first.same_before n later in_time

-- an element that isn't told anything, and isn't due, stands a millisecond later
pub element-quiet : (plan : Topology) (signals : Signals) (out : Levels) (place t : ℕ) (element : ElementState)
    → ElementStands plan signals out place (suc t) element → HasNoNews plan signals out place t
    → IfSome element.due (λ due. suc (suc t) ≤ due)
    → ElementStands plan signals out place (suc (suc t)) element
element-quiet plan signals out place t element is none due =
    stands-quiet (settings_of plan place) (moment_at plan signals (heard plan signals out) place) (suc t) element
    (record {
      first = λ never. absurd (let begun = is.in_time.first never in omega (arith, begun));
      later = (let later = is.in_time.later in omega (arith, later));
      until_due = due;
    }) is none

-- the past at its last step, and when an input's "failed" changes after it
pub sound-due : (plan : Topology) (signals : Signals) (out : Levels) (place n : ℕ) (element : ElementState)
    → IsSoundElement plan place element → ElementStands plan signals out place n element
    → IsElementDue (settings_of plan place) (element_past plan signals out place element.next) element.due
sound-due plan signals out place n element sound is =
    subst (λ settings. IsElementDue settings (element_past plan signals out place element.next) element.due) sound.settings
    (sound.due (element_past plan signals out place element.next) is.stands)

-- so no input of it is failed where it wasn't, or the other way round
pub element-failed : (plan : Topology) (signals : Signals) (out : Levels) (place t : ℕ) (element : ElementState)
    → IsSoundElement plan place element → ElementStands plan signals out place (suc t) element → HasNoNews plan signals out place t
    → IfSome element.due (λ due. suc (suc t) ≤ due)
    → IsSameFailed (settings_of plan place) (element_past plan signals out place (suc t)) (element_past plan signals out place (suc (suc t)))
element-failed plan signals out place t element sound is none due i within =
    let long = length-past_of (moment_at plan signals (heard plan signals out) place) element.next in
    let later = is.in_time.later in
    let first = sound-due plan signals out place (suc t) element sound is in
    ap (λ past. failed_at (settings_of plan place).timers (signals_of i past)) (past-quiet (settings_of plan place) (moment_at plan signals (heard plan signals out) place) (suc t) element is none)
    ∙ same_until_due (settings_of plan place) (element_past plan signals out place element.next) element.due (suc (suc t)) first (omega (arith, long, later)) due i within
    ∙ sym (same_until_due (settings_of plan place) (element_past plan signals out place element.next) element.due (suc t) first (omega (arith, long, later))
    (earlier_too element.due (suc t) (suc (suc t)) (omega arith) due) i within)
    ∙ sym (ap (λ past. failed_at (settings_of plan place).timers (signals_of i past)) is.quiet)

-- and it gives what it gave
pub element-same : (plan : Topology) (signals : Signals) (out : Levels) (place t : ℕ) (element : ElementState)
    → IsSoundElement plan place element → ElementStands plan signals out place (suc t) element → HasNoNews plan signals out place t
    → IfSome element.due (λ due. suc (suc t) ≤ due)
    → IsSameOutput (settings_of plan place) (element_past plan signals out place (suc t)) (element_past plan signals out place (suc (suc t)))
element-same plan signals out place t element sound is none due =
    let settings = settings_of plan place in
    let past = element_past plan signals out place (suc t) in
    subst (λ moment. IsSameOutput settings past (moment ∷ past)) (sym none)
    (IsSameOutput-quiet settings (moment_at plan signals (heard plan signals out) place t) (element_past plan signals out place t)
    (subst (λ moment. IsSameFailed settings past (moment ∷ past)) none (element-failed plan signals out place t element sound is none due)))

-- so each line from it is sent what it was sent
pub element-sends : (plan : Topology) (signals : Signals) (out : Levels) (place t line : ℕ) (element : ElementState)
    → IsSoundElement plan place element → ElementStands plan signals out place (suc t) element → HasNoNews plan signals out place t
    → IfSome element.due (λ due. suc (suc t) ≤ due)
    → sender_of plan line ≡ place → line < line_count plan → Obeys plan signals out
    → out line (suc t) ≡ out line t
element-sends plan signals out place t line element sound is none due of within obeys =
    sent-stays plan signals out t (suc t) line obeys within
    (subst (λ e. IsSameOutput (settings_of plan e) (element_past plan signals out e (suc t)) (element_past plan signals out e (suc (suc t)))) (sym of)
    (element-same plan signals out place t element sound is none due))

-- a line's past with its newest millisecond again is that of the last call, and nothing told since
pub line-more : (plan : Topology) (signals : Signals) (out : Levels) (line t : ℕ) (state : LineState)
    → (is : LineStands plan signals out line (suc t) state)
    → line_moment_at signals out line t ∷ past_of (line_moment_at signals out line) (suc t)
    ≡ line_until (suc (suc t)) (past_of (line_moment_at signals out line) is.called)
line-more plan signals out line t state is =
    let long = length-past_of (line_moment_at signals out line) is.called in
    let later = is.later in
    ap (λ past. unchanged past ∷ past) is.unchanged
    ∙ sym (until-next (suc t) (past_of (line_moment_at signals out line) is.called) (omega (arith, long, later)))

-- a line that isn't told anything, and isn't due, stands a millisecond later
pub line-quiet : (plan : Topology) (signals : Signals) (out : Levels) (line t : ℕ) (state : LineState)
    → LineStands plan signals out line (suc t) state
    → line_moment_at signals out line (suc t) ≡ line_moment_at signals out line t
    → IfSome state.due (λ due. suc (suc t) ≤ due)
    → LineStands plan signals out line (suc (suc t)) state
line-quiet plan signals out line t state is same due = record {
  delay = is.delay;
  in_turn = (let turn = is.in_turn in omega (arith, turn));
  until_due = due;
  called = is.called;
  later = (let later = is.later in omega (arith, later));
  first = λ never. absurd (let begun = is.first never in omega (arith, begun));
  stands = is.stands;
  unchanged =
      ap (λ moment. moment ∷ past_of (line_moment_at signals out line) (suc t)) same
      ∙ line-more plan signals out line t state is;
}

-- the past at its last call, and when something arrives or is lost after it
pub line-due : (plan : Topology) (signals : Signals) (out : Levels) (line n : ℕ) (state : LineState)
    → IsSoundLine plan line state → (is : LineStands plan signals out line n state)
    → IsLineDue (delay_of plan line) (past_of (line_moment_at signals out line) is.called) state.due
line-due plan signals out line n state sound is =
    subst (λ delay. IsLineDue delay (past_of (line_moment_at signals out line) is.called) state.due) sound.delay
    (sound.due (past_of (line_moment_at signals out line) is.called) is.stands)

-- until it is due, the same is heard as at its last call
pub line-heard_until : (plan : Topology) (signals : Signals) (out : Levels) (line n m : ℕ) (state : LineState)
    → IsSoundLine plan line state → (is : LineStands plan signals out line n state) → n ≤ m
    → IfSome state.due (λ due. m ≤ due)
    → heard_at (delay_of plan line) (line_until m (past_of (line_moment_at signals out line) is.called))
    ≡ heard_at (delay_of plan line) (past_of (line_moment_at signals out line) is.called)
line-heard_until plan signals out line n m state sound is after due =
    let long = length-past_of (line_moment_at signals out line) is.called in
    let later = is.later in
    (line-until (delay_of plan line) (past_of (line_moment_at signals out line) is.called) state.due m
    (line-due plan signals out line n state sound is) (omega (arith, long, later, after)) due).heard

-- where the line stays up or down, and isn't due, the same is heard, whatever level is said
pub line-heard : (plan : Topology) (signals : Signals) (out : Levels) (line t : ℕ) (state : LineState)
    → IsSoundLine plan line state → LineStands plan signals out line (suc t) state
    → IfSome state.due (λ due. suc (suc t) ≤ due) → 1 ≤ delay_of plan line
    → signals.up (line_input line) (suc t) ≡ signals.up (line_input line) t
    → heard_before plan signals out line (suc (suc t)) ≡ heard_before plan signals out line (suc t)
line-heard plan signals out line t state sound is due low up =
    let moments = line_moment_at signals out line in
    heard_at-head (delay_of plan line) (moments (suc t)) (moments t) (past_of moments (suc t)) low up
    ∙ ap (heard_at (delay_of plan line)) (line-more plan signals out line t state is)
    ∙ line-heard_until plan signals out line (suc t) (suc (suc t)) state sound is (omega arith) due
    ∙ sym (line-heard_until plan signals out line (suc t) (suc t) state sound is (omega arith) (earlier_too state.due (suc t) (suc (suc t)) (omega arith) due))
    ∙ sym (ap (heard_at (delay_of plan line)) is.unchanged)
