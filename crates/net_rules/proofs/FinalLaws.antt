-- The timed laws by a list of events, for the levels that the rules send.
use Rattle.std.proofs.Common.{◌≡◌, ◌≤◌, ◌<◌, ◌+◌, ℕ, suc, false, List, ◌++◌, length, arith, ◌⊎◌, Bool, Option, None, Some, refl}
use Rattle.std.specs.List.{All}
use Rattle.sync_ql.specs.Messages.{hearing_time}
use Rattle.sync_topo.specs.declared.event.Event.{Event}
use Rattle.sync_topo.specs.Topology.{Topology}
use Rattle.sync_ql.specs.Quiet.{IsSameOutput}
use Rattle.sync_topo.specs.Lines.{delay_of, line_input, IsInput, is_nominated_input, IsNominated}
use Rattle.sync_topo.proofs.LineLaws.{IsNominated-within}
use Rattle.sync_topo.specs.Hops.{IsRising, IsCycle}
use Rattle.sync_topo.specs.WellFormed.{IsWellFormed}
use Rattle.net_rules.specs.Signals.{Signals, signals_by}
use Rattle.net_rules.specs.History.{Obeys, out_at, settings_of, element_past, Levels, taken_at, line_moment_at}
use Rattle.net_rules.specs.Settings.{signal_at}
use Rattle.net_rules.specs.Sameness.{IsSameUntil}
use Rattle.net_rules.specs.Activity.{is_active, is_busy, TouchAlike}
use Rattle.net_rules.specs.Settled.{IsSettled}
use Rattle.net_rules.specs.Safety.{IsLoopFree, taken_in}
use Rattle.net_rules.specs.Facing.{Faces}
use Rattle.net_rules.specs.Staying.{IsSameAt}
use Rattle.net_rules.specs.Settling.{NoneAfter, AreUnswitchedBefore, IsSettlingBound}
use Rattle.std.specs.Prelude.{IfSome, IsTrue}
use Rattle.sync_ql.proofs.SameMoments.{line_moment}
use Rattle.sync_ql.specs.Condition.{Signal}
use Rattle.sync_topo.specs.declared.input.InputId.{InputId}
use Rattle.net_rules.specs.Inputs.{IsInputOf}
use Rattle.net_rules.specs.Walks.{IsClosedWalk, IsFacingPair, TraceEnd, IsTrace}
use Rattle.net_rules.proofs.NetLaws.{taken-is, taken-nominated}
use Rattle.net_rules.proofs.TraceLaws.{has_trace}
use Rattle.net_rules.proofs.WalkLaws.{pair_or_cycle}
use Rattle.net_rules.proofs.PlanLaws.{IsDelayed-well, sender-within}
use Rattle.net_rules.proofs.HistoryLaws.{out_at-sent, until_same, element-past-same, same_inputs-until}
use Rattle.net_rules.proofs.PairLaws.{pair-brief}
use Rattle.net_rules.proofs.SettledLaws.{rising-loop_free}
use Rattle.net_rules.proofs.QuietLaws.{settled-stays}
use Rattle.net_rules.proofs.BoundLaws.{bound-settles}
use Rattle.net_rules.proofs.OrderLaws.{later-same, touch-same}
use Rattle.net_rules.proofs.IdleLaws.{inactive-is, inactive-same, quiet-same, quiet-inactive}
use Rattle.net_rules.proofs.EventLaws.{quiet-after, still-before}

-- the levels that the rules send obey them
pub obeys-well : (plan : Topology) (signals : Signals) → IsWellFormed plan → Obeys plan signals (out_at plan signals)
obeys-well plan signals well line t within = out_at-sent plan (IsDelayed-well plan well) signals line t

-- where ranks rise the plan is loop-free
pub loop_free : (plan : Topology) (rank : ℕ → ℕ) → IsWellFormed plan → IsRising plan rank → IsLoopFree plan
loop_free plan rank well rising events fits t =
    rising-loop_free plan (signals_by plan events) (out_at plan (signals_by plan events)) rank well (obeys-well plan (signals_by plan events) well) rising t

pub pair-by_events : (plan : Topology) (events : List Event) (line back from until : ℕ) → IsWellFormed plan → from ≤ until
    → ((t : ℕ) → from ≤ t → t ≤ until → Faces plan (signals_by plan events) (out_at plan (signals_by plan events)) line back t)
    → until < from + (hearing_time + delay_of plan line)
pair-by_events plan events line back from until well begun faces =
    pair-brief plan (signals_by plan events) (out_at plan (signals_by plan events)) line back from until well (obeys-well plan (signals_by plan events) well) faces begun

pub stays-by_events : (plan : Topology) (events : List Event) (t u : ℕ) → IsWellFormed plan
    → IsSettled plan (signals_by plan events) (out_at plan (signals_by plan events)) t → NoneAfter events t → AreUnswitchedBefore plan events t → t ≤ u
    → IsSettled plan (signals_by plan events) (out_at plan (signals_by plan events)) u × IsSameAt plan (signals_by plan events) (out_at plan (signals_by plan events)) t u
stays-by_events plan events t u well settled none unswitched after =
    settled-stays plan (signals_by plan events) (out_at plan (signals_by plan events)) t u (IsDelayed-well plan well) (obeys-well plan (signals_by plan events) well) settled
    (quiet-after plan events t none) (still-before plan events t unswitched) after

pub bound-by_events : (plan : Topology) (events : List Event) (last bound t : ℕ) → IsWellFormed plan → NoneAfter events last → IsSettlingBound plan last bound → bound ≤ t
    → IsSettled plan (signals_by plan events) (out_at plan (signals_by plan events)) t
bound-by_events plan events last bound t well none is after =
    bound-settles plan (signals_by plan events) (out_at plan (signals_by plan events)) last bound t (IsDelayed-well plan well) (obeys-well plan (signals_by plan events) well) is
    (quiet-after plan events last none) after

-- the pasts of elements that the same comes to from outside are the same
pub pasts-same : (plan : Topology) (signals others : Signals) (t : ℕ) → IsWellFormed plan → IsSameUntil plan t signals others
    → (element n : ℕ) → element < length plan.elements → n ≤ suc t
    → element_past plan signals (out_at plan signals) element n ≡ element_past plan others (out_at plan others) element n
pasts-same plan signals others t well same element n within until =
    element-past-same plan (IsDelayed-well plan well) signals others (out_at plan signals) (out_at plan others) t element n until
    (same_inputs-until plan signals others t same) (λ s early. same.commands element s within early)
    (λ line s nominated early. until_same plan (IsDelayed-well plan well) (sender-within plan well) signals others t same line s (IsNominated-within plan line nominated) (omega (arith, early)))

pub later-pasts : (plan : Topology) (events more : List Event) (t : ℕ) → IsWellFormed plan → All (λ event. t < event.at) more
    → (element n : ℕ) → element < length plan.elements → n ≤ suc t
    → element_past plan (signals_by plan (events ++ more)) (out_at plan (signals_by plan (events ++ more))) element n
    ≡ element_past plan (signals_by plan events) (out_at plan (signals_by plan events)) element n
later-pasts plan events more t well later =
    pasts-same plan (signals_by plan (events ++ more)) (signals_by plan events) t well (later-same plan events more t later)

pub order-pasts : (plan : Topology) (events others : List Event) → IsWellFormed plan → TouchAlike plan events others
    → (element n : ℕ) → element < length plan.elements
    → element_past plan (signals_by plan events) (out_at plan (signals_by plan events)) element n
    ≡ element_past plan (signals_by plan others) (out_at plan (signals_by plan others)) element n
order-pasts plan events others well alike element n within =
    pasts-same plan (signals_by plan events) (signals_by plan others) n well (touch-same plan events others n well alike) element n within (omega arith)

pub idle-by_events : (plan : Topology) (events : List Event) (element t : ℕ) → is_active plan events element (suc t) ≡ false
    → IsSameOutput (settings_of plan element) (element_past plan (signals_by plan events) (out_at plan (signals_by plan events)) element (suc t))
    (element_past plan (signals_by plan events) (out_at plan (signals_by plan events)) element (suc (suc t)))
idle-by_events plan events element t inactive =
    inactive-same plan events (out_at plan (signals_by plan events)) element t (inactive-is plan events (out_at plan (signals_by plan events)) element t inactive)

pub quiet-by_events : (plan : Topology) (events : List Event) (t : ℕ) → IsWellFormed plan → is_busy plan events (suc t) ≡ false
    → IsSameAt plan (signals_by plan events) (out_at plan (signals_by plan events)) t (suc t)
quiet-by_events plan events t well quiet =
    quiet-same plan events t well (obeys-well plan (signals_by plan events) well) (quiet-inactive plan events t quiet)

-- what an element takes is an input of its own
pub taken-own : (plan : Topology) (signals : Signals) (out : Levels) (element t : ℕ) → IfSome (taken_at plan signals out element t) (IsInputOf plan element)
taken-own plan signals out element t = of (taken_at plan signals out element t) refl
  where
    of : (o : Option InputId) → taken_at plan signals out element t ≡ o → IfSome o (IsInputOf plan element)
    of None is = tt
    of (Some input) is = (taken-is plan signals out element t input is).of

-- so in each millisecond a closed walk is a facing pair or a cycle, and each element has a trace
pub walk-here : (plan : Topology) (signals : Signals) (out : Levels) (t : ℕ) (lines : List ℕ) → IsWellFormed plan
    → IsClosedWalk plan (taken_in plan signals out t) lines → IsFacingPair plan lines ⊎ IsCycle plan lines
walk-here plan signals out t lines well = pair_or_cycle plan (taken_in plan signals out t) lines well (taken-nominated plan signals out t)

pub traced-here : (plan : Topology) (signals : Signals) (out : Levels) (element t : ℕ) → IsWellFormed plan → element < length plan.elements
    → (lines : List ℕ) × (end : TraceEnd) × IsTrace plan (taken_in plan signals out t) element lines end
traced-here plan signals out element t well within =
    let trace = has_trace plan (taken_in plan signals out t) (length plan.elements)
    (λ receiver line takes. sender-within plan well line (IsNominated-within plan line (taken-is plan signals out receiver t (line_input line) takes).of.nominated)) element within in
    (trace.lines, trace.end, trace.is)

lines-same : (plan : Topology) (signals others : Signals) (t : ℕ) → IsWellFormed plan → IsSameUntil plan t signals others
    → (line s : ℕ) → IsNominated plan line → s ≤ t
    → line_moment_at signals (out_at plan signals) line s ≡ line_moment_at others (out_at plan others) line s
lines-same plan signals others t well same line s nominated until =
    line_moment _ _ _ _ _ _ (same.up (line_input line) s (IsNominated-within plan line nominated) nominated until) (same.esmc line s nominated until)
    (until_same plan (IsDelayed-well plan well) (sender-within plan well) signals others t same line s (IsNominated-within plan line nominated) until)

signal : (up up_then clear clear_then : Bool) → up ≡ up_then → clear ≡ clear_then → ◌≡◌ {A = Signal} (record { up = up; clear = clear }) (record { up = up_then; clear = clear_then })
signal up up_then clear clear_then a b = rw (a, b) refl

inputs-same : (plan : Topology) (signals others : Signals) (t : ℕ) → IsSameUntil plan t signals others
    → (input : InputId) (s : ℕ) → IsInput plan input → IsTrue (is_nominated_input plan input) → s ≤ t → signal_at signals input s ≡ signal_at others input s
inputs-same plan signals others t same input s has nominated until = signal _ _ _ _ (same.up input s has nominated until) (same.clear input s has nominated until)

pub later-lines : (plan : Topology) (events more : List Event) (t : ℕ) → IsWellFormed plan → All (λ event. t < event.at) more
    → (line s : ℕ) → IsNominated plan line → s ≤ t
    → line_moment_at (signals_by plan (events ++ more)) (out_at plan (signals_by plan (events ++ more))) line s
    ≡ line_moment_at (signals_by plan events) (out_at plan (signals_by plan events)) line s
later-lines plan events more t well later = lines-same plan (signals_by plan (events ++ more)) (signals_by plan events) t well (later-same plan events more t later)

pub later-inputs : (plan : Topology) (events more : List Event) (t : ℕ) → All (λ event. t < event.at) more
    → (input : InputId) (s : ℕ) → IsInput plan input → IsTrue (is_nominated_input plan input) → s ≤ t
    → signal_at (signals_by plan (events ++ more)) input s ≡ signal_at (signals_by plan events) input s
later-inputs plan events more t later = inputs-same plan (signals_by plan (events ++ more)) (signals_by plan events) t (later-same plan events more t later)

pub order-lines : (plan : Topology) (events others : List Event) → IsWellFormed plan → TouchAlike plan events others → (line t : ℕ) → IsNominated plan line
    → line_moment_at (signals_by plan events) (out_at plan (signals_by plan events)) line t
    ≡ line_moment_at (signals_by plan others) (out_at plan (signals_by plan others)) line t
order-lines plan events others well alike line t nominated =
    lines-same plan (signals_by plan events) (signals_by plan others) t well (touch-same plan events others t well alike) line t nominated (omega arith)

pub order-inputs : (plan : Topology) (events others : List Event) → IsWellFormed plan → TouchAlike plan events others
    → (input : InputId) (t : ℕ) → IsInput plan input → IsTrue (is_nominated_input plan input)
    → signal_at (signals_by plan events) input t ≡ signal_at (signals_by plan others) input t
order-inputs plan events others well alike input t has nominated =
    inputs-same plan (signals_by plan events) (signals_by plan others) t (touch-same plan events others t well alike) input t has nominated (omega arith)
