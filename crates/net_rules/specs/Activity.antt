-- In which milliseconds something happens in a network, and where: what a simulator has to look at.
-- This project's own.
use Rattle.std.specs.Prelude.{◌≡◌, ℕ, zero, suc, ◌+◌, ◌*◌, ◌<◌, Bool, false, not, ◌&&◌, ◌||◌, nat_eq, nat_lt, List, length, filter, drop, is_some}
use Rattle.std.specs.List.{list_any, range_with_len}
use Rattle.sync_text.specs.Tests.{differs}
use Rattle.sync_ql.specs.Pasts.{past_of}
use Rattle.sync_ql.specs.Messages.{is_same_level, is_news, arrives}
use Rattle.sync_topo.specs.declared.input.InputId.{InputId}
use Rattle.sync_topo.specs.declared.input.InputId.TheVariants.{Line, Source}
use Rattle.sync_topo.specs.declared.event.Part.{Part}
use Rattle.sync_topo.specs.declared.event.Part.TheVariants as part
use Rattle.sync_topo.specs.declared.event.What.{What}
use Rattle.sync_topo.specs.declared.event.What.TheVariants.{Down, Up, EsmcOff, EsmcOn, SourceLevel, Lockout, Unlock, Forced, Manual, Clear, ClearWtr}
use Rattle.sync_topo.specs.declared.event.Event.{Event}
use Rattle.sync_topo.specs.Topology.{Topology}
use Rattle.sync_topo.specs.Lines.{line_count, receiver_of, delay_of, source_priority, element_of_source, inputs_of, is_nominated}
use Rattle.net_rules.specs.Signals.{Signals, signals_by, events_at}
use Rattle.net_rules.specs.History.{Levels, line_moment_at, heard, failed_by, out_at}

-- a line leads into an element, or a nominated source is at it
abbrev pub is_at : Topology → ℕ → InputId → Bool
is_at plan element (Line line) = nat_eq (receiver_of plan line.0) element
is_at plan element (Source source) =
    nat_lt 0 (source_priority plan source) && nat_eq (element_of_source plan source) element

-- a part is a line into an element, the link of such a line, or a nominated source at it
abbrev pub is_part_at : Topology → ℕ → Part → Bool
is_part_at plan element (part.Link link) =
    nat_eq (receiver_of plan (2 * link)) element || nat_eq (receiver_of plan (2 * link + 1)) element
is_part_at plan element (part.Line line) = is_at plan element (Line line)
is_part_at plan element (part.Source source) = is_at plan element (Source source)

-- what happens touches an element: it names the element, an input of it, a line into it, or the link of
-- such a line. A source that isn't nominated is no input
abbrev pub touches : Topology → ℕ → What → Bool
touches plan element (Down part) = is_part_at plan element part
touches plan element (Up part) = is_part_at plan element part
touches plan element (EsmcOff line) = is_at plan element (Line line)
touches plan element (EsmcOn line) = is_at plan element (Line line)
touches plan element (SourceLevel source level) = is_at plan element (Source source)
touches plan element (Lockout input) = is_at plan element input
touches plan element (Unlock input) = is_at plan element input
touches plan element (Forced input) = is_at plan element input
touches plan element (Manual input) = is_at plan element input
touches plan element (Clear other) = nat_eq other element
touches plan element (ClearWtr input) = is_at plan element input

-- an event at a millisecond touches an element
abbrev pub is_touched : Topology → List Event → ℕ → ℕ → Bool
is_touched plan events element t = list_any (λ event. touches plan element event.what) (events_at t events)

-- two lists of events touch each element by the same events, in the same order
abbrev pub TouchAlike : Topology → List Event → List Event → Type 0
TouchAlike plan events others = (element : ℕ) → element < length plan.elements →
    filter (λ event. touches plan element event.what) events
    ≡ filter (λ event. touches plan element event.what) others

-- an input is failed in a millisecond where it wasn't in the one before, or the other way round; before 0
-- none is
abbrev pub failed_changes : Topology → Signals → InputId → ℕ → Bool
failed_changes plan signals input zero = failed_by plan signals input 0
failed_changes plan signals input (suc t) =
    differs (failed_by plan signals input (suc t)) (failed_by plan signals input t)

-- another level is heard on an input than in the millisecond before; before 0 none is heard
abbrev pub heard_changes : Topology → Signals → Levels → InputId → ℕ → Bool
heard_changes plan signals out (Source source) t = false
heard_changes plan signals out (Line line) zero = is_some (heard plan signals out line.0 0)
heard_changes plan signals out (Line line) (suc t) =
    not (is_same_level (heard plan signals out line.0 (suc t)) (heard plan signals out line.0 t))

-- an element is active in a millisecond: it is the first, an event touches the element, or a nominated
-- input of it is failed or heard otherwise than before
abbrev pub is_active_in : Topology → List Event → Signals → Levels → ℕ → ℕ → Bool
is_active_in plan events signals out element t =
    nat_eq t 0
    || is_touched plan events element t
    || list_any (λ input. failed_changes plan signals input t || heard_changes plan signals out input t)
    (inputs_of plan element)

abbrev pub is_active : Topology → List Event → ℕ → ℕ → Bool
is_active plan events element t =
    is_active_in plan events (signals_by plan events) (out_at plan (signals_by plan events)) element t

-- a message arrives on a line that went out with news
abbrev pub news_arrives : Topology → Signals → Levels → ℕ → ℕ → Bool
news_arrives plan signals out line t =
    arrives (delay_of plan line) (past_of (line_moment_at signals out line) (suc t))
    && is_news (drop (delay_of plan line) (past_of (line_moment_at signals out line) (suc t)))

-- a millisecond is busy: an event stands at it, an element is active, or news arrives on a nominated
-- line. Otherwise it is quiet
abbrev pub is_busy : Topology → List Event → ℕ → Bool
is_busy plan events t =
    list_any (λ event. nat_eq event.at t) events
    || list_any (λ element. is_active plan events element t) (range_with_len 0 (length plan.elements))
    || list_any
    (λ line. is_nominated plan line && news_arrives plan (signals_by plan events) (out_at plan (signals_by plan events)) line t)
    (range_with_len 0 (line_count plan))
