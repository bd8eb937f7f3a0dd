-- What a network has to do with its plan and all events.
use Rattle.std.specs.Prelude.{◌≡◌, ◌≤◌, ◌<◌, ◌*◌, ℕ, IsTrue, List, [], length, slice_index_or, Option, IfSome}
use Rattle.sync_ql.specs.declared.levels.Level.{Level}
use Rattle.sync_ql.specs.Pasts.{past_of}
use Rattle.sync_ql.specs.Messages.{heard_at, line_until}
use Rattle.sync_element.specs.ElementState.{ElementState}
use Rattle.sync_element.specs.StandsAfter.{StandsAfter}
use Rattle.link_model.specs.LineState.{LineState}
use Rattle.link_model.specs.StandsFor as Line
use Rattle.sync_topo.specs.declared.input.InputId.TheVariants.{Source}
use Rattle.sync_topo.specs.declared.event.Event.{Event}
use Rattle.sync_topo.specs.Topology.{Topology}
use Rattle.sync_topo.specs.Lines.{line_count, line_input, delay_of, IsInput, is_nominated_input, IsNominated}
use Rattle.net_rules.specs.Signals.{Signals, signals_by, events_at, source_level_before}
use Rattle.net_rules.specs.History.{Levels, settings_of, line_moment_at, heard, moment_at, out_at}
use Rattle.net_words.specs.Before.{up_before, esmc_before, said_before}
use Rattle.sync_net.specs.Kept.{Kept, line_signal, source_signal, heard_on}
use Rattle.sync_net.specs.NetState.{NetState, line_in}

-- an element of a network after n milliseconds of what the rules have for it
abbrev pub ElementStands : Topology → Signals → Levels → ℕ → ℕ → ElementState → Type 0
ElementStands plan signals out place n element =
    StandsAfter (settings_of plan place) (moment_at plan signals (heard plan signals out) place) n element

-- a line of a network after n milliseconds: so up to its last call
pub record LineStands (plan : Topology) (signals : Signals) (out : Levels) (line n : ℕ) (state : LineState) : Type 0 where
  pub delay : state.delay ≡ delay_of plan line
  pub in_turn : state.turn ≤ 4 * n
  pub until_due : IfSome state.due (λ due. n ≤ due)
  pub called : ℕ
  pub later : called ≤ n
  pub first : called ≡ 0 → n ≡ 0
  pub stands : Line.StandsFor state (past_of (line_moment_at signals out line) called)
  pub unchanged : past_of (line_moment_at signals out line) n
      ≡ line_until n (past_of (line_moment_at signals out line) called)

-- the level that is heard on a line after n milliseconds
abbrev pub heard_before : Topology → Signals → Levels → ℕ → ℕ → Option Level
heard_before plan signals out line n =
    heard_at (delay_of plan line) (past_of (line_moment_at signals out line) n)

-- a nominated source of the plan
pub record IsNominatedSource (plan : Topology) (source : ℕ) : Type 0 where
  pub has : IsInput plan (Source source)
  pub nominated : IsTrue (is_nominated_input plan (Source source))

-- Private: what is kept of nominated lines and sources is as the events before a millisecond have
-- it
pub record AreSignals (plan : Topology) (kept : Kept) (events : List Event) (n : ℕ) : Type 0 where
  pub line_up : (line : ℕ) → IsNominated plan line → (line_signal kept line).up ≡ up_before events (line_input line) n
  pub line_esmc : (line : ℕ) → IsNominated plan line → (line_signal kept line).esmc ≡ esmc_before events line n
  pub source_up : (source : ℕ) → IsNominatedSource plan source → (source_signal kept source).up ≡ up_before events (Source source) n
  pub source_said : (source : ℕ) → IsNominatedSource plan source → (source_signal kept source).said ≡ said_before plan events source n
  pub source_level : (source : ℕ) → IsNominatedSource plan source → (source_signal kept source).level ≡ source_level_before plan events source n

-- Private: the levels that are heard are those of the rules
abbrev pub AreHeard : Topology → Kept → List Event → ℕ → Type 0
AreHeard plan kept events n = (line : ℕ) → IsNominated plan line →
    heard_on kept line ≡ heard_before plan (signals_by plan events) (out_at plan (signals_by plan events)) line n

-- Private: after n milliseconds all that a network keeps is as the rules have it by the plan and
-- all events
pub record IsOfPast (net : NetState) (events : List Event) (n : ℕ) : Type 0 where
  pub first : net.next ≡ 0 → n ≡ 0
  pub later : net.next ≤ n
  pub elements : (element : ℕ) (other : ElementState) → element < length net.plan.elements →
      ElementStands net.plan (signals_by net.plan events) (out_at net.plan (signals_by net.plan events)) element n
      (slice_index_or net.elements element other)
  pub lines : (line : ℕ) → line < line_count net.plan →
      IfSome (line_in net.lines line)
      (LineStands net.plan (signals_by net.plan events) (out_at net.plan (signals_by net.plan events)) line n)
  pub signals : AreSignals net.plan net.kept events n
  pub heards : AreHeard net.plan net.kept events n

-- after n milliseconds a network stands for its plan and all events, of which only those before n
-- count. What that says of what it keeps is known to this crate alone: others take it from one call
-- to the next
unfoldable pub StandsFor : NetState → List Event → ℕ → Type 0
StandsFor net events n = IsOfPast net events n

-- no event stands from one millisecond up to but not at another
abbrev pub NoneFrom : ℕ → ℕ → List Event → Type 0
NoneFrom from until events = (t : ℕ) → from ≤ t → t < until → events_at t events ≡ []
