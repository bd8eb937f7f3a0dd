-- How far the level of a source reaches in a millisecond: ways on which nothing keeps it from being taken. After G.781,
-- selection, external commands and the least level that is taken; ways are this project's own.
use Rattle.std.specs.Prelude.{◌≡◌, ◌<◌, ◌≤◌, ℕ, suc, Bool, true, false, List, length, slice_get, Some, None, IsTrue}
use Rattle.sync_ql.specs.declared.levels.Level.{Level}
use Rattle.sync_ql.specs.Level.{place_of, do_not_use_of, IsBetter}
use Rattle.sync_ql.specs.Messages.{said_in}
use Rattle.sync_ql.specs.Selection.{is_better}
use Rattle.sync_ql.specs.Switches.{Switches, is_locked}
use Rattle.sync_ql.specs.Moment.{switches_at}
use Rattle.sync_topo.specs.declared.input.InputId.{InputId}
use Rattle.sync_topo.specs.declared.input.InputId.TheVariants.{Line, Source}
use Rattle.sync_topo.specs.Topology.{Topology}
use Rattle.sync_topo.specs.Lines.{line_input, inputs_of, IsNominated}
use Rattle.sync_topo.specs.Hops.{goes_back}
use Rattle.net_rules.specs.Inputs.{IsInputOf}
use Rattle.net_rules.specs.Signals.{Signals, speaks_at}
use Rattle.net_rules.specs.Settings.{own_level}
use Rattle.net_rules.specs.History.{Levels, settings_of, element_past, heard, line_moment_at}
use Rattle.net_rules.specs.Settled.{IsSteady}
use Rattle.reach_rules.specs.Ways.{IsReached}

-- an input says something: a line speaks, and a source is up
abbrev pub says_at : Signals → InputId → ℕ → Bool
says_at signals (Line line) t = speaks_at signals line.0 t
says_at signals (Source source) t = signals.up (Source source) t

-- the switches of an element at the end of a millisecond
abbrev pub switches_in : Topology → Signals → Levels → ℕ → ℕ → Switches
switches_in plan signals out element t = switches_at (settings_of plan element) (element_past plan signals out element (suc t))

-- a level is not below an element's floor
abbrev pub IsNotBelow : Topology → ℕ → Level → Type 0
IsNotBelow plan element level = is_better (settings_of plan element).floor (Some level) ≡ false

-- nothing keeps an element from taking a level from an input: it is a nominated input of its own that says something, the
-- input isn't locked out, no other one is forced, and the level isn't below the floor. A manual switch keeps it from nothing,
-- since it ends where another level is better
pub record MayComeIn (plan : Topology) (signals : Signals) (out : Levels) (level : Level) (t element : ℕ) (input : InputId) : Type 0 where
  pub of : IsInputOf plan element input
  pub says : says_at signals input t ≡ true
  pub place : ℕ
  pub there : slice_get (inputs_of plan element) place ≡ Some input
  pub unlocked : is_locked (switches_in plan signals out element t) place ≡ false
  pub unforced : (switches_in plan signals out element t).forced ≡ None
  pub not_below : IsNotBelow plan element level

-- the level of a source reaches an element over a way: it is better than do-not-use, and nothing keeps it out anywhere on it
pub record Reaches (plan : Topology) (signals : Signals) (out : Levels) (t source : ℕ) (lines : List ℕ) (element : ℕ) : Type 0 where
  pub above : IsBetter (signals.source_level source t) (do_not_use_of (signals.source_level source t).option)
  pub way : IsReached plan (MayComeIn plan signals out (signals.source_level source t) t) source lines element

-- a level is no worse than another
abbrev pub IsNoWorse : Level → Level → Type 0
IsNoWorse one other = place_of one ≤ place_of other

-- an input is at rest: no time of it runs, and a line that is up is heard as it speaks
abbrev pub IsAtRest : Topology → Signals → Levels → ℕ → InputId → Type 0
IsAtRest plan signals out t (Line line) =
    IsSteady plan signals (line_input line.0) t
    × (signals.up (line_input line.0) t ≡ true → heard plan signals out line.0 t ≡ said_in (line_moment_at signals out line.0 t))
IsAtRest plan signals out t (Source source) = IsSteady plan signals (Source source) t

-- an input on a way is at rest, and so is each nominated line from which it goes back
abbrev pub IsRestingOn : Topology → Signals → Levels → ℕ → ℕ → InputId → Type 0
IsRestingOn plan signals out t element (Line line) =
    IsAtRest plan signals out t (line_input line.0)
    × ((taken : ℕ) → IsNominated plan taken → IsTrue (goes_back plan taken line.0) → IsAtRest plan signals out t (line_input taken))
IsRestingOn plan signals out t element (Source source) = IsAtRest plan signals out t (Source source)

-- a level is the best of those that reach an element: it is that of a source which reaches it, and none that does is better
pub record IsBestReaching (plan : Topology) (signals : Signals) (out : Levels) (t element : ℕ) (level : Level) : Type 0 where
  pub source : ℕ
  pub lines : List ℕ
  pub reaches : Reaches plan signals out t source lines element
  pub level_is : level ≡ signals.source_level source t
  pub best : (other : ℕ) (others : List ℕ) → Reaches plan signals out t other others element → IsNoWorse level (signals.source_level other t)

-- no element of the plan is under a forced switch
abbrev pub AreUnforced : Topology → Signals → Levels → ℕ → Type 0
AreUnforced plan signals out t =
    (element : ℕ) → element < length plan.elements → (switches_in plan signals out element t).forced ≡ None

-- the own clock of each element of the plan is worse than a level
abbrev pub AreOwnWorse : Topology → Level → Type 0
AreOwnWorse plan level = (element : ℕ) → element < length plan.elements → IsBetter level (own_level plan element)
