-- Whether priorities agree with the ways of timing, and from when on a network then is at rest, although links are nominated at
-- both ends. After G.781, selection and do-not-use; agreement is this project's own. Routing between domains knows such a
-- condition, stable paths without a dispute wheel.
use Rattle.std.specs.Prelude.{◌≡◌, ◌<◌, ◌≤◌, ℕ, ◌+◌, ◌*◌, List, length, None}
use Rattle.sync_ql.specs.Level.{place_of}
use Rattle.sync_ql.specs.Table.{levels_of}
use Rattle.sync_topo.specs.Topology.{Topology}
use Rattle.sync_topo.specs.declared.event.Event.{Event}
use Rattle.sync_topo.specs.Events.{IsEventList}
use Rattle.sync_topo.specs.Lines.{IsNominated}
use Rattle.sync_topo.specs.Hops.{bears_on}
use Rattle.sync_topo.specs.Ranks.{Rises, IsLeastRank}
use Rattle.net_rules.specs.Signals.{Signals, signals_by}
use Rattle.net_rules.specs.Settings.{own_level}
use Rattle.net_rules.specs.History.{Levels, taken_at, level_at, out_at}
use Rattle.net_rules.specs.Settled.{IsSettled}
use Rattle.net_rules.specs.Settling.{NoneAfter, IsGreatest, IsDelay, IsRankOver, IsWait}
use Rattle.reach_rules.specs.Reaching.{switches_in, Reaches, AreOwnWorse, IsBestReaching}

-- numbers of lines rise over what bears on what. A plan agrees where there are such numbers
abbrev pub IsAgreeing : Topology → (ℕ → ℕ) → Type 0
IsAgreeing plan rank = Rises (bears_on plan) rank

-- a row of the table of levels is better than the own clock of every element
abbrev pub IsHigh : Topology → ℕ → Type 0
IsHigh plan place = (element : ℕ) → element < length plan.elements → place < place_of (own_level plan element)

-- so many rows are: those before this one
pub record IsHighCount (plan : Topology) (count : ℕ) : Type 0 where
  pub high : (place : ℕ) → place < count → IsHigh plan place
  pub all : (place : ℕ) → place < length (levels_of plan.option) → IsHigh plan place → place < count
  pub within : count ≤ length (levels_of plan.option)

-- for how long after the last event the network may change, by the longest wait, the number of high levels, the greatest least
-- rank and the greatest delay
abbrev pub agreed_in : ℕ → ℕ → ℕ → ℕ → ℕ
agreed_in wait high rank delay = wait + (high + 1) * ((rank + 1) * delay) + delay

-- the bound of a plan: it exists where each nominated line has a least rank over what bears on what, as it has where no lines
-- bear on one another in a circle
pub record IsAgreedBound (plan : Topology) (bound : ℕ) : Type 0 where
  pub ranked : (line : ℕ) → IsNominated plan line → (rank : ℕ) × IsLeastRank (bears_on plan) line rank
  pub delay : ℕ
  pub greatest_delay : IsGreatest (IsDelay plan) delay
  pub rank : ℕ
  pub greatest_rank : IsGreatest (IsRankOver (bears_on plan) plan) rank
  pub wait : ℕ
  pub greatest_wait : IsGreatest (IsWait plan delay) wait
  pub high : ℕ
  pub are_high : IsHighCount plan high
  pub is : bound ≡ agreed_in wait high rank delay

-- no element of the plan is under a forced or a manual switch
pub record IsAuto (plan : Topology) (signals : Signals) (out : Levels) (t element : ℕ) : Type 0 where
  pub unforced : (switches_in plan signals out element t).forced ≡ None
  pub unswitched : (switches_in plan signals out element t).manual ≡ None

abbrev pub AreAuto : Topology → Signals → Levels → ℕ → Type 0
AreAuto plan signals out t = (element : ℕ) → element < length plan.elements → IsAuto plan signals out t element

-- the level of a source that is better than every own clock reaches an element
pub record IsTimed (plan : Topology) (signals : Signals) (out : Levels) (t element : ℕ) : Type 0 where
  pub source : ℕ
  pub lines : List ℕ
  pub reaches : Reaches plan signals out t source lines element
  pub worse : AreOwnWorse plan (signals.source_level source t)

abbrev pub AreTimed : Topology → Signals → Levels → ℕ → Type 0
AreTimed plan signals out t = (element : ℕ) → element < length plan.elements → IsTimed plan signals out t element

-- an element takes the same and has the same level in both milliseconds
pub record IsSteadyAt (plan : Topology) (signals : Signals) (out : Levels) (t u element : ℕ) : Type 0 where
  pub taken : taken_at plan signals out element u ≡ taken_at plan signals out element t
  pub level : level_at plan signals out element u ≡ level_at plan signals out element t

-- for so long after the last event of any list by which no element is then under a forced or a manual switch, the network may
-- change: from then on an element that is timed is steady; and where every element is timed, each millisecond is settled, and each
-- element has exactly the best of the levels that reach it
pub record IsAtRestFrom (plan : Topology) (events : List Event) (last from : ℕ) : Type 0 where
  pub steady : (element t : ℕ) → IsTimed plan (signals_by plan events) (out_at plan (signals_by plan events)) last element → from ≤ t
      → IsSteadyAt plan (signals_by plan events) (out_at plan (signals_by plan events)) from t element
  pub settled : AreTimed plan (signals_by plan events) (out_at plan (signals_by plan events)) last → (t : ℕ) → from ≤ t
      → IsSettled plan (signals_by plan events) (out_at plan (signals_by plan events)) t
  pub best : AreTimed plan (signals_by plan events) (out_at plan (signals_by plan events)) last → (t : ℕ) → from ≤ t
      → (element : ℕ) → element < length plan.elements
      → IsBestReaching plan (signals_by plan events) (out_at plan (signals_by plan events)) t element
      (level_at plan (signals_by plan events) (out_at plan (signals_by plan events)) element t)

abbrev pub ComesToRest : Topology → ℕ → Type 0
ComesToRest plan bound =
    (events : List Event) → IsEventList plan events → (last : ℕ) → NoneAfter events last
    → AreAuto plan (signals_by plan events) (out_at plan (signals_by plan events)) last → IsAtRestFrom plan events last (last + bound)
