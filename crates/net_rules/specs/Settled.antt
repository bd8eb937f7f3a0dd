-- When a millisecond is settled: nothing is on its way that would still change anything.
-- This project's own.
use Rattle.std.specs.Prelude.{◌≡◌, ◌<◌, ◌≤◌, ℕ, ◌+◌, suc, Bool, true, false, not, None, Some, IsTrue, IsSome}
use Rattle.sync_ql.specs.Pasts.{past_of}
use Rattle.sync_ql.specs.Messages.{is_sent, is_news}
use Rattle.sync_topo.specs.declared.input.InputId.{InputId}
use Rattle.sync_topo.specs.Topology.{Topology}
use Rattle.sync_topo.specs.Lines.{line_input, delay_of, IsInput, IsNominated, is_nominated_input}
use Rattle.net_rules.specs.Signals.{Signals, speaks_at}
use Rattle.net_rules.specs.History.{Levels, line_moment_at, heard, failed_by}

-- a message goes out on a line in a millisecond, and it is news
abbrev pub is_sent_at : Signals → Levels → ℕ → ℕ → Bool
is_sent_at signals out line t = is_sent (past_of (line_moment_at signals out line) (suc t))

abbrev pub is_news_at : Signals → Levels → ℕ → ℕ → Bool
is_news_at signals out line t = is_news (past_of (line_moment_at signals out line) (suc t))

-- what went out on a line in one millisecond is still on its way in another: the delay is not over, and
-- the line was up ever since
pub record IsOnWay (plan : Topology) (signals : Signals) (line from now : ℕ) : Type 0 where
  pub begun : from ≤ now
  pub recent : now < from + delay_of plan line
  pub up : (t : ℕ) → from ≤ t → t ≤ now → signals.up (line_input line) t ≡ true

-- no time of an input runs: it is up and not failed, or down and failed. Its condition is good or failed
abbrev pub IsSteady : Topology → Signals → InputId → ℕ → Type 0
IsSteady plan signals input t = failed_by plan signals input t ≡ not (signals.up input t)

-- a millisecond is settled by some of the messages, of which `counts` says which are looked at
pub record IsSettledBy (counts : ℕ → ℕ → Bool) (plan : Topology) (signals : Signals) (out : Levels) (t : ℕ) : Type 0 where
  -- no time of a nominated input runs
  pub steady : (input : InputId) → IsInput plan input → IsTrue (is_nominated_input plan input) →
      IsSteady plan signals input t
  -- on a nominated line that is up, each message on its way has the level that is heard
  pub carried : (line : ℕ) → IsNominated plan line → signals.up (line_input line) t ≡ true →
      (from : ℕ) → counts line from ≡ true → IsOnWay plan signals line from t →
      heard plan signals out line t ≡ Some (out line from)
  -- a nominated line that speaks is heard
  pub spoken : (line : ℕ) → IsNominated plan line → speaks_at signals line t ≡ true →
      IsSome (heard plan signals out line t)
  -- a nominated line that is up and doesn't speak is not heard, and nothing is on its way on it
  pub silent : (line : ℕ) → IsNominated plan line → signals.up (line_input line) t ≡ true →
      signals.esmc line t ≡ false → heard plan signals out line t ≡ None
  pub nothing_on_way : (line : ℕ) → IsNominated plan line → signals.up (line_input line) t ≡ true →
      signals.esmc line t ≡ false → (from : ℕ) → counts line from ≡ true → ¬ IsOnWay plan signals line from t

-- settled: by all messages; and by those alone that are news, which comes to the same
abbrev pub IsSettled : Topology → Signals → Levels → ℕ → Type 0
IsSettled plan signals out t = IsSettledBy (is_sent_at signals out) plan signals out t

abbrev pub IsSettledByNews : Topology → Signals → Levels → ℕ → Type 0
IsSettledByNews plan signals out t = IsSettledBy (is_news_at signals out) plan signals out t
