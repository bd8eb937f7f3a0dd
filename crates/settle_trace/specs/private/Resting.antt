-- Private to this crate: when one element and one line are settled.
use Rattle.std.specs.Prelude.{◌≡◌, ℕ, Bool, true, false, ◌&&◌, List, [], ◌∷◌, Option, None, Some, is_none, IsSome}
use Rattle.std.specs.List.{list_all}
use Rattle.sync_text.specs.Each.{Each}
use Rattle.sync_ql.specs.declared.levels.Level.{Level}
use Rattle.sync_ql.specs.Messages.{Message, is_same_level}
use Rattle.sync_topo.specs.Topology.{Topology}
use Rattle.sync_topo.specs.Lines.{line_input, inputs_of}
use Rattle.net_rules.specs.Signals.{Signals, speaks_at}
use Rattle.net_rules.specs.History.{Levels, heard}
use Rattle.net_rules.specs.Settled.{is_news_at, IsOnWay, IsSteady}

-- a level is heard, and each message has it
abbrev pub hears_all : Option Level → List Message → Bool
hears_all None messages = false
hears_all (Some level) messages = list_all (λ message. is_same_level (Some message.level) (Some level)) messages

abbrev pub is_empty : List Message → Bool
is_empty [] = true
is_empty (message ∷ messages) = false

-- nothing changes on a line by itself: it is down; or it speaks, and each message on its way has the
-- level that is heard; or it doesn't, nothing is heard, and nothing is on its way
abbrev pub at_rest : Bool → Bool → Option Level → List Message → Bool
at_rest false speaks level messages = true
at_rest true true level messages = hears_all level messages
at_rest true false level messages = is_none level && is_empty messages

-- what a settled millisecond asks of one line
pub record IsLineSettled (plan : Topology) (signals : Signals) (out : Levels) (t line : ℕ) : Type 0 where
  pub carried : signals.up (line_input line) t ≡ true →
      (from : ℕ) → is_news_at signals out line from ≡ true → IsOnWay plan signals line from t →
      heard plan signals out line t ≡ Some (out line from)
  pub spoken : speaks_at signals line t ≡ true → IsSome (heard plan signals out line t)
  pub silent : signals.up (line_input line) t ≡ true → signals.esmc line t ≡ false →
      heard plan signals out line t ≡ None
  pub nothing_on_way : signals.up (line_input line) t ≡ true → signals.esmc line t ≡ false →
      (from : ℕ) → is_news_at signals out line from ≡ true → ¬ IsOnWay plan signals line from t

-- and of the inputs of one element
abbrev pub AreSteady : Topology → Signals → ℕ → ℕ → Type 0
AreSteady plan signals t element = Each (λ input. IsSteady plan signals input t) (inputs_of plan element)
