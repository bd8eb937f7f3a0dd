-- What the events before a millisecond say.
use Rattle.std.specs.Prelude.{ℕ, Bool, true, List, unwrap_or}
use Rattle.sync_ql.specs.declared.levels.Level.{Level}
use Rattle.sync_topo.specs.declared.input.InputId.{InputId}
use Rattle.sync_topo.specs.declared.event.Event.{Event}
use Rattle.sync_topo.specs.Topology.{Topology}
use Rattle.net_rules.specs.Signals.{events_before, last_word, says_up, says_esmc, says_level, planned_level}

-- an input is up, a line's ESMC is on, and a source was said to have a level, as the events before
-- a millisecond have it
abbrev pub up_before : List Event → InputId → ℕ → Bool
up_before events input n = unwrap_or (last_word (says_up input) (events_before n events)) true

abbrev pub esmc_before : List Event → ℕ → ℕ → Bool
esmc_before events line n = unwrap_or (last_word (says_esmc line) (events_before n events)) true

abbrev pub said_before : Topology → List Event → ℕ → ℕ → Level
said_before plan events source n =
    unwrap_or (last_word (says_level source) (events_before n events)) (planned_level plan source)
