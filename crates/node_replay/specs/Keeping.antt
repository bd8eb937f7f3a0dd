-- What is kept of the element's inputs and of the lines out of it, and what the rows of a
-- millisecond make of it.
use Rattle.std.specs.Prelude.{ℕ, Option, None, Some, option_and_then}
use Rattle.sync_ql.specs.declared.levels.Level.{Level}
use Rattle.node_replay.specs.declared.inputs.LastLevel.{LastLevel}

-- a word that comes in a millisecond, or else the last one
abbrev pub word_or : Option (Option Level) → Option LastLevel → ℕ → Option LastLevel
word_or None last t = last
word_or (Some level) last t = Some (record { at = t; level = level })

abbrev pub said_in : Option LastLevel → Option Level
said_in last = option_and_then (λ word. word.level) last
