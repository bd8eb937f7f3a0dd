-- What a network keeps of what comes to its lines and sources from outside,
-- and of what is heard. No clause elsewhere looks into it.
use Rattle.std.specs.Prelude.{ℕ, true, List, slice_index_or, Option, None}
use Rattle.sync_ql.specs.declared.levels.NetOption.TheVariants.{I}
use Rattle.sync_ql.specs.declared.levels.Level.{Level}
use Rattle.sync_ql.specs.Level.{do_not_use_of}
use Rattle.sync_net.specs.declared.signals.LineSignal.{LineSignal}
use Rattle.sync_net.specs.declared.signals.SourceSignal.{SourceSignal}

-- of each line, by number, whether it is up and its ESMC is on; of each source whether it is up,
-- the level that was said last, and the level that it has; and of each line the level that is heard
pub record Kept : Type 0 where
  pub lines : List LineSignal
  pub sources : List SourceSignal
  pub heards : List (Option Level)

-- the line of a number; beyond the list one of which nothing was told
abbrev pub line_signal : Kept → ℕ → LineSignal
line_signal kept line = slice_index_or kept.lines line (record { up = true; esmc = true })

-- the source of a number; beyond the list one with any level
abbrev pub no_source : SourceSignal
no_source = record { up = true; said = do_not_use_of I; level = do_not_use_of I }

abbrev pub source_signal : Kept → ℕ → SourceSignal
source_signal kept source = slice_index_or kept.sources source no_source

abbrev pub heard_on : Kept → ℕ → Option Level
heard_on kept line = slice_index_or kept.heards line None
