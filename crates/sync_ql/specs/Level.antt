-- What is said of a level by its row. After G.781, quality level and SSM code; enhanced codes after G.8264.
use Rattle.std.specs.Prelude.{ℕ, ◌<◌, ◌-◌, ◌==◌, ◌&&◌, List, [], length, codes, Option, None, Some, position, option_and_then, slice_index_or}
use Rattle.std.specs.Option.{option_or}
use Rattle.std.specs.Str.{bytes_eq}
use Rattle.std.proofs.Common.{lit<}
use Rattle.std.proofs.Math.Decide.{dec_lt}
use Rattle.sync_ql.specs.declared.levels.NetOption.{NetOption}
use Rattle.sync_ql.specs.declared.levels.NetOption.TheVariants.{I, II}
use Rattle.sync_ql.specs.declared.levels.Level.{Level}
use Rattle.sync_ql.specs.Table.{Row, row, not_enhanced, levels_of}

-- the place of a level among the rows of its option, from 0
abbrev pub place_of : Level → ℕ
place_of level = level.place

-- the row at a place of an option's table
abbrev pub row_at : NetOption → ℕ → Row
row_at option place = slice_index_or (levels_of option) place (row [] 0 0)

-- the row of a level
abbrev pub row_of : Level → Row
row_of level = row_at level.option (place_of level)

-- the four-bit SSM code of a level
abbrev pub code_of : Level → ℕ
code_of level = (row_of level).code

-- the enhanced code of a level
abbrev pub enhanced_of : Level → ℕ
enhanced_of level = (row_of level).enhanced

-- the name of a level
abbrev pub name_of : Level → List ℕ
name_of level = (row_of level).name

-- the level at a place of an option's table, if the table goes so far
abbrev pub level_at : NetOption → ℕ → Option Level
level_at option place =
    elim (dec_lt place (length (levels_of option))) as (λ _. Option Level) [
      | yes within ↦ Some (record { option = option; place = place; is_row = within })
      | no beyond ↦ None
    ]

-- the place of the row with both codes, and that of the row with a name
abbrev pub place_of_codes : NetOption → ℕ → ℕ → Option ℕ
place_of_codes option code enhanced =
    position (λ row. row.code == code && row.enhanced == enhanced) (levels_of option)

abbrev pub place_of_name : NetOption → List ℕ → Option ℕ
place_of_name option name = position (λ row. bytes_eq row.name name) (levels_of option)

-- the level with both codes
abbrev pub level_with_both : NetOption → ℕ → ℕ → Option Level
level_with_both option code enhanced =
    option_and_then (level_at option) (place_of_codes option code enhanced)

-- the level that a code names alone
abbrev pub level_of_code : NetOption → ℕ → Option Level
level_of_code option code = level_with_both option code not_enhanced

-- the level that a code names beside an enhanced one, or alone: that with both codes, and else
-- that of the code alone
abbrev pub level_of_codes : NetOption → ℕ → Option ℕ → Option Level
level_of_codes option code None = level_of_code option code
level_of_codes option code (Some enhanced) =
    option_or (level_with_both option code enhanced) (level_of_code option code)

-- the level with a name
abbrev pub level_of_name : NetOption → List ℕ → Option Level
level_of_name option name = option_and_then (level_at option) (place_of_name option name)

-- the level that a clock sends where its signal must not be used: the last of the table
abbrev pub do_not_use_of : NetOption → Level
do_not_use_of I = record { option = I; place = length (levels_of I) - 1; is_row = lit< tt }
do_not_use_of II = record { option = II; place = length (levels_of II) - 1; is_row = lit< tt }

-- its name in each option
abbrev pub do_not_use_name : NetOption → List ℕ
do_not_use_name I = codes "QL-DNU"
do_not_use_name II = codes "QL-DUS"

-- a level is better than another of its option where it stands earlier in the table
abbrev pub IsBetter : Level → Level → Type 0
IsBetter a b = place_of a < place_of b
