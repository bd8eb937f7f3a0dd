-- What is the same by its parts, and what is the same as itself.
use Rattle.std.proofs.Common.{◌≡◌, Bool, true, List, Option, None, Some, refl}
use Rattle.std.proofs.lemmas.Bool.{eq-eqb}
use Rattle.sync_ql.specs.declared.levels.Level.{Level}
use Rattle.sync_ql.specs.declared.levels.NetOption.{NetOption}
use Rattle.sync_ql.specs.declared.levels.NetOption.TheVariants.{I, II}
use Rattle.sync_ql.specs.declared.rules.Cmd.{Cmd}
use Rattle.sync_ql.specs.Messages.{LineMoment, is_same_option, is_same_level}
use Rattle.sync_ql.specs.Moment.{InputMoment, Moment}

-- a line in a millisecond
pub line_moment : (up up_then esmc esmc_then : Bool) (level level_then : Level) → up ≡ up_then → esmc ≡ esmc_then → level ≡ level_then
    → ◌≡◌ {A = LineMoment} (record { up = up; esmc = esmc; level = Some level }) (record { up = up_then; esmc = esmc_then; level = Some level_then })
line_moment up up_then esmc esmc_then level level_then a b c = rw (a, b, c) refl

-- an input in a millisecond
pub input_moment : (up up_then clear clear_then : Bool) (level level_then : Option Level) → up ≡ up_then → clear ≡ clear_then → level ≡ level_then
    → ◌≡◌ {A = InputMoment} (record { signal = record { up = up; clear = clear }; level = level }) (record { signal = record { up = up_then; clear = clear_then }; level = level_then })
input_moment up up_then clear clear_then level level_then a b c = rw (a, b, c) refl

-- an element in a millisecond
pub moment : (inputs inputs_then : List InputMoment) (commands commands_then : List Cmd) → inputs ≡ inputs_then → commands ≡ commands_then
    → ◌≡◌ {A = Moment} (record { inputs = inputs; commands = commands }) (record { inputs = inputs_then; commands = commands_then })
moment inputs inputs_then commands commands_then a b = rw (a, b) refl

-- an option is the same as itself
pub same_option : (a : NetOption) → is_same_option a a ≡ true
same_option I = refl
same_option II = refl

-- a level is the same as itself, and so is none
pub same_level : (a : Option Level) → is_same_level a a ≡ true
same_level None = refl
same_level (Some a) = rw (same_option a.option, eq-eqb a.place a.place refl) refl
