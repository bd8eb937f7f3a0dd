-- The level by which a signal must not be used.
use Rattle.std.proofs.Common.{◌≡◌, refl}
use Rattle.sync_ql.specs.declared.levels.NetOption.{NetOption}
use Rattle.sync_ql.specs.declared.levels.NetOption.TheVariants.{I, II}
use Rattle.sync_ql.specs.Level.{do_not_use_of}

-- do-not-use of an option is of that option
pub do_not_use-option : (option : NetOption) → (do_not_use_of option).option ≡ option
do_not_use-option I = refl
do_not_use-option II = refl
