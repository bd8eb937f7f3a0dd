-- Whether some message of a list has a level.
use Rattle.std.specs.Prelude.{◌≡◌, ◌⊎◌, List, [], ◌∷◌}
use Rattle.sync_ql.specs.declared.levels.Level.{Level}
use Rattle.sync_ql.specs.Messages.{Message}

abbrev pub HasLevel : Level → List Message → Type 0
HasLevel level [] = ⊥
HasLevel level (message ∷ messages) = (message.level ≡ level) ⊎ HasLevel level messages
