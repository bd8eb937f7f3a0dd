-- The lists of what elements are told, and which elements are told
-- something.
use Rattle.std.specs.Prelude.{◌≡◌, ℕ, Bool, true, false, ◌||◌, List, [], ◌∷◌, ◌++◌, length, slice_index_or}
use Rattle.sync_ql.specs.declared.rules.InputEvent.{InputEvent}
use Rattle.net_words.specs.declared.tellings.Tellings.{Tellings}

-- what an element is told, and whether it is told something
abbrev pub told_to : Tellings → ℕ → List InputEvent
told_to tellings element = slice_index_or tellings.changes.items element []

abbrev pub is_active : Tellings → ℕ → Bool
is_active tellings element = slice_index_or tellings.active.flags element false

abbrev pub is_something : List InputEvent → Bool
is_something [] = false
is_something (event ∷ events) = true

-- each element is told these words more, and is active where there are some
pub record AreTold (words : ℕ → List InputEvent) (before now : Tellings) : Type 0 where
  pub count : length now.changes.items ≡ length before.changes.items
  pub flags_count : length now.active.flags ≡ length before.active.flags
  pub list : (element : ℕ) → told_to now element ≡ told_to before element ++ words element
  pub flag : (element : ℕ) → is_active now element ≡ (is_active before element || is_something (words element))
