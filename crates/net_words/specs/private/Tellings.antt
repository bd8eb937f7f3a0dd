-- Beside specs/Tellings.antt, under no public clause: the lists of what elements are told, and which elements are told
-- something.
use Rattle.std.specs.Prelude.{◌≡◌, ℕ, ◌||◌, List, ◌++◌, length}
use Rattle.sync_ql.specs.declared.rules.InputEvent.{InputEvent}
use Rattle.net_words.specs.declared.tellings.Tellings.{Tellings}
use Rattle.net_words.specs.Tellings.{told_to, is_active, is_something}

-- the words that are left make of what is told now what all the words make of what was told before
pub record AreToldSoFar (all left : ℕ → List InputEvent) (before now : Tellings) : Type 0 where
  pub count : length now.changes.items ≡ length before.changes.items
  pub flags_count : length now.active.flags ≡ length before.active.flags
  pub list : (element : ℕ) → told_to now element ++ left element ≡ told_to before element ++ all element
  pub flag : (element : ℕ) → (is_active now element || is_something (left element)) ≡ (is_active before element || is_something (all element))
