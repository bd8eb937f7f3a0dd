-- What an element has to do with the milliseconds that were.
use Rattle.std.specs.Prelude.{◌≡◌, ◌<◌, ℕ, List, length}
use Rattle.sync_ql.specs.Moment.{Moment, Settings, signals_of, switches_at, selection_at}
use Rattle.sync_ql.specs.Told.{last_level}
use Rattle.sync_ql.specs.Output.{was_locked}
use Rattle.sync_element.specs.Kept.{Kept, watched_in, Follows}
use Rattle.sync_element.specs.ElementState.{ElementState}

-- Private: what is kept of the inputs is what the rules say of a past
pub record IsOfPast (settings : Settings) (kept : Kept) (past : List Moment) : Type 0 where
  pub monitors : (i : ℕ) → i < length settings.priorities → Follows (watched_in kept.inputs.watched i).monitor (signals_of i past)
  pub levels : (i : ℕ) → i < length settings.priorities → (watched_in kept.inputs.watched i).level ≡ last_level settings i past
  pub switches : kept.switches ≡ switches_at settings past
  pub selection : kept.selection ≡ selection_at settings past
  pub was_locked : kept.was_locked ≡ was_locked settings past

-- Private: the element has come to the end of a past, and all that it keeps is of that past
pub record IsAfter (e : ElementState) (past : List Moment) : Type 0 where
  pub next : e.next ≡ length past
  pub kept : IsOfPast e.settings e.kept past

-- the element stands for a past. What that says of what it keeps is known to this crate alone: others
-- take it from one call to the next, and never look into it
unfoldable pub StandsFor : ElementState → List Moment → Type 0
StandsFor e past = IsAfter e past
