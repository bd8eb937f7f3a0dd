-- Where an input stands.
use Rattle.std.specs.Prelude.{ℕ, nat_eq, if◌then◌else◌, Option, None, Some}
use Rattle.net_words.specs.declared.places.InputPlace.{InputPlace}

-- its place among the inputs of an element: it has one among those of its own alone
abbrev pub place_in : Option InputPlace → ℕ → Option ℕ
place_in None element = None
place_in (Some there) element = if nat_eq there.element element then Some there.place else None
