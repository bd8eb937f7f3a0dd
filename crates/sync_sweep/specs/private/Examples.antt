-- Cases that can be told by hand.
use Rattle.std.specs.Prelude.{◌≡◌, ℕ, List, [], ◌∷◌, refl}
use native.Mathlib.Decide.{dec_lt}
use Rattle.sync_topo.specs.declared.event.Event.{Event}
use Rattle.sync_topo.specs.declared.event.What.TheVariants.{Down}
use Rattle.sync_topo.specs.declared.event.Part.TheVariants as part
use Rattle.sync_sweep.specs.Cases.{merged, after_earlier}

-- a link goes down
abbrev down : ℕ → ℕ → Event
down at link = record { at = at; what = Down (part.Link link) }

-- in one millisecond the common events come first
of_two_lists : merged (down 10 0 ∷ down 20 1 ∷ []) (down 5 2 ∷ down 10 3 ∷ down 15 4 ∷ down 25 5 ∷ [])
    ≡ down 5 2 ∷ down 10 0 ∷ down 10 3 ∷ down 15 4 ∷ down 20 1 ∷ down 25 5 ∷ []
unfolding merged after_earlier dec_lt
of_two_lists = refl
