-- The source that an event names.
use Rattle.std.specs.Prelude.{ℕ, Bool, false, nat_eq, Option, None, Some}
use Rattle.sync_topo.specs.declared.event.Part.TheVariants as part
use Rattle.sync_topo.specs.declared.event.What.{What}
use Rattle.sync_topo.specs.declared.event.What.TheVariants.{Down, Up, SourceLevel}
use Rattle.sync_topo.specs.declared.event.Event.{Event}

-- a source goes down, comes up or gets a level by it
abbrev pub named_source : What → Option ℕ
named_source (Down (part.Source source)) = Some source
named_source (Up (part.Source source)) = Some source
named_source (SourceLevel source level) = Some source
named_source what = None

abbrev pub is_it : Option ℕ → ℕ → Bool
is_it None source = false
is_it (Some named) source = nat_eq source named

abbrev pub names_source : ℕ → Event → Bool
names_source source event = is_it (named_source event.what) source
