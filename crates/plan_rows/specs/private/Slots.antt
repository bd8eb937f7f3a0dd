-- Beside specs/Slots.antt, under no public clause: the slots of a table, all members put, and the entries in a slot.
use Rattle.std.specs.Prelude.{not, List, [], map, Option, option_and_then}
use Rattle.std.specs.Option.{option_map_or}
use Rattle.toml.specs.Data.{Data, Members, no_members, member, get_member, as_array}
use Rattle.plan_rows.specs.Format.{Key}
use Rattle.plan_rows.specs.Rules.{has_only, data_of}
use Rattle.plan_rows.specs.Slots.{Slots, put}

-- the slots of a table
abbrev pub slots_of : List Key → Members → Slots
slots_of keys fields = record { values = map (λ key. get_member key.name fields) keys; other = not (has_only keys fields) }

-- all members, put one after the other
abbrev pub taken : List Key → Slots → Members → Slots
taken keys slots no_members = slots
taken keys slots (member name value rest) = taken keys (put keys slots name value) rest

-- the entries of the array in a slot
abbrev pub entries_in : Option Data → List Data
entries_in slot = option_map_or data_of (option_and_then as_array slot) []
