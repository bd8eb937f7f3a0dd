-- What the tables of each section have, and the rows that they say.
use Rattle.std.specs.Prelude.{List, [], ◌∷◌, Option, option_and_then, unwrap_or}
use Rattle.toml.specs.Data.{Data}
use Rattle.sync_ql.specs.declared.levels.NetOption.{NetOption}
use Rattle.sync_ql.specs.declared.levels.NetOption.TheVariants.{I}
use Rattle.sync_topo.specs.declared.rows.ElementRow.{ElementRow}
use Rattle.sync_topo.specs.declared.rows.LinkRow.{LinkRow}
use Rattle.sync_topo.specs.declared.rows.SourceRow.{SourceRow}
use Rattle.plan_rows.specs.declared.values.HeadValues.{HeadValues}
use Rattle.plan_rows.specs.declared.values.ElementValues.{ElementValues}
use Rattle.plan_rows.specs.declared.values.LinkValues.{LinkValues}
use Rattle.plan_rows.specs.declared.values.SourceValues.{SourceValues}
use Rattle.plan_rows.specs.declared.version.Version.{Version}
use Rattle.plan_rows.specs.declared.version.Version.TheVariants.{One}
use Rattle.plan_rows.specs.Format.{version_said, option_of}
use Rattle.plan_rows.specs.Slots.{Slots, seen, slot_at, text_in, integer_in, name_in}

-- the slots of each section, in the order of its keys
abbrev pub head_slots : HeadValues → Slots
head_slots values = record {
  values = seen values.version ∷ seen values.option ∷ seen values.elements ∷ seen values.links ∷ seen values.sources ∷ [];
  other = values.other;
}

abbrev pub element_slots : ElementValues → Slots
element_slots values = record {
  values = seen values.name ∷ seen values.own ∷ seen values.floor ∷ seen values.holdoff ∷ seen values.wtr ∷ [];
  other = values.other;
}

abbrev pub link_slots : LinkValues → Slots
link_slots values = record {
  values =
      seen values.name
      ∷ seen values.a
      ∷ seen values.b
      ∷ seen values.priority_a
      ∷ seen values.priority_b
      ∷ seen values.delay_a
      ∷ seen values.delay_b
      ∷ seen values.bundle
      ∷ [];
  other = values.other;
}

abbrev pub source_slots : SourceValues → Slots
source_slots values = record {
  values = seen values.name ∷ seen values.at ∷ seen values.level ∷ seen values.priority ∷ [];
  other = values.other;
}

-- the row that slots say
abbrev pub element_said : List (Option Data) → ElementRow
element_said slots = record {
  name = name_in (slot_at 0 slots);
  own = text_in (slot_at 1 slots);
  floor = text_in (slot_at 2 slots);
  holdoff = integer_in (slot_at 3 slots);
  wtr = integer_in (slot_at 4 slots);
}

abbrev pub link_said : List (Option Data) → LinkRow
link_said slots = record {
  name = name_in (slot_at 0 slots);
  a = name_in (slot_at 1 slots);
  b = name_in (slot_at 2 slots);
  priority_a = integer_in (slot_at 3 slots);
  priority_b = integer_in (slot_at 4 slots);
  delay_a = integer_in (slot_at 5 slots);
  delay_b = integer_in (slot_at 6 slots);
  bundle = text_in (slot_at 7 slots);
}

abbrev pub source_said : List (Option Data) → SourceRow
source_said slots = record {
  name = name_in (slot_at 0 slots);
  at = name_in (slot_at 1 slots);
  level = name_in (slot_at 2 slots);
  priority = integer_in (slot_at 3 slots);
}

-- the version in a slot, the first where it has none, and the option, I where it has none
abbrev pub version_in : Option Data → Version
version_in slot = unwrap_or (option_and_then version_said slot) One

abbrev pub option_in : Option Data → NetOption
option_in slot = unwrap_or (option_and_then option_of (text_in slot)) I
