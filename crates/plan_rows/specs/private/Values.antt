-- Beside specs/Values.antt, under no public clause: the slots of a version, what the head says, and the rows of entries.
use Rattle.std.specs.Prelude.{ℕ, ◌+◌, ◌||◌, List, [], ◌∷◌, ◌++◌, map, take, Option, None, is_some, Result, Ok, Err}
use Rattle.toml.specs.Data.{Data, table, Members}
use Rattle.toml.specs.View.{view}
use Rattle.sync_ql.specs.declared.levels.NetOption.{NetOption}
use Rattle.sync_topo.specs.declared.place.Place.{Place}
use Rattle.sync_topo.specs.declared.place.Section.{Section}
use Rattle.sync_topo.specs.declared.place.Section.TheVariants.{Head}
use Rattle.sync_text.specs.Chain.{◌>>=◌}
use Rattle.plan_rows.specs.declared.error.PlanFileErr.{PlanFileErr}
use Rattle.plan_rows.specs.declared.error.PlanFileErr.TheVariants.{Kind as WrongKind}
use Rattle.plan_rows.specs.declared.head.Head.{Head as HeadOf}
use Rattle.plan_rows.specs.declared.version.Version.{Version}
use Rattle.plan_rows.specs.declared.version.Version.TheVariants.{One, Two}
use Rattle.plan_rows.specs.Format.{keys_of}
use Rattle.plan_rows.specs.private.Rows.{row_at}
use Rattle.plan_rows.specs.Slots.{Slots, said_by, slot_at}
use Rattle.plan_rows.specs.private.Slots.{slots_of, entries_in}
use Rattle.plan_rows.specs.Values.{version_in, option_in}

-- a link's slots, where the bundle's is of an unknown key
abbrev pub without_bundle : Slots → Slots
without_bundle slots = record {
  values = take 7 slots.values ++ None ∷ [];
  other = slots.other || is_some (slot_at 7 slots.values);
}

abbrev pub of_version : Version → Slots → Slots
of_version One slots = without_bundle slots
of_version Two slots = slots

-- what the head of a document says
pub record HeadSaid : Type 0 where
  pub version : Version
  pub option : NetOption
  pub elements : List Data
  pub links : List Data
  pub sources : List Data

abbrev pub head_seen : HeadOf → HeadSaid
head_seen head = record {
  version = head.version;
  option = head.option;
  elements = map view head.elements.items;
  links = map view head.links.items;
  sources = map view head.sources.items;
}

abbrev pub head_said : List (Option Data) → HeadSaid
head_said slots = record {
  version = version_in (slot_at 0 slots);
  option = option_in (slot_at 1 slots);
  elements = entries_in (slot_at 2 slots);
  links = entries_in (slot_at 3 slots);
  sources = entries_in (slot_at 4 slots);
}

-- the head of a document, or the rule that it breaks
abbrev pub head_in : Members → Result HeadSaid PlanFileErr
head_in document = said_by (record { section = Head; row = 0 }) (keys_of Two Head) head_said (slots_of (keys_of Two Head) document)

-- the table that an entry is
abbrev pub table_in : Place → Data → Result Members PlanFileErr
table_in place (table fields) = Ok fields
table_in place value = Err (WrongKind place)

-- the rows of entries, one after the other
abbrev pub rows_from : {A : Type 0} → Version → (Data → A) → Section → ℕ → List Data → Result (List A) PlanFileErr
rows_from version row section n [] = Ok []
rows_from version row section n (entry ∷ entries) = do
  first ← row_at version row section n entry
  rest ← rows_from version row section (n + 1) entries
  Ok (first ∷ rest)
