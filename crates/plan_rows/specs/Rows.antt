-- The rows that a document says.
use Rattle.std.specs.Prelude.{◌≡◌, ℕ, ◌+◌, ℤ, List, [], ◌∷◌, map, codes, Option, Some, None, slice_get, unwrap_or, option_and_then, Result}
use Rattle.std.specs.Option.{option_or}
use Rattle.toml.specs.Data.{Data, table, Members, get, as_str, as_integer}
use Rattle.sync_ql.specs.declared.levels.NetOption.{NetOption}
use Rattle.sync_ql.specs.declared.levels.NetOption.TheVariants.{I}
use Rattle.sync_topo.specs.declared.rows.ElementRow.{ElementRow}
use Rattle.sync_topo.specs.declared.rows.LinkRow.{LinkRow}
use Rattle.sync_topo.specs.declared.rows.SourceRow.{SourceRow}
use Rattle.sync_topo.specs.declared.rows.PlanRows.{PlanRows}
use Rattle.sync_topo.specs.declared.place.Section.{Section}
use Rattle.sync_topo.specs.declared.place.Section.TheVariants.{Head, Elements, Links, Sources}
use Rattle.plan_rows.specs.declared.error.PlanFileErr.{PlanFileErr}
use Rattle.plan_rows.specs.declared.version.Version.{Version}
use Rattle.plan_rows.specs.declared.version.Version.TheVariants.{One, Two}
use Rattle.sync_text.specs.Chain.{unless}
use Rattle.plan_rows.specs.Format.{option_of, version_of}
use Rattle.plan_rows.specs.Rules.{entries_of, refusal_of}

-- the text, and the integer, at a key of an entry, if it has one there
abbrev pub text_at : List ℕ → Data → Option (List ℕ)
text_at key entry = option_and_then as_str (get key entry)

abbrev pub integer_at : List ℕ → Data → Option ℤ
integer_at key entry = option_and_then as_integer (get key entry)

-- the text at a key that an entry must have
abbrev pub name_at : List ℕ → Data → List ℕ
name_at key entry = unwrap_or (text_at key entry) []

-- the row of an entry of each section
unfoldable pub element_row : Data → ElementRow
element_row entry = record {
  name = name_at (codes "name") entry;
  own = text_at (codes "own") entry;
  floor = text_at (codes "floor") entry;
  holdoff = integer_at (codes "holdoff") entry;
  wtr = integer_at (codes "wtr") entry;
}

-- the bundle that the entry of a link names
abbrev pub bundle_at : Version → Data → Option (List ℕ)
bundle_at One entry = None
bundle_at Two entry = text_at (codes "bundle") entry

unfoldable pub link_row : Version → Data → LinkRow
link_row version entry = record {
  name = name_at (codes "name") entry;
  a = name_at (codes "a") entry;
  b = name_at (codes "b") entry;
  priority_a = integer_at (codes "priority_a") entry;
  priority_b = integer_at (codes "priority_b") entry;
  delay_a = integer_at (codes "delay_a") entry;
  delay_b = integer_at (codes "delay_b") entry;
  bundle = bundle_at version entry;
}

unfoldable pub source_row : Data → SourceRow
source_row entry = record {
  name = name_at (codes "name") entry;
  at = name_at (codes "at") entry;
  level = name_at (codes "level") entry;
  priority = integer_at (codes "priority") entry;
}

-- the network option of a document, I where it gives none
abbrev pub network_option : Members → NetOption
network_option document = unwrap_or (option_and_then option_of (text_at (codes "option") (table document))) I

-- the rows of a document that keeps the rules of this version
abbrev pub rows_said_in : Version → Members → PlanRows
rows_said_in version document = record {
  option = network_option document;
  elements = map element_row (entries_of Elements document);
  links = map (link_row version) (entries_of Links document);
  sources = map source_row (entries_of Sources document);
}

abbrev pub said_rows : Members → PlanRows
said_rows document = rows_said_in (version_of document) document

-- the first refusal of the entries of a section, the first of them at row n
abbrev pub first_from : Version → Section → ℕ → List Data → Option PlanFileErr
first_from version section n [] = None
first_from version section n (entry ∷ entries) =
    option_or (refusal_of version (record { section = section; row = n }) entry) (first_from version section (n + 1) entries)

-- the first refusal of a section, and of a document: of its head, then of each section in order
abbrev pub first_in : Version → Members → Section → Option PlanFileErr
first_in version document section = first_from version section 1 (entries_of section document)

abbrev pub first_refusal_in : Version → Members → Option PlanFileErr
first_refusal_in version document =
    option_or (refusal_of version (record { section = Head; row = 0 }) (table document))
    (option_or (first_in version document Elements) (option_or (first_in version document Links) (first_in version document Sources)))

-- the rows of a document in this version, or the first refusal
abbrev pub rows_in : Version → Members → Result PlanRows PlanFileErr
rows_in version document = unless (first_refusal_in version document) (rows_said_in version document)

-- the rows of a document in the version that it says, or the first refusal
unfoldable pub rows_of_document : Members → Result PlanRows PlanFileErr
rows_of_document document = rows_in (version_of document) document

-- no link of the document names a bundle
abbrev pub NamesNoBundle : Members → Type 0
NamesNoBundle document =
    (i : ℕ) (entry : Data) → slice_get (entries_of Links document) i ≡ Some entry → get (codes "bundle") entry ≡ None
