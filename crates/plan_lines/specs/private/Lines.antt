-- What the lines of a plain text say so far, beside what `toml` makes of the same lines.
use Rattle.std.specs.Prelude.{◌≡◌, ◌⊎◌, ℕ, ◌||◌, Bool, true, false, List, [], ◌∷◌, ◌++◌, codes, Option, Some, None, is_some, option_map, Ok, IsOkAnd, ⊤}
use Rattle.std.specs.Option.{option_map_or}
use Rattle.toml_parser.specs.Lexical.{Read}
use Rattle.toml.specs.Data.{Data, array, table, Items}
use Rattle.toml.specs.Tables.{Node, value, open_array, open_table, Nodes, get_node, close, close_node, Document, define, Expression, key_value}
use Rattle.sync_topo.specs.declared.place.Section.{Section}
use Rattle.sync_topo.specs.declared.place.Section.TheVariants.{Head, Elements, Links, Sources}
use Rattle.sync_topo.specs.declared.rows.PlanRows.{PlanRows}
use Rattle.plan_lines.specs.declared.entry.Entry.{Entry}
use Rattle.plan_lines.specs.declared.entry.Entry.TheVariants as entry
use Rattle.plan_lines.specs.declared.entry.EntryKind.{EntryKind}
use Rattle.plan_lines.specs.declared.entry.EntryKind.TheVariants as kind
use Rattle.plan_lines.specs.declared.entry.SectionRows.{SectionRows}
use Rattle.plan_lines.specs.declared.plain.LinesRead.{LinesRead}
use Rattle.plan_rows.specs.declared.values.HeadValues.{HeadValues}
use Rattle.plan_rows.specs.declared.version.Version.{Version}
use Rattle.plan_rows.specs.declared.version.Version.TheVariants.{One, Two}
use Rattle.plan_rows.specs.Format.{Key, keys_of, section_key, is_version, is_option}
use Rattle.plan_rows.specs.Rules.{has_only, data_of}
use Rattle.plan_rows.specs.Rows.{element_row, link_row, source_row}
use Rattle.plan_rows.specs.private.Rows.{row_at}
use Rattle.plan_rows.specs.Slots.{Slots, said_by, put, is_new, seen}
use Rattle.plan_rows.specs.private.Slots.{slots_of}
use Rattle.plan_rows.specs.Values.{element_slots, link_slots, source_slots, element_said, link_said, source_said, version_in, option_in}

-- the section of each kind of entry, its key and the keys of its tables
abbrev pub section_of : EntryKind → Section
section_of kind.Element = Elements
section_of kind.Link = Links
section_of kind.Source = Sources

abbrev pub key_of : EntryKind → List ℕ
key_of k = section_key (section_of k)

abbrev pub keys_in : EntryKind → List Key
keys_in k = keys_of Two (section_of k)

-- what an entry is of, and what it has
abbrev pub kind_of : Entry → EntryKind
kind_of (entry.Element values) = kind.Element
kind_of (entry.Link values) = kind.Link
kind_of (entry.Source values) = kind.Source

abbrev pub entry_slots : Entry → Slots
entry_slots (entry.Element values) = element_slots values
entry_slots (entry.Link values) = link_slots values
entry_slots (entry.Source values) = source_slots values

-- the entry gives this row, at whatever place it stands
abbrev pub IsRow : {A : Type 0} → Version → (Data → A) → Section → Data → A → Type 0
IsRow version row section said first = (n : ℕ) → row_at version row section n said ≡ Ok first

-- each of the entries gives its row
abbrev pub AreRows : {A : Type 0} → Version → (Data → A) → Section → List Data → List A → Type 0
AreRows version row section [] [] = ⊤
AreRows version row section (said ∷ entries) (first ∷ rows) = IsRow version row section said first × AreRows version row section entries rows
AreRows version row section entries rows = ⊥

-- the rows are those of this version too: in the first no link has a bundle
abbrev pub Allows : Version → Bool → Type 0
Allows One bundled = bundled ≡ false
Allows Two bundled = ⊤

-- the rows so far are those of these entries
abbrev pub GiveRows : EntryKind → SectionRows → List Data → Type 0
GiveRows kind.Element rows entries = AreRows One element_row Elements entries rows.elements
GiveRows kind.Link rows entries = (version : Version) → Allows version rows.bundled → AreRows version (link_row version) Links entries rows.links
GiveRows kind.Source rows entries = AreRows One source_row Sources entries rows.sources

-- the rows after those of one entry more
abbrev pub Adds : Entry → SectionRows → SectionRows → Type 0
Adds (entry.Element values) old new =
    IsOkAnd (said_by (record { section = Elements; row = 0 }) (keys_of Two Elements) element_said (element_slots values))
    (λ row. new ≡ record old { elements = old.elements ++ row ∷ [] })
Adds (entry.Link values) old new =
    IsOkAnd (said_by (record { section = Links; row = 0 }) (keys_of Two Links) link_said (link_slots values))
    (λ row. new ≡ record old { links = old.links ++ row ∷ []; bundled = old.bundled || is_some values.bundle })
Adds (entry.Source values) old new =
    IsOkAnd (said_by (record { section = Sources; row = 0 }) (keys_of Two Sources) source_said (source_slots values))
    (λ row. new ≡ record old { sources = old.sources ++ row ∷ [] })

-- the head has the entries of a section
abbrev pub given_in : EntryKind → HeadValues → Bool
given_in kind.Element head = is_some head.elements
given_in kind.Link head = is_some head.links
given_in kind.Source head = is_some head.sources

-- what the open entry has, if it is one of this kind
abbrev pub opened_in : EntryKind → Option Entry → Option Slots
opened_in kind.Element (Some (entry.Element values)) = Some (element_slots values)
opened_in kind.Link (Some (entry.Link values)) = Some (link_slots values)
opened_in kind.Source (Some (entry.Source values)) = Some (source_slots values)
opened_in k open_entry = None

-- the value that the head gives for a section is an array of these entries
abbrev pub IsGivenBy : (List Data → Type 0) → Data → Type 0
IsGivenBy Give (array found) = Give (data_of found)
IsGivenBy Give d = ⊥

-- the tables of a section's headers, of which the last is closed or open
abbrev pub AreTables : List Key → (List Data → Type 0) → Option Slots → Items → Nodes → Type 0
AreTables keys Give None done last = Give (data_of done ++ table (close last) ∷ [])
AreTables keys Give (Some slots) done last = Give (data_of done) × (slots_of keys (close last) ≡ slots)

-- what stands at the key of a section, beside whether the head gives its entries, and the slots of its open entry
abbrev pub IsPart : List Key → (List Data → Type 0) → Bool → Option Slots → Option Node → Type 0
IsPart keys Give given opened None = (given ≡ false) × (opened ≡ None) × Give []
IsPart keys Give given opened (Some (value d)) = (given ≡ true) × (opened ≡ None) × IsGivenBy Give d
IsPart keys Give given opened (Some (open_array done last)) = (given ≡ false) × AreTables keys Give opened done last
IsPart keys Give given opened (Some (open_table origin inner)) = ⊥

abbrev pub PartOf : EntryKind → LinesRead → Nodes → Type 0
PartOf k read root = IsPart (keys_in k) (GiveRows k read.rows) (given_in k read.head) (opened_in k read.current) (get_node (key_of k) root)

-- the lines say what this root does
pub record IsSaid (read : LinesRead) (root : Nodes) : Type 0 where
  pub version : option_map close_node (get_node (codes "version") root) ≡ seen read.head.version
  pub option : option_map close_node (get_node (codes "option") root) ≡ seen read.head.option
  pub only : has_only (keys_of Two Head) (close root) ≡ true
  pub part : (k : EntryKind) → PartOf k read root

-- the path of what is open
abbrev pub path_of : Option Entry → List (List ℕ)
path_of None = []
path_of (Some opened) = key_of (kind_of opened) ∷ []

-- no header was at this key
abbrev pub HasNoTables : Option Node → Type 0
HasNoTables (Some (open_array done last)) = ⊥
HasNoTables other = ⊤

-- the lines say what `toml` makes of them: of the head until the first header, and then of what is open
pub record Follows (read : LinesRead) (doc : Document) : Type 0 where
  pub said : IsSaid read doc.0
  pub path : doc.1 ≡ path_of read.current
  pub in_head : read.current ≡ None → (k : EntryKind) → HasNoTables (get_node (key_of k) doc.0)

-- the lines say what is defined, which is allowed
abbrev pub Leads : Option Document → LinesRead → Type 0
Leads None read = ⊥
Leads (Some doc) read = Follows read doc

-- so they do of an expression that is read, with this text after it
abbrev pub Takes : Read Expression → Document → List ℕ → LinesRead → Type 0
Takes None doc rest read = ⊥
Takes (Some (e, after)) doc rest read = (after ≡ rest) × Leads (define doc e) read

-- and of a value that is read, at a key
abbrev pub TakesValue : Read Data → List ℕ → Document → List ℕ → LinesRead → Type 0
TakesValue None key doc rest read = ⊥
TakesValue (Some (d, after)) key doc rest read = (after ≡ rest) × Leads (define doc (([], key), key_value d)) read

-- what is open is closed
abbrev pub ClosesIn : Option Entry → LinesRead → LinesRead → Type 0
ClosesIn None old new = new ≡ old
ClosesIn (Some opened) old new = (new.head ≡ old.head) × (new.current ≡ None) × Adds opened old.rows new.rows

abbrev pub Closes : LinesRead → LinesRead → Type 0
Closes old new = ClosesIn old.current old new

-- a value is put at an empty slot of the head
abbrev pub PutsHead : List ℕ → Data → HeadValues → HeadValues → Type 0
PutsHead key d old new =
    ((key ≡ codes "version") × (seen old.version ≡ None) × (seen new.version ≡ Some d) × (new ≡ record old { version = new.version }))
    ⊎ ((key ≡ codes "option") × (seen old.option ≡ None) × (seen new.option ≡ Some d) × (new ≡ record old { option = new.option }))

-- a value is put at an empty slot of what is open
abbrev pub PutsIn : List ℕ → Data → Option Entry → Option Entry → LinesRead → LinesRead → Type 0
PutsIn key d None None old new = (new.rows ≡ old.rows) × PutsHead key d old.head new.head
PutsIn key d (Some before) (Some after) old new =
    (new.rows ≡ old.rows) × (new.head ≡ old.head) × (kind_of after ≡ kind_of before)
    × (is_new (keys_in (kind_of before)) (entry_slots before).values key ≡ true)
    × (entry_slots after ≡ put (keys_in (kind_of before)) (entry_slots before) key d)
PutsIn key d before after old new = ⊥

abbrev pub Puts : List ℕ → Data → LinesRead → LinesRead → Type 0
Puts key d old new = PutsIn key d old.current new.current old new

-- an inline table that is read is this entry
abbrev pub ReadsEntry : EntryKind → Read Data → Entry → List ℕ → Type 0
ReadsEntry k (Some (table fields, after)) made rest = (after ≡ rest) × (kind_of made ≡ k) × (slots_of (keys_in k) fields ≡ entry_slots made)
ReadsEntry k read made rest = ⊥

-- the rows of other kinds are as they were
abbrev pub KeepsOthers : EntryKind → SectionRows → SectionRows → Type 0
KeepsOthers kind.Element old new = new ≡ record old { elements = new.elements }
KeepsOthers kind.Link old new = new ≡ record old { links = new.links; bundled = new.bundled }
KeepsOthers kind.Source old new = new ≡ record old { sources = new.sources }

-- an array that is read is of entries whose rows are put at the end, where there were none
abbrev pub ReadsItems : EntryKind → Read Items → List ℕ → SectionRows → SectionRows → Type 0
ReadsItems k None rest old new = ⊥
ReadsItems k (Some (found, after)) rest old new = (after ≡ rest) × KeepsOthers k old new × (GiveRows k old [] → GiveRows k new (data_of found))

-- the head is noted to have the entries of a section
abbrev pub Gives : EntryKind → HeadValues → HeadValues → Type 0
Gives kind.Element old new = (is_some new.elements ≡ true) × (new ≡ record old { elements = new.elements })
Gives kind.Link old new = (is_some new.links ≡ true) × (new ≡ record old { links = new.links })
Gives kind.Source old new = (is_some new.sources ≡ true) × (new ≡ record old { sources = new.sources })

-- all rows, where what the head has is of its kinds and its version allows the bundles
abbrev pub MakeRows : HeadValues → SectionRows → PlanRows → Type 0
MakeRows head rows all =
    (option_map_or is_version (seen head.version) true ≡ true)
    × (option_map_or is_option (seen head.option) true ≡ true)
    × Allows (version_in (seen head.version)) rows.bundled
    × (all ≡ record { option = option_in (seen head.option); elements = rows.elements; links = rows.links; sources = rows.sources })
