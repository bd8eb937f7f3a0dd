-- The tables of a plan file: which keys each has, and what stands at each. This project's own.
use Rattle.std.specs.Prelude.{ℕ, pos, Bool, true, false, ◌==◌, List, [], ◌∷◌, codes, Option, Some, None, is_some, option_and_then, unwrap_or, if◌then◌else◌}
use Rattle.std.specs.Str.{bytes_eq}
use Rattle.toml.specs.Data.{Data, Members, integer, as_str, as_integer, as_array, get_member}
use Rattle.sync_ql.specs.declared.levels.NetOption.{NetOption}
use Rattle.sync_ql.specs.declared.levels.NetOption.TheVariants.{I, II}
use Rattle.sync_topo.specs.declared.place.Section.{Section}
use Rattle.plan_rows.specs.declared.version.Version.{Version}
use Rattle.plan_rows.specs.declared.version.Version.TheVariants.{One, Two}
use Rattle.sync_topo.specs.declared.place.Section.TheVariants.{Head, Elements, Links, Sources}

-- a text, an integer, an array: no value of another kind is taken for one
abbrev pub is_text : Data → Bool
is_text value = is_some (as_str value)

abbrev pub is_integer : Data → Bool
is_integer value = is_some (as_integer value)

abbrev pub is_array : Data → Bool
is_array value = is_some (as_array value)

-- the version of the format that an integer says
abbrev pub version_of_number : ℕ → Option Version
version_of_number n = if n == 1 then Some One else if n == 2 then Some Two else None

-- the version of the format that a value says, if it says one
abbrev pub version_said : Data → Option Version
version_said (integer (pos n)) = version_of_number n
version_said value = None

abbrev pub is_version : Data → Bool
is_version value = is_some (version_said value)

-- the version of a document: the first where it says none
abbrev pub version_of : Members → Version
version_of document = unwrap_or (option_and_then version_said (get_member (codes "version") document)) One

-- the network option of a text
abbrev pub option_of : List ℕ → Option NetOption
option_of text = if bytes_eq text (codes "I") then Some I else if bytes_eq text (codes "II") then Some II else None

-- the text of a network option
abbrev pub is_option : Data → Bool
is_option value = is_some (option_and_then option_of (as_str value))

-- a key of a table: its name, whether a table must have it, and what may stand at it
pub record Key : Type 0 where
  pub name : List ℕ
  pub needed : Bool
  pub takes : Data → Bool

abbrev pub required : List ℕ → (Data → Bool) → Key
required name takes = record { name = name; needed = true; takes = takes }

abbrev pub optional : List ℕ → (Data → Bool) → Key
optional name takes = record { name = name; needed = false; takes = takes }

-- the key of a link that names its bundle, in version 2 alone
abbrev pub bundle_key : Version → List Key
bundle_key One = []
bundle_key Two = optional (codes "bundle") is_text ∷ []

-- the keys of the head, which is the document itself, and of the tables of each section
abbrev pub keys_of : Version → Section → List Key
keys_of version Head =
    optional (codes "version") is_version
    ∷ optional (codes "option") is_option
    ∷ optional (codes "element") is_array
    ∷ optional (codes "link") is_array
    ∷ optional (codes "source") is_array
    ∷ []
keys_of version Elements =
    required (codes "name") is_text
    ∷ optional (codes "own") is_text
    ∷ optional (codes "floor") is_text
    ∷ optional (codes "holdoff") is_integer
    ∷ optional (codes "wtr") is_integer
    ∷ []
keys_of version Links =
    required (codes "name") is_text
    ∷ required (codes "a") is_text
    ∷ required (codes "b") is_text
    ∷ optional (codes "priority_a") is_integer
    ∷ optional (codes "priority_b") is_integer
    ∷ optional (codes "delay_a") is_integer
    ∷ optional (codes "delay_b") is_integer
    ∷ bundle_key version
keys_of version Sources =
    required (codes "name") is_text
    ∷ required (codes "at") is_text
    ∷ required (codes "level") is_text
    ∷ optional (codes "priority") is_integer
    ∷ []

-- the head's key of a section; the head is at none
abbrev pub section_key : Section → List ℕ
section_key Head = []
section_key Elements = codes "element"
section_key Links = codes "link"
section_key Sources = codes "source"
