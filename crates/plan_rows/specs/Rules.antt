-- The rules for the tables of a document, and the first table that breaks one. This project's own.
use Rattle.std.specs.Prelude.{◌≡◌, ℕ, ◌<◌, ◌⊎◌, zero, suc, Bool, true, not, ◌&&◌, ◌||◌, List, [], ◌∷◌, Option, Some, None, is_some, option_and_then, slice_get, if◌then◌else◌}
use Rattle.std.specs.Option.{option_map_or}
use Rattle.std.specs.List.{list_all, list_any}
use Rattle.std.specs.Str.{bytes_eq}
use Rattle.toml.specs.Data.{Data, Items, no_items, item, table, Members, no_members, member, get_member, as_array}
use Rattle.sync_topo.specs.declared.place.Place.{Place}
use Rattle.sync_topo.specs.declared.place.Section.{Section}
use Rattle.sync_topo.specs.declared.place.Section.TheVariants.{Head, Elements, Links, Sources}
use Rattle.plan_rows.specs.declared.error.PlanFileErr.{PlanFileErr}
use Rattle.plan_rows.specs.declared.version.Version.{Version}
use Rattle.plan_rows.specs.declared.error.PlanFileErr.TheVariants.{Key as WrongKey, Kind as WrongKind}
use Rattle.plan_rows.specs.Format.{Key, keys_of, section_key, version_of}

-- the table's keys are all among these
abbrev pub has_only : List Key → Members → Bool
has_only keys no_members = true
has_only keys (member name value fields) = list_any (λ key. bytes_eq key.name name) keys && has_only keys fields

-- the table has each of these keys that it must have
abbrev pub has_needed : List Key → Members → Bool
has_needed keys fields = list_all (λ key. not key.needed || is_some (get_member key.name fields)) keys

-- what the table has at each of these keys is of the key's kind
abbrev pub keeps_kinds : List Key → Members → Bool
keeps_kinds keys fields = list_all (λ key. option_map_or key.takes (get_member key.name fields) true) keys

-- the rule that the value at a place breaks, if it breaks one: it is a table, with the keys of its section in this version,
-- and with values of their kinds
unfoldable pub refusal_of : Version → Place → Data → Option PlanFileErr
refusal_of version place (table fields) =
    let keys = keys_of version place.section in
    if not (has_only keys fields && has_needed keys fields) then Some (WrongKey place)
    else if not (keeps_kinds keys fields) then Some (WrongKind place)
    else None
refusal_of version place value = Some (WrongKind place)

-- the entries of a section: those of the array at its key, and none where no array is
abbrev pub data_of : Items → List Data
data_of no_items = []
data_of (item entry entries) = entry ∷ data_of entries

abbrev pub entries_of : Section → Members → List Data
entries_of section document =
    option_map_or data_of (option_and_then as_array (get_member (section_key section) document)) []

-- what stands at a place of the document: itself at row 0 of the head, and the entries of each section from row 1 on
abbrev pub value_at : Members → Place → Option Data
value_at document place = at_row place.section place.row
  where
    at_row : Section → ℕ → Option Data
    at_row Head zero = Some (table document)
    at_row Head (suc row) = None
    at_row section zero = None
    at_row section (suc row) = slice_get (entries_of section document) row

-- the rule that is broken at a place
abbrev pub refusal_at : Members → Place → Option PlanFileErr
refusal_at document place = option_and_then (refusal_of (version_of document) place) (value_at document place)

-- sections in the order in which their rows count
abbrev pub order_of : Section → ℕ
order_of Head = 0
order_of Elements = 1
order_of Links = 2
order_of Sources = 3

-- a place comes before another: its section does, or in one section its row does
abbrev pub IsBefore : Place → Place → Type 0
IsBefore place other =
    (order_of place.section < order_of other.section)
    ⊎ ((place.section ≡ other.section) × (place.row < other.row))

-- this rule is broken at this place, and none at an earlier place
pub record IsFirstBroken (document : Members) (place : Place) (refusal : PlanFileErr) : Type 0 where
  pub broken : refusal_at document place ≡ Some refusal
  pub first : (earlier : Place) → IsBefore earlier place → refusal_at document earlier ≡ None

-- no rule is broken at any place
abbrev pub KeepsRules : Members → Type 0
KeepsRules document = (place : Place) → refusal_at document place ≡ None
