-- Names of elements, links and sources.
use Rattle.std.specs.Prelude.{ℕ, Bool, ◌&&◌, ◌||◌, ◌==◌, nat_le, List, length, map, Option, position}
use Rattle.std.specs.List.{list_all, list_any}
use Rattle.std.specs.Str.{bytes_eq}
use Rattle.sync_topo.specs.declared.names.TheConstants.{MOST_NAME_BYTES}
use Rattle.sync_topo.specs.declared.element.Element.{Element}
use Rattle.sync_topo.specs.declared.link.Link.{Link}
use Rattle.sync_topo.specs.declared.source.Source.{Source}

-- the byte is within the two
abbrev pub is_between : ℕ → ℕ → ℕ → Bool
is_between low high byte = nat_le low byte && nat_le byte high

-- A to Z, a to z, 0 to 9, _ or -
abbrev pub is_name_byte : ℕ → Bool
is_name_byte byte = is_between 65 90 byte || is_between 97 122 byte || is_between 48 57 byte || byte == 95 || byte == 45

-- a name has 1 to 32 such bytes. This project's own.
abbrev pub is_name : List ℕ → Bool
is_name name = nat_le 1 (length name) && nat_le (length name) MOST_NAME_BYTES && list_all is_name_byte name

-- one of the names is this one
abbrev pub is_named : List (List ℕ) → List ℕ → Bool
is_named names name = list_any (bytes_eq name) names

-- the place of a name in the list, counted from 0
abbrev pub place_of : List (List ℕ) → List ℕ → Option ℕ
place_of names name = position (bytes_eq name) names

-- the names of elements, of links and of sources, in order
abbrev pub element_names : List Element → List (List ℕ)
element_names elements = map (λ element. element.name) elements

abbrev pub link_names : List Link → List (List ℕ)
link_names links = map (λ link. link.name) links

abbrev pub source_names : List Source → List (List ℕ)
source_names sources = map (λ source. source.name) sources
