-- The kinds of parts, and the parts that they name. This project's own.
use Rattle.std.specs.Prelude.{ℕ, Bool, true, false, List, length, codes, Option, Some, None, if◌then◌else◌}
use Rattle.std.specs.Str.{bytes_eq}
use Rattle.sync_topo.specs.Topology.{Topology}
use Rattle.sync_topo.specs.Names.{place_of, element_names, link_names, source_names}
use Rattle.group_file.specs.declared.kind.Kind.{Kind}
use Rattle.group_file.specs.declared.kind.Kind.TheVariants.{Link, Source, Element}

-- the kind that some bytes are the word for
abbrev pub kind_of : List ℕ → Option Kind
kind_of bytes =
    if bytes_eq bytes (codes "link") then Some Link
    else if bytes_eq bytes (codes "source") then Some Source
    else if bytes_eq bytes (codes "element") then Some Element
    else None

-- two kinds are one
abbrev pub is_same_kind : Kind → Kind → Bool
is_same_kind Link Link = true
is_same_kind Source Source = true
is_same_kind Element Element = true
is_same_kind kind other = false

-- how many parts of a kind a plan has
abbrev pub count_of : Topology → Kind → ℕ
count_of plan Link = length plan.links
count_of plan Source = length plan.sources
count_of plan Element = length plan.elements

-- the number of the part of a kind that has the name
abbrev pub part_of_name : Topology → Kind → List ℕ → Option ℕ
part_of_name plan Link name = place_of (link_names plan.links) name
part_of_name plan Source name = place_of (source_names plan.sources) name
part_of_name plan Element name = place_of (element_names plan.elements) name
