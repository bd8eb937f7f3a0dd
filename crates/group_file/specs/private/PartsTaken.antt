-- How the parts of one group are kept: what only private clauses cite.
use Rattle.std.specs.Prelude.{◌≡◌, ℕ, Bool, List, length}
use Rattle.sync_topo.specs.Topology.{Topology}
use Rattle.reach_rules.specs.declared.group.Group.{Group}
use Rattle.group_file.specs.declared.kind.Kind.{Kind}
use Rattle.group_file.specs.declared.kind.Kind.TheVariants.{Link, Source, Element}
use Rattle.group_file.specs.declared.parts.PartsSoFar.{PartsSoFar}
use Rattle.group_file.specs.Kinds.{count_of}

-- the parts of a kind, in order
abbrev pub listed_in : PartsSoFar → Kind → List ℕ
listed_in parts Link = parts.links.listed
listed_in parts Source = parts.sources.listed
listed_in parts Element = parts.elements.listed

-- there is a mark for each part of the plan
abbrev pub flags_in : PartsSoFar → Kind → List Bool
flags_in parts Link = parts.links.flags
flags_in parts Source = parts.sources.flags
flags_in parts Element = parts.elements.flags

abbrev pub HasRoom : Topology → PartsSoFar → Type 0
HasRoom plan parts = (kind : Kind) → length (flags_in parts kind) ≡ count_of plan kind

-- the group of a name with these parts
abbrev pub group_with : PartsSoFar → List ℕ → Group
group_with parts name = record { name = name; links = listed_in parts Link; sources = listed_in parts Source; elements = listed_in parts Element }
