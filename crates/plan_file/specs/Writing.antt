-- The document that is written for a plan: its tables, and the keys of each in the order of the alphabet.
use Rattle.std.specs.Prelude.{ℕ, ◌/◌, pos, Bool, true, false, List, codes, Option, Some, None, is_some}
use Rattle.std.specs.List.{list_any}
use Rattle.toml.specs.Data.{string, integer, Members, no_members, member}
use Rattle.sync_ql.specs.declared.levels.NetOption.{NetOption}
use Rattle.sync_ql.specs.declared.levels.NetOption.TheVariants.{I, II}
use Rattle.sync_ql.specs.declared.levels.Level.{Level}
use Rattle.sync_ql.specs.Level.{name_of}
use Rattle.sync_topo.specs.declared.element.Element.{Element}
use Rattle.sync_topo.specs.declared.link.Link.{Link}
use Rattle.sync_topo.specs.declared.source.Source.{Source}
use Rattle.sync_topo.specs.Topology.{Topology}
use Rattle.sync_topo.specs.Lines.{element_name}

-- the name of a network option
abbrev pub option_name : NetOption → List ℕ
option_name I = codes "I"
option_name II = codes "II"

-- the floor, if the element has one, before the other keys of its table
abbrev pub with_floor : Option Level → Members → Members
with_floor None fields = fields
with_floor (Some floor) fields = member (codes "floor") (string (name_of floor)) fields

-- the table of an element: every key in the order of the alphabet
abbrev pub element_table : Element → Members
element_table element = with_floor element.floor
    (member (codes "holdoff") (integer (pos element.holdoff))
    (member (codes "name") (string element.name)
    (member (codes "own") (string (name_of element.own))
    (member (codes "wtr") (integer (pos (element.wtr / 60000))) no_members))))

-- the bundle, if the link names one, before the keys after it
abbrev pub with_bundle : Option (List ℕ) → Members → Members
with_bundle None fields = fields
with_bundle (Some bundle) fields = member (codes "bundle") (string bundle) fields

-- the table of a link between elements of these names
abbrev pub table_between : List ℕ → List ℕ → Link → Members
table_between a b link =
    member (codes "a") (string a)
    (member (codes "b") (string b)
    (with_bundle link.bundle
    (member (codes "delay_a") (integer (pos link.delay_a))
    (member (codes "delay_b") (integer (pos link.delay_b))
    (member (codes "name") (string link.name)
    (member (codes "priority_a") (integer (pos link.priority_a))
    (member (codes "priority_b") (integer (pos link.priority_b)) no_members)))))))

abbrev pub link_table : Topology → Link → Members
link_table plan link = table_between (element_name plan link.a) (element_name plan link.b) link

-- the table of a source at an element of this name
abbrev pub table_at : List ℕ → Source → Members
table_at at source =
    member (codes "at") (string at)
    (member (codes "level") (string (name_of source.level))
    (member (codes "name") (string source.name)
    (member (codes "priority") (integer (pos source.priority)) no_members)))

abbrev pub source_table : Topology → Source → Members
source_table plan source = table_at (element_name plan source.at) source

-- a link of the plan names a bundle
abbrev pub names_bundle : Topology → Bool
names_bundle plan = list_any (λ link. is_some link.bundle) plan.links

-- the second version, where a bundle needs it, and no version where none does
abbrev pub with_version : Bool → Members
with_version true = member (codes "version") (integer (pos 2)) no_members
with_version false = no_members
