-- The rules for plans: what each says of one row after the rows before it.
use Rattle.std.specs.Prelude.{ℕ, ◌+◌, Bool, true, false, not, ◌&&◌, ◌||◌, nat_le, nat_lt, List, [], ◌∷◌, ◌++◌, length, Option, Some, None, is_some, is_none, option_and_then, ℤ, pos, negsuc}
use Rattle.std.specs.List.{list_any}
use Rattle.std.specs.Str.{bytes_eq}
use Rattle.sync_ql.specs.declared.levels.NetOption.{NetOption}
use Rattle.sync_ql.specs.Level.{level_of_name}
use Rattle.sync_topo.specs.declared.place.Section.{Section}
use Rattle.sync_topo.specs.declared.place.Section.TheVariants.{Elements, Links, Sources}
use Rattle.sync_topo.specs.declared.place.Place.{Place}
use Rattle.sync_topo.specs.declared.error.PlanErr.{PlanErr}
use Rattle.sync_topo.specs.declared.error.PlanErr.TheVariants.{Limit, Name, Twice, NoElement, SelfLink, Range, Bundle, LevelName}
use Rattle.sync_topo.specs.declared.rows.ElementRow.{ElementRow}
use Rattle.sync_topo.specs.declared.rows.LinkRow.{LinkRow}
use Rattle.sync_topo.specs.declared.rows.SourceRow.{SourceRow}
use Rattle.sync_topo.specs.declared.link.Link.{Link}
use Rattle.sync_topo.specs.Topology.{Topology}
use Rattle.sync_topo.specs.Lines.{inputs_of}
use Rattle.sync_topo.specs.Bundles.{is_same_bundle, join_same}
use Rattle.sync_topo.specs.Names.{is_name, is_named, element_names, link_names, source_names}
use Rattle.sync_topo.specs.Limits.{input_limit, least_holdoff, greatest_holdoff, greatest_wtr, least_delay, greatest_delay, greatest_priority}
use Rattle.sync_topo.specs.RowValues.{clock_level, element_of_name, link_from, source_from}

-- a rule at a row: the refusal that tells both, and whether the row breaks the rule
pub record Rule : Type 0 where
  pub refusal : PlanErr
  pub broken : Bool

abbrev pub rule : PlanErr → Bool → Rule
rule refusal broken = record { refusal = refusal; broken = broken }

-- the row of a section that comes after so many
abbrev pub row_after : {A : Type 0} → Section → List A → Place
row_after section before = record { section = section; row = length before + 1 }

-- the row gives a number, and it is outside these limits
abbrev pub is_outside : ℕ → ℕ → Option ℤ → Bool
is_outside low high None = false
is_outside low high (Some (pos n)) = not (nat_le low n && nat_le n high)
is_outside low high (Some (negsuc n)) = true

-- the row gives a name, and no clock may have a level of this name
abbrev pub is_no_clock_level : NetOption → Option (List ℕ) → Bool
is_no_clock_level option name = is_some name && is_none (option_and_then (clock_level option) name)

-- the element has no more nominated inputs than an element may have
abbrev pub has_room : Topology → ℕ → Bool
has_room plan element = nat_le (length (inputs_of plan element)) input_limit

-- the link names a bundle, and this breaks the rule for names
abbrev pub is_bad_bundle_name : Option (List ℕ) → Bool
is_bad_bundle_name None = false
is_bad_bundle_name (Some name) = not (is_name name)

-- the name of the link's bundle is bad, or an earlier link that names it does not join the same two elements
abbrev pub is_bad_bundle : List Link → Link → Bool
is_bad_bundle links link =
    is_bad_bundle_name link.bundle || list_any (λ earlier. is_same_bundle earlier.bundle link.bundle && not (join_same earlier link)) links

-- the rules for an element row, first to last, after the rows that give this plan
abbrev pub element_rules : Topology → ElementRow → List Rule
element_rules plan row =
    let place : Place = row_after Elements plan.elements in
    rule (Name place) (not (is_name row.name))
    ∷ rule (Twice place) (is_named (element_names plan.elements) row.name)
    ∷ rule (Range place) (is_outside least_holdoff greatest_holdoff row.holdoff || is_outside 0 greatest_wtr row.wtr)
    ∷ rule (LevelName place) (is_no_clock_level plan.option row.own || is_no_clock_level plan.option row.floor)
    ∷ []

-- the rules for a link row, after the rows that give this plan: its name is no other link's, and its ends are two elements
abbrev pub link_rules : Topology → LinkRow → List Rule
link_rules plan row =
    let place : Place = row_after Links plan.links in
    let longer : Topology = record plan { links = plan.links ++ link_from plan.elements row ∷ [] } in
    rule (Name place) (not (is_name row.name))
    ∷ rule (Twice place) (is_named (link_names plan.links) row.name)
    ∷ rule (NoElement place) (not (is_named (element_names plan.elements) row.a && is_named (element_names plan.elements) row.b))
    ∷ rule (SelfLink place) (bytes_eq row.a row.b)
    ∷ rule (Range place) (is_outside 0 greatest_priority row.priority_a || is_outside 0 greatest_priority row.priority_b
    || is_outside least_delay greatest_delay row.delay_a || is_outside least_delay greatest_delay row.delay_b)
    ∷ rule (Bundle place) (is_bad_bundle plan.links (link_from plan.elements row))
    ∷ rule (Limit place) (not (has_room longer (element_of_name plan.elements row.a) && has_room longer (element_of_name plan.elements row.b)))
    ∷ []

-- the rules for a source row, after the rows that give this plan: its name is no link's and no other source's
abbrev pub source_rules : Topology → SourceRow → List Rule
source_rules plan row =
    let place : Place = row_after Sources plan.sources in
    let longer : Topology = record plan { sources = plan.sources ++ source_from plan.option plan.elements row ∷ [] } in
    rule (Name place) (not (is_name row.name))
    ∷ rule (Twice place) (is_named (link_names plan.links) row.name || is_named (source_names plan.sources) row.name)
    ∷ rule (NoElement place) (not (is_named (element_names plan.elements) row.at))
    ∷ rule (Range place) (is_outside 0 greatest_priority row.priority)
    ∷ rule (LevelName place) (is_none (level_of_name plan.option row.level))
    ∷ rule (Limit place) (not (has_room longer (element_of_name plan.elements row.at)))
    ∷ []

-- the rule that a section has no more rows than its limit; the first row past it breaks it
abbrev pub row_limit : {A : Type 0} → Section → ℕ → List A → Rule
row_limit section limit rows = rule (Limit (record { section = section; row = limit + 1 })) (nat_lt limit (length rows))
