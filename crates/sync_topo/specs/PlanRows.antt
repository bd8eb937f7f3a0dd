-- The plan that rows give, or the first refusal in the order of the rules and the rows.
use Rattle.std.specs.Prelude.{◌≡◌, ℕ, IsTrue, true, not, if◌then◌else◌, List, [], ◌∷◌, ◌++◌, length, take, flat_map, slice_get, Option, Some, None, Result, Ok, Err}
use Rattle.std.specs.List.{list_all, range_with_len}
use Rattle.std.specs.Option.{option_map_or}
use Rattle.sync_topo.specs.declared.place.Section.TheVariants.{Elements, Links, Sources}
use Rattle.sync_topo.specs.declared.error.PlanErr.{PlanErr}
use Rattle.sync_topo.specs.declared.rows.ElementRow.{ElementRow}
use Rattle.sync_topo.specs.declared.rows.LinkRow.{LinkRow}
use Rattle.sync_topo.specs.declared.rows.SourceRow.{SourceRow}
use Rattle.sync_topo.specs.declared.rows.PlanRows.{PlanRows}
use Rattle.sync_topo.specs.Topology.{Topology}
use Rattle.sync_topo.specs.declared.sizes.Size.{Size}
use Rattle.sync_topo.specs.declared.sizes.Size.TheVariants.{Large}
use Rattle.sync_text.specs.Chain.{◌>>=◌}
use Rattle.sync_topo.specs.Sizes.{most_elements, most_links, most_sources}
use Rattle.sync_topo.specs.RowValues.{plan_from}
use Rattle.sync_topo.specs.Rules.{Rule, rule, element_rules, link_rules, source_rules, row_limit}

-- what rules there are for the row at a place, where `rules` says it of a row after the rows before it
abbrev pub rules_at : {A : Type 0} → (List A → A → List Rule) → List A → ℕ → List Rule
rules_at rules rows place = option_map_or (λ row. rules (take place rows) row) (slice_get rows place) []

-- the rules for each of the rows, one place after the other
abbrev pub each_row : {A : Type 0} → (List A → A → List Rule) → List A → List Rule
each_row rules rows = flat_map (rules_at rules rows) (range_with_len 0 (length rows))

-- the rules for the element rows, then for the link rows, then for the source rows
abbrev pub element_row_rules : PlanRows → List ElementRow → ElementRow → List Rule
element_row_rules rows before row = element_rules (plan_from (record rows { elements = before; links = []; sources = [] })) row

abbrev pub link_row_rules : PlanRows → List LinkRow → LinkRow → List Rule
link_row_rules rows before row = link_rules (plan_from (record rows { links = before; sources = [] })) row

abbrev pub source_row_rules : PlanRows → List SourceRow → SourceRow → List Rule
source_row_rules rows before row = source_rules (plan_from (record rows { sources = before })) row

-- the rules on how many rows there may be for a plan of a size
abbrev pub size_limits : Size → PlanRows → List Rule
size_limits size rows =
    row_limit Elements (most_elements size) rows.elements
    ∷ row_limit Links (most_links size) rows.links
    ∷ row_limit Sources (most_sources size) rows.sources
    ∷ []

-- the rules on how many rows there may be for any plan: those of a large one
abbrev pub limits_of : PlanRows → List Rule
limits_of rows = size_limits Large rows

-- every rule at every row, in order: how many rows there are, then the rows one after the other
abbrev pub rules_of : PlanRows → List Rule
rules_of rows =
    limits_of rows
    ++ each_row (element_row_rules rows) rows.elements
    ++ each_row (link_row_rules rows) rows.links
    ++ each_row (source_row_rules rows) rows.sources

-- the refusal of the first rule that is broken
abbrev pub first_broken : List Rule → Option PlanErr
first_broken [] = None
first_broken (rule ∷ rules) = if rule.broken then Some rule.refusal else first_broken rules

-- the plan, or the refusal where there is one
abbrev pub or_refusal : {A : Type 0} → Option PlanErr → A → Result A PlanErr
or_refusal None plan = Ok plan
or_refusal (Some refusal) plan = Err refusal

-- the plan of the rows: what they say where no rule is broken, and otherwise the refusal of the first rule that is
unfoldable pub plan_of_rows : PlanRows → Result Topology PlanErr
plan_of_rows rows = or_refusal (first_broken (rules_of rows)) (plan_from rows)

-- the plan of the rows in a size: the refusal of the first section that has more rows than the size allows, and else what the rows give
abbrev pub plan_of_sized : Size → PlanRows → Result Topology PlanErr
plan_of_sized size rows = or_refusal (first_broken (size_limits size rows)) rows >>= plan_of_rows

-- no rule is broken
abbrev pub AreKept : List Rule → Type 0
AreKept rules = IsTrue (list_all (λ rule. not rule.broken) rules)

-- one of the rules tells this refusal and is broken, and no rule before it is
pub record IsFirstBroken (rules : List Rule) (refusal : PlanErr) : Type 0 where
  pub before : List Rule
  pub after : List Rule
  pub order : rules ≡ before ++ rule refusal true ∷ after
  pub kept : AreKept before
